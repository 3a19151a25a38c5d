use Rattle.std.proofs.Common.{map}
use Rattle.wot_cache.specs.Dump.{root_of}
use Rattle.wot_cache.proofs.Lines.{PutSoFar}
use Rattle.wot_cache.proofs.dump.put_roots.Given as goal

abbrev pub invariant-roots : goal.invariant-roots
invariant-roots l =
    (goal.iterator-roots).can_next l.fpr-iterator
    × (goal.iterator-roots).is_finite l.fpr-iterator
    × PutSoFar l.fn.out.items l.out.items (map (root_of l.fn.view) l.fn.roots) (map (root_of l.fn.view) l.fpr-iterator)
