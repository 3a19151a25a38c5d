use Rattle.std.proofs.Common.{map}
use Rattle.wot_keyring.specs.Dump.{setting_of}
use Rattle.wot_keyring.proofs.Lines.{PutSoFar}
use Rattle.wot_keyring.proofs.dump.put_verdicts.Given as goal

abbrev pub invariant-verdicts : goal.invariant-verdicts
invariant-verdicts l =
    (goal.iterator-verdicts).can_next l.number-iterator
    × (goal.iterator-verdicts).is_finite l.number-iterator
    × PutSoFar l.fn.out.items l.out.items (map setting_of l.fn.verdicts.entries) (map setting_of l.number-iterator)
