use Rattle.wot_edge.specs.Roots.{NoneOver}
use Rattle.wot_search.proofs.offers.is_most.Given as goal

abbrev pub invariant-roots : goal.invariant-roots
invariant-roots l =
    (goal.iterator-roots).can_next l._fpr-iterator
    × (goal.iterator-roots).is_finite l._fpr-iterator
    × (NoneOver l.amount l._fpr-iterator → NoneOver l.amount l.roots)
