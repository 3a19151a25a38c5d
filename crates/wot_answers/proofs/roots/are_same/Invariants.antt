use Rattle.std.proofs.Common.{◌≡◌}
use Rattle.wot_answers.proofs.roots.are_same.Given as goal

abbrev pub invariant-roots : goal.invariant-roots
invariant-roots l =
    (goal.iterator-roots).can_next l.fpr-iterator
    × (goal.iterator-roots).is_finite l.fpr-iterator
    × (l.rest ≡ l.fpr-iterator → l.known ≡ l.roots)
