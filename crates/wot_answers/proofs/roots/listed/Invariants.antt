use Rattle.std.proofs.Common.{◌≡◌, ◌++◌}
use Rattle.wot_answers.proofs.roots.listed.Given as goal

abbrev pub invariant-roots : goal.invariant-roots
invariant-roots l =
    (goal.iterator-roots).can_next l.fpr-iterator
    × (goal.iterator-roots).is_finite l.fpr-iterator
    × (l.listed.items ++ l.fpr-iterator ≡ l.roots)
