use Rattle.std.proofs.Common.{◌≡◌, ◌++◌, map}
use Rattle.wot_answers.specs.Looked.{look}
use Rattle.wot_answers.proofs.looked.look_at.Given as goal

abbrev pub invariant-fprs : goal.invariant-fprs
invariant-fprs l =
    (goal.iterator-fprs).can_next l.fpr-iterator
    × (goal.iterator-fprs).is_finite l.fpr-iterator
    × (l.looked.items ++ map (look l.keyring l.roots) l.fpr-iterator ≡ map (look l.keyring l.roots) l.consulted)
