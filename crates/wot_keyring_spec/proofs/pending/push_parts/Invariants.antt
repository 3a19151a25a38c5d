use Rattle.std.proofs.Common.{◌≡◌, ◌++◌, length}
use Rattle.wot_component.specs.Counts.{sigs_on}
use Rattle.wot_keyring_spec.specs.Pending.{pending_among}
use Rattle.wot_keyring_spec.proofs.pending.push_parts.Given as goal

abbrev pub invariant-parts : goal.invariant-parts
invariant-parts l = l.out.items ++ pending_among l.verdicts.entries l.fpr
    (sigs_on l.left) ≡ l.initial.out.items ++ pending_among l.verdicts.entries l.fpr (sigs_on l.parts)

abbrev pub decreases-parts : goal.decreases-parts
decreases-parts l = length l.left
