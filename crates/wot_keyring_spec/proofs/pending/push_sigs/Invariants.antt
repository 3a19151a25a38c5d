use Rattle.std.proofs.Common.{◌≡◌, ◌++◌, length}
use Rattle.wot_keyring_spec.specs.Pending.{pending_among}
use Rattle.wot_keyring_spec.proofs.pending.push_sigs.Given as goal

abbrev pub invariant-sigs : goal.invariant-sigs
invariant-sigs l = l.out.items ++ pending_among l.verdicts.entries l.fpr l.left ≡ l.initial.out.items ++ pending_among
    l.verdicts.entries l.fpr l.sigs

abbrev pub decreases-sigs : goal.decreases-sigs
decreases-sigs l = length l.left
