use Rattle.std.proofs.Common.{◌≡◌, length}
use Rattle.wot_component.specs.Counts.{sigs_on}
use Rattle.wot_keyring_spec.specs.Verdict.{is_among}
use Rattle.wot_index.proofs.restamp.has_sig_on.Given as goal

abbrev pub invariant-parts : goal.invariant-parts
invariant-parts l = is_among l.number (sigs_on l.left) ≡ is_among l.number (sigs_on l.parts)

abbrev pub decreases-parts : goal.decreases-parts
decreases-parts l = length l.left
