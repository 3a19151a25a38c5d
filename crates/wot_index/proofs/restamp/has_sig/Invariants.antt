use Rattle.std.proofs.Common.{◌≡◌, length}
use Rattle.wot_keyring_spec.specs.Verdict.{is_among}
use Rattle.wot_index.proofs.restamp.has_sig.Given as goal

abbrev pub invariant-sigs : goal.invariant-sigs
invariant-sigs l = is_among l.number l.left ≡ is_among l.number l.sigs

abbrev pub decreases-sigs : goal.decreases-sigs
decreases-sigs l = length l.left
