use Rattle.std.proofs.Common.{◌∷◌}
use Rattle.wot_signature.specs.Signature.{hint_of, read_body_of}
use Rattle.wot_signature.specs.VersionFour.{read_v4}
use Rattle.wot_signature.proofs.ReadBefore.{hint_before}
use Rattle.wot_signature.proofs.laws.hint_of_version_four.Goals as goal

pub returns : goal.returns
unfolding hint_of read_body_of
returns c = record { hint = λ rest. hint_before (read_v4 (4 ∷ rest)) }
