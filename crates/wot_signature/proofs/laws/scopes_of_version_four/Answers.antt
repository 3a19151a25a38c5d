use Rattle.std.proofs.Common.{◌∷◌}
use Rattle.wot_signature.specs.Signature.{scopes_of, read_body_of}
use Rattle.wot_signature.specs.VersionFour.{read_v4}
use Rattle.wot_signature.proofs.ReadBefore.{scopes_before}
use Rattle.wot_signature.proofs.laws.scopes_of_version_four.Goals as goal

pub returns : goal.returns
unfolding scopes_of read_body_of
returns c = record { scopes = λ rest. scopes_before (read_v4 (4 ∷ rest)) }
