use Rattle.std.proofs.Common.{◌∷◌}
use Rattle.wot_signature.specs.Signature.{facts_of, read_body_of}
use Rattle.wot_signature.specs.VersionFour.{read_v4}
use Rattle.wot_signature.proofs.ReadBefore.{facts_before}
use Rattle.wot_signature.proofs.laws.facts_of_version_four.Goals as goal

pub returns : goal.returns
unfolding facts_of read_body_of
returns c = record { facts = λ rest free. facts_before (read_v4 (4 ∷ rest)) free }
