use Rattle.wot_pattern.proofs.MatchesMeaning.{matching_tells}
use Rattle.wot_pattern.proofs.laws.matching_is_told.Goals as goal

pub returns : goal.returns
returns c = record { reported = λ text reading. ((matching_tells text reading).says, (matching_tells text reading).said) }
