use Rattle.wot_pattern.proofs.RelationsDecided.{reading_says, reading_told}
use Rattle.wot_pattern.proofs.laws.reading_is_told.Goals as goal

pub returns : goal.returns
returns c = record { reported = λ text reading. (reading_says text reading, reading_told text reading) }
