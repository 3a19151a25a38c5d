use Rattle.wot_cert.proofs.UnionLaws.{none-first, none-last}
use Rattle.wot_cert.proofs.laws.united_with_nothing.Goals as goal

pub returns : goal.returns
returns c = record { first = none-first; last = none-last }
