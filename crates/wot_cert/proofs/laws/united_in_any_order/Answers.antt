use Rattle.wot_cert.proofs.UnionLaws.{associates, commutes, itself}
use Rattle.wot_cert.proofs.laws.united_in_any_order.Goals as goal

pub returns : goal.returns
returns c = record { groups = associates; order = commutes; twice = itself }
