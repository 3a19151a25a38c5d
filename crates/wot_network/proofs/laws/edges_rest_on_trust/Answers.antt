use Rattle.wot_network.proofs.EdgesAreCertified.{rests_on_certifications, rests_on_trust}
use Rattle.wot_network.proofs.laws.edges_rest_on_trust.Goals as goal

pub returns : goal.returns
returns c = record { made = rests_on_certifications; trust = rests_on_trust }
