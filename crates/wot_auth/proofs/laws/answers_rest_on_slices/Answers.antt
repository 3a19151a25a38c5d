use Rattle.wot_auth.proofs.SlicesSuffice.{slices_alike, valid_within}
use Rattle.wot_auth.proofs.laws.answers_rest_on_slices.Goals as goal

pub returns : goal.returns
returns c = record { within = valid_within; alike = slices_alike }
