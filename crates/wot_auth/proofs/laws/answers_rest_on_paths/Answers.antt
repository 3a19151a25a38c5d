use Rattle.wot_auth.proofs.SlicesSuffice.{within_alike}
use Rattle.wot_auth.proofs.laws.answers_rest_on_paths.Goals as goal

pub returns : goal.returns
returns c = within_alike
