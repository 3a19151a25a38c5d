use Rattle.wot_standing.proofs.CountsAsIssuer.{only_counting}
use Rattle.wot_standing.proofs.laws.certifications_count.Goals as goal

pub returns : goal.returns
returns c = record { only = only_counting }
