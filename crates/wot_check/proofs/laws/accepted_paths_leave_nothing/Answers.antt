use Rattle.wot_check.proofs.CheckResults.{accepts_spent}
use Rattle.wot_check.proofs.laws.accepted_paths_leave_nothing.Goals as goal

pub returns : goal.returns
returns c = record { spent = λ q claims table good a. accepts_spent q good claims table a }
