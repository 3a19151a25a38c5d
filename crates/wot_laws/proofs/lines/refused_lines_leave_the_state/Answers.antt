use Rattle.wot_laws.proofs.Refusals.{step_leaves}
use Rattle.wot_laws.proofs.lines.refused_lines_leave_the_state.Goals as goal

pub returns : goal.returns
returns c rows old line given reply new step refused = step_leaves rows old line given reply new step refused
