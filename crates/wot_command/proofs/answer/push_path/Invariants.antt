use Rattle.std.proofs.Common.{◌≡◌, ◌++◌, length, map}
use Rattle.wot_cache.specs.State.{state_of}
use Rattle.wot_plain.specs.Answer.{path_lines, step_line}
use Rattle.wot_command.proofs.answer.push_path.Given as goal

abbrev pub invariant-steps : goal.invariant-steps
invariant-steps l = l.lines ++ map (step_line (state_of l.fn.engine)) l.left ≡ l.fn.lines ++ path_lines
    (state_of l.fn.engine) l.fn.path

abbrev pub decreases-steps : goal.decreases-steps
decreases-steps l = length l.left
