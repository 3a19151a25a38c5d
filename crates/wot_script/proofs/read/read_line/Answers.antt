use Rattle.std.proofs.Common.{sym}
use Rattle.wot_script.proofs.ReadBounds.{spelled_at}
use Rattle.wot_script.proofs.read.read_line.Goals as goal

pub returns-in-Ok-Some-clause-spelled : goal.returns-in-Ok-Some-clause-spelled
returns-in-Ok-Some-clause-spelled c =
    (spelled_at c.state_lines_fit.ensures c.args.line.now c.in-Ok-Some.command (sym (rw c.in-Ok-Some.field-0-is at c.in-Ok-Some.ensures))).0

pub returns-in-Ok-Some-clause-within : goal.returns-in-Ok-Some-clause-within
returns-in-Ok-Some-clause-within c =
    (spelled_at c.state_lines_fit.ensures c.args.line.now c.in-Ok-Some.command (sym (rw c.in-Ok-Some.field-0-is at c.in-Ok-Some.ensures))).1
