use Rattle.wot_io.specs.Input.{lines_of}
use Rattle.wot_policy.specs.declared.rows.PolicyRows.{PolicyRows}
use Rattle.wot_laws.specs.OneLine.{OneOutcome}
use Rattle.wot_laws.proofs.Runs.{RepliesTo-one, RepliesTo-some}
use Rattle.wot_laws.proofs.lines.each_input_has_one_transcript.Goals as goal

law : (c : goal.After-each_line_has_one_outcome) (rows : PolicyRows) → OneOutcome rows
law c rows = record {
  some = c.each_line_has_one_outcome.ensures.some rows;
  one = c.each_line_has_one_outcome.ensures.one rows;
  stays = c.each_line_has_one_outcome.ensures.stays rows;
  tells = c.each_line_has_one_outcome.ensures.tells;
  tells_one = c.each_line_has_one_outcome.ensures.tells_one;
}

pub returns-clause-some : goal.returns-clause-some
returns-clause-some c rows world input = RepliesTo-some rows (law c rows) world (lines_of input)

pub returns-clause-one : goal.returns-clause-one
returns-clause-one c rows world input replies others p q = RepliesTo-one rows (law c rows) world (lines_of input)
    replies others p q
