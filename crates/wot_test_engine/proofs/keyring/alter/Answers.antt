use Rattle.wot_policy.specs.Kept.{rows_of}
use Rattle.wot_test_engine.proofs.keyring.alter.Goals as goal

pub import-requires-clause-judging : goal.import-requires-clause-judging
import-requires-clause-judging g c = record { judged = c.requires.judged; faithful = c.requires.faithful }

pub returns-in-Set-clause-judged : goal.returns-in-Set-clause-judged
returns-in-Set-clause-judged g c = c.set_verdict.ensures.judged (rows_of c.args.policy.now) c.requires.judged

pub returns-in-Clear-clause-judged : goal.returns-in-Clear-clause-judged
returns-in-Clear-clause-judged g c = c.clear_verdict.ensures.judged (rows_of c.args.policy.now) c.requires.judged

pub returns-in-Remove-clause-judged : goal.returns-in-Remove-clause-judged
returns-in-Remove-clause-judged g c = c.remove.ensures.judged (rows_of c.args.policy.now) c.requires.judged
