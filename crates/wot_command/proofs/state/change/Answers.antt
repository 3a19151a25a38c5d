use Rattle.std.proofs.Common.{refl}
use Rattle.wot_policy.specs.Kept.{rows_of}
use Rattle.wot_command.proofs.state.change.Goals as goal

pub import-requires-clause-ready : goal.import-requires-clause-ready
import-requires-clause-ready g c = c.requires.ready

pub import-requires-clause-judging : goal.import-requires-clause-judging
import-requires-clause-judging g c = c.requires.judging

pub returns-in-Import-clause-gives : goal.returns-in-Import-clause-gives
returns-in-Import-clause-gives g c = rw c.in-Import.is (rw c.items.ensures.whole at c.import.ensures.gives)

pub returns-in-Import-clause-held : goal.returns-in-Import-clause-held
returns-in-Import-clause-held g c = c.import.ensures.held

pub returns-in-Import-clause-judging : goal.returns-in-Import-clause-judging
returns-in-Import-clause-judging g c = c.import.ensures.judging

pub remove-requires : goal.remove-requires
remove-requires g c = record { ready = c.requires.ready }

pub returns-in-Remove-clause-held : goal.returns-in-Remove-clause-held
returns-in-Remove-clause-held g c = c.remove.ensures.held

pub returns-in-Remove-clause-judging : goal.returns-in-Remove-clause-judging
returns-in-Remove-clause-judging g c = record {
  judged = c.remove.ensures.judged (rows_of c.args.policy.now) c.requires.judging.judged;
  faithful = c.requires.judging.faithful;
  rows = refl;
}

pub set_verdict-requires : goal.set_verdict-requires
set_verdict-requires g c = record { ready = c.requires.ready }

pub returns-in-Judge-clause-held : goal.returns-in-Judge-clause-held
returns-in-Judge-clause-held g c = c.set_verdict.ensures.held

pub returns-in-Judge-clause-judging : goal.returns-in-Judge-clause-judging
returns-in-Judge-clause-judging g c = record {
  judged = c.set_verdict.ensures.judged (rows_of c.args.policy.now) c.requires.judging.judged;
  faithful = c.requires.judging.faithful;
  rows = refl;
}

pub clear_verdict-requires : goal.clear_verdict-requires
clear_verdict-requires g c = record { ready = c.requires.ready }

pub returns-in-Unjudge-clause-held : goal.returns-in-Unjudge-clause-held
returns-in-Unjudge-clause-held g c = c.clear_verdict.ensures.held

pub returns-in-Unjudge-clause-judging : goal.returns-in-Unjudge-clause-judging
returns-in-Unjudge-clause-judging g c = record {
  judged = c.clear_verdict.ensures.judged (rows_of c.args.policy.now) c.requires.judging.judged;
  faithful = c.requires.judging.faithful;
  rows = refl;
}
