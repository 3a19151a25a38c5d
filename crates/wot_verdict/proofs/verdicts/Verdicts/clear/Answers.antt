use Rattle.std.proofs.Common.{ap, sym, ◌∙◌, is_some, refl}
use Rattle.wot_verdict.proofs.Changed.{found_in}
use Rattle.wot_verdict.proofs.Holding.{same_holders}
use Rattle.wot_verdict.proofs.verdicts.Verdicts.clear.Goals as goal

pub returns-clause-cleared : goal.returns-clause-cleared
returns-clause-cleared c = rw (← c.self.view_is) c.clear_counted.ensures.cleared

pub returns-clause-at_each : goal.returns-clause-at_each
returns-clause-at_each c = λ q. rw (← c.self.view_is) (c.clear_counted.ensures.at_each q)

pub returns-clause-was_there : goal.returns-clause-was_there
returns-clause-was_there c = rw (← c.self.view_is) (c.clear_counted.ensures.was_there
    ∙ ap is_some (sym (found_in c.self.inside.held c.args.number.now)))

pub returns-clause-holders : goal.returns-clause-holders
returns-clause-holders c =
    rw (← c.self.view_is) (same_holders c.self.inside.held c.clear_counted.new.held c.self.inside.long.entries
    c.self.inside.long.entries c.clear_counted.ensures.holders refl)
