use Rattle.std.proofs.Common.{None}
use Rattle.wot_verdict.specs.Kept.{shorts_in}
use Rattle.wot_verdict.proofs.Holding.{gone_from_both, holds_at}
use Rattle.wot_verdict.proofs.verdicts.Verdicts.let_go.Goals as goal

pub returns-clause-gone : goal.returns-clause-gone
returns-clause-gone c =
    let old = c.self.inside.held in
    let new = c.let_short_go.new.held in
    let long = c.self.inside.long.entries in
    rw (← c.self.view_is) (holds_at old new long c.remove.new.self.entries c.args.number.now None
    (gone_from_both (shorts_in old) long c.args.number.now (shorts_in new) c.remove.new.self.entries
    c.let_short_go.ensures.gone c.remove.ensures.updates.0))

pub invariant_of-self : goal.invariant_of-self
invariant_of-self c = c.let_short_go.ensures.kept c.self.inside.count c.self.invariant
