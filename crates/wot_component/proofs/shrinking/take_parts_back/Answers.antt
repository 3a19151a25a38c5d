use Rattle.wot_component.proofs.Backs.{parts_on}
use Rattle.wot_component.proofs.shrinking.take_parts_back.Goals as goal

pub log-preserved : goal.log-preserved
log-preserved c =
    parts_on c.args.log.items c.log.log.items c.pop.new.self.items c.in-Some.step c.log.parts.items
    c.take_step_back.new.parts.items c.args.parts.now.items c.log.invariant c.in-Some.ensures.items
    c.take_step_back.ensures
