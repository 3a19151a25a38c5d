use Rattle.wot_component.proofs.Backs.{back_on}
use Rattle.wot_component.proofs.shrinking.take_sigs_back.Goals as goal

pub log-preserved : goal.log-preserved
log-preserved c =
    back_on c.args.log.items c.log.log.items c.pop.new.self.items c.in-Some.at c.log.sigs.items
    c.take_out.new.items.items c.args.sigs.now.items c.log.invariant c.in-Some.ensures.items c.take_out.ensures
