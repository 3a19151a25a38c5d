use Rattle.std.proofs.Common.{◌∙◌}
use Rattle.wot_index.proofs.Indexed.{forgot_last}
use Rattle.wot_index.proofs.index.forget_logged.Goals as goal

pub log-preserved : goal.log-preserved
log-preserved c = record {
  forgotten = λ n. forgot_last c.log.verdicts c.forget.new.verdicts c.log.log.items c.pop.new.self.items
      c.in-Some.number c.in-Some.ensures.items c.forget.ensures.forgotten n ∙ c.log.invariant.forgotten n;
  verdicts = c.forget.ensures.verdicts ∙ c.log.invariant.verdicts;
}
