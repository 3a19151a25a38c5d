use Rattle.wot_cert.proofs.NewTotals.{lists_cert}
use Rattle.wot_cert.proofs.cert.Cert.judge_new.Goals as goal

pub invariant_of-self : goal.invariant_of-self
invariant_of-self g c =
    lists_cert _ _ _ _ _ _ _ _ _ _ _ _ _ c.judge_new.ensures.judged c.judge_new_parts.ensures.judged
    c.judge_new_parts-2.ensures.judged c.judge_new_parts-3.ensures.judged _ _ _ c.self.invariant
