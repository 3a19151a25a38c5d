use Rattle.wot_component.proofs.NewWhole.{judged_rising}
use Rattle.wot_component.proofs.part.Part.judge_new.Goals as goal

pub invariant_of-self : goal.invariant_of-self
invariant_of-self g c = rw c.judge_new.ensures.judged (judged_rising _ _ _ c.self.invariant)
