use Rattle.std.proofs.Common.{Some, ap, ◌∙◌}
use Rattle.wot_types.specs.declared.fpr.Fpr.{Fpr}
use Rattle.wot_verdict.specs.Kept.{short_in}
use Rattle.wot_verdict.proofs.Holding.{found_far, found_near}
use Rattle.wot_verdict.proofs.verdicts.Verdicts.holder.Goals as goal

pub returns-in-Some : goal.returns-in-Some
returns-in-Some c = record {
  holder =
      rw (← c.self.view_is) (ap (λ (f : Fpr). Some f) c.full_of.ensures.full
      ∙ found_near c.self.inside.held c.self.inside.long.entries c.args.number.now c.in-Some.short
      (c.in-Some.ensures.holder ∙ ap short_in c.get.ensures.held));
}

pub returns-in-None : goal.returns-in-None
returns-in-None c = record {
  holder =
      rw (← c.self.view_is) (c.copied.ensures ∙ c.get-in-None.ensures.value
      ∙ found_far c.self.inside.held c.self.inside.long.entries c.args.number.now
      (c.in-None.ensures.holder ∙ ap short_in c.get.ensures.held));
}
