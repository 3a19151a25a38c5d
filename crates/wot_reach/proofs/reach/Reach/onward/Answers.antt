use Rattle.std.proofs.Common.{◌≡◌, ap, sym, subst, ◌∙◌}
use Rattle.wot_reach.specs.Onward.{AreOnward}
use Rattle.wot_reach.specs.Reach.{Table, number_at}
use Rattle.wot_reach.proofs.reach.Reach.onward.Goals as goal

pub returns-in-Some : goal.returns-in-Some
returns-in-Some c = record {
  leads = λ network are.
      let same : c.args.self.now.onward ≡ c.deref.result.now =
      ap (λ (table : Table). table.onward) (sym c.self.view_is) ∙ sym c.deref.ensures.value in
      c.onward_at.ensures.leads (number_at c.args.self.now) network
      (subst (AreOnward network (number_at c.args.self.now)) same are);
}
