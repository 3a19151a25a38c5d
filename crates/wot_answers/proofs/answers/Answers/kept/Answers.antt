use Rattle.std.proofs.Common.{sym, subst}
use Rattle.wot_answers.specs.Answers.{AreRightIn, IsAmong, OfView}
use Rattle.wot_answers.specs.RightLaws.{answer_found}
use Rattle.wot_answers.proofs.answers.Answers.kept.Goals as goal

pub returns-in-Some : goal.returns-in-Some
returns-in-Some c = record {
  right = λ k all.
      let before = subst (λ (v : OfView). AreRightIn k v) (sym c.self.view_is) all in
      (answer_found k c.self.inside.roots.items c.self.inside.revision c.self.inside.table.entries c.key_of.result
      c.in-Some.kept.now before.each (sym c.in-Some.ensures.value)).0;
  found = subst (λ (v : OfView). IsAmong v.entries c.in-Some.kept.now) c.self.view_is
      (c.key_of.result, sym c.in-Some.ensures.value);
}
