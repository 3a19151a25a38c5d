use Rattle.std.specs.Prelude.{IfSome}
use Rattle.std.proofs.Common.{Option, sym, ap, subst, ◌∙◌}
use Rattle.wot_answers.specs.declared.reach.KeptReach.{KeptReach}
use Rattle.wot_answers.specs.Answers.{AreRightIn, IsReaching, OfView}
use Rattle.wot_answers.specs.Looked.{Amounts}
use Rattle.wot_answers.proofs.answers.Answers.reach.Goals as goal

pub give-requires : goal.give-requires
give-requires c =
    let k = c.args.parts.now.keyring.now in
    let revision = c.self.inside.revision in
    let before = subst (λ (v : OfView). AreRightIn k v) (sym c.self.view_is) c.requires.settled.right in
    let same = ap (λ (v : OfView). v.roots) c.self.view_is ∙ c.requires.settled.roots in
    let there = subst (λ (o : Option KeptReach). IfSome o (IsReaching k c.self.inside.roots.items revision)) c.in-Some.is
    before.reach in
    record { reaching = subst (λ (roots : Amounts). IsReaching k roots revision c.in-Some.kept) same there }
