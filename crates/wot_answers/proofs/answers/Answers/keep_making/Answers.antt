use Rattle.std.proofs.Common.{sym, ap, subst, ◌∙◌}
use Rattle.wot_answers.specs.Answers.{AreRightIn, IsReaching, OfView}
use Rattle.wot_answers.specs.Looked.{Amounts}
use Rattle.wot_answers.proofs.answers.Answers.keep_making.Goals as goal

pub returns : goal.returns
returns c =
    let k = c.args.parts.now.keyring.now in
    let before = subst (λ (v : OfView). AreRightIn k v) (sym c.self.view_is) c.requires.settled.right in
    let same = ap (λ (v : OfView). v.roots) c.self.view_is ∙ c.requires.settled.roots in
    let reaching = subst (λ (roots : Amounts). IsReaching k roots c.self.inside.revision c.new.result)
    (sym same) c.new.ensures.reaching in
    record {
      settled = record { right = record { each = before.each; reach = reaching }; roots = same };
      kept = ap (λ (v : OfView). v.entries) c.self.view_is;
    }
