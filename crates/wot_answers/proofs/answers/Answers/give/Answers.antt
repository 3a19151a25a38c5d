use Rattle.std.proofs.Common.{sym, ap, subst, ◌∙◌}
use Rattle.wot_answers.specs.Answers.{AreRight, AreRightIn, OfView, WereKept}
use Rattle.wot_answers.specs.Looked.{Amounts}
use Rattle.wot_answers.proofs.answers.Answers.give.Goals as goal

pub give-requires : goal.give-requires
give-requires c =
    let k = c.args.parts.now.keyring.now in
    let same = ap (λ (v : OfView). v.roots) c.self.view_is ∙ c.requires.settled.roots in
    record {
      right = subst (λ (roots : Amounts). AreRight k roots c.self.inside.revision c.self.inside.table.entries) same
          (subst (λ (v : OfView). AreRightIn k v) (sym c.self.view_is) c.requires.settled.right).each;
    }

pub returns-clause-settled : goal.returns-clause-settled
returns-clause-settled c =
    let k = c.args.parts.now.keyring.now in
    let same = ap (λ (v : OfView). v.roots) c.self.view_is ∙ c.requires.settled.roots in
    let before = subst (λ (v : OfView). AreRightIn k v) (sym c.self.view_is) c.requires.settled.right in
    record {
      right = record {
        each = subst (λ (roots : Amounts). AreRight k roots c.self.inside.revision c.give.new.table.entries) (sym same)
            c.give.ensures.right;
        reach = before.reach;
      };
      roots = same;
    }

pub returns-clause-kept : goal.returns-clause-kept
returns-clause-kept c =
    subst (λ (v : OfView). WereKept v.entries c.give.new.table.entries) c.self.view_is c.give.ensures.kept
