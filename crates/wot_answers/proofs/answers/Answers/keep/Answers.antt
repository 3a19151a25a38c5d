use Rattle.std.proofs.Common.{refl, sym, ap, subst}
use Rattle.wot_answers.specs.Answers.{AreRightIn, IsFound, IsSameBut, OfView, WereKeptOr}
use Rattle.wot_answers.specs.Looked.{Amounts}
use Rattle.wot_answers.proofs.Grounds.{good_at, right_again}
use Rattle.wot_answers.proofs.WereKept.{but_carries, kept_as, kept_further, kept_or}
use Rattle.wot_answers.proofs.answers.Answers.keep.Goals as goal

pub returns-clause-right : goal.returns-clause-right
returns-clause-right c k all right found =
    let roots = c.self.inside.roots.items in
    let revision = c.self.inside.revision in
    let answer = record c.args.answer { revision = revision } in
    let same = ap (λ (v : OfView). v.roots) c.self.view_is in
    let here = subst (λ (amounts : Amounts). IsFound k amounts c.args.answer) (sym same) found in
    let before = subst (λ (v : OfView). AreRightIn k v) (sym c.self.view_is) all in
    record {
      each = c.add-self-inside.ensures.right k roots revision (c.make_room-self-inside.ensures.right k roots revision
          before.each)
          (right_again k c.args.answer answer refl right) (good_at k roots revision c.args.answer here);
      reach = before.reach;
    }

pub returns-clause-kept : goal.returns-clause-kept
returns-clause-kept c =
    let old = c.self.inside.table.entries in
    let mid = c.make_room-self-inside.new.table.entries in
    let new = c.add-self-inside.new.table.entries in
    let Same = IsSameBut c.args.answer in
    let answer = record c.args.answer { revision = c.self.inside.revision } in
    subst (λ (v : OfView). WereKeptOr Same v.entries new) c.self.view_is
    (kept_further Same (but_carries c.args.answer) old mid new (kept_or Same old mid c.make_room-self-inside.ensures.kept)
    (kept_as Same (but_carries c.args.answer) mid new answer refl c.add-self-inside.ensures.kept))
