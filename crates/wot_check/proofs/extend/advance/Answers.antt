use Rattle.std.proofs.Common.{Vec, Global, refl, ap, ◌∙◌}
use Rattle.std.proofs.lemmas.Result.{on_ok_weaker}
use Rattle.wot_types.specs.declared.fpr.Fpr.{Fpr}
use Rattle.wot_check.specs.declared.growth.Growth.{Growth}
use Rattle.wot_check.specs.Asked.{question_of, used_in}
use Rattle.wot_check.proofs.AfterALayer.{advanced}
use Rattle.wot_check.proofs.extend.advance.Goals as goal

pub returns : goal.returns
returns g c =
    let q = question_of (g.R.Roads.network c.args.roads.now) c.args.asked.now in
    let now : Growth = record { table = c.args.growth.now.table; layer = c.replace-layer.new.dest } in
    let l = c.deref.ensures.value ∙ ap (λ (v : Vec Fpr Global). v.items) c.replace-layer.ensures.value in
    let e = ap (λ (v : Vec Fpr Global). v.items) c.replace-layer.ensures.after ∙ c.new.ensures.items in
    record {
      after = on_ok_weaker c.extend_all.result
          (λ grown. advanced q (used_in c.args.asked.now) c.args.size c.args.growth.now now c.extend_all.new.growth
          c.deref.result.now l refl e grown) c.extend_all.ensures.grown;
    }
