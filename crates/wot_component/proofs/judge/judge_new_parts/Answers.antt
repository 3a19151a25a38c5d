use Rattle.std.proofs.Common.{◌≡◌, ◌<◌, ◌+◌, ◌∷◌, List, length, length-set, ap, ◌∙◌, subst, arith}
use Rattle.wot_policy.specs.declared.rows.PolicyRows.{PolicyRows}
use Rattle.wot_policy.specs.Kept.{rows_of}
use Rattle.wot_component.specs.Certificate.{Component}
use Rattle.wot_component.specs.New.{judged_parts, sound_new_on}
use Rattle.wot_component.proofs.PolicyAsked.{asked_again}
use Rattle.wot_component.proofs.StepInPlace.{step_list, step_count}
use Rattle.wot_component.proofs.judge.judge_new_parts.Goals as goal

pub loop-at-preserved : goal.loop-at-preserved
loop-at-preserved g c =
    let i = c.loop-at.invariant in
    let xs = c.loop-at.parts.items in
    let lt : c.loop-at.at < length xs = omega (arith, i.as_long) in
    let y = c.index_mut-part.result.now in
    let v = c.judge_one_part-left.new.part in
    let old = c.loop-at.left.now in
    let new = c.judge_one_part-left.result.now in
    let S : PolicyRows → Type 0 =
    λ rows. (rest : List Component) → judged_parts rows (y ∷ rest) old ≡ v ∷ judged_parts rows rest new in
    let step = subst S (ap rows_of i.asked.1) c.judge_one_part-left.ensures.judged in
    let more = c.judge_one_part-left.ensures.asked in
    record {
      as_long = length-set xs c.loop-at.at v ∙ i.as_long;
      marked = step_list (judged_parts (rows_of c.args.policy.now)) xs c.loop-at.at y v old new _ lt
          c.index_mut-part.ensures.value i.marked step;
      asked = (
        i.asked.0 + more.0,
        asked_again c.args.policy.now c.loop-at.policy c.judge_one_part-left.new.policy i.asked.0 more.0 i.asked.1
            more.1,
        step_count sound_new_on xs c.loop-at.at y v old new _ i.asked.0 more.0 lt c.index_mut-part.ensures.value
            i.asked.2 more.2,
      );
      faithful = c.judge_one_part-left.ensures.faithful;
    }
