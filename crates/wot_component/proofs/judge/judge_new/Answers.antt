use Rattle.std.proofs.Common.{◌≡◌, ◌<◌, ◌+◌, ◌∷◌, List, length, length-set, ap, ◌∙◌, subst, arith}
use Rattle.wot_policy.specs.declared.rows.PolicyRows.{PolicyRows}
use Rattle.wot_policy.specs.Kept.{rows_of}
use Rattle.wot_component.specs.Certificate.{Signature}
use Rattle.wot_component.specs.New.{judged_sigs, sound_new}
use Rattle.wot_component.proofs.PolicyAsked.{asked_again}
use Rattle.wot_component.proofs.StepInPlace.{step_list, step_count}
use Rattle.wot_component.proofs.judge.judge_new.Goals as goal

pub loop-at-preserved : goal.loop-at-preserved
loop-at-preserved g c =
    let i = c.loop-at.invariant in
    let xs = c.loop-at.sigs.items in
    let lt : c.loop-at.at < length xs = omega (arith, i.as_long) in
    let y = c.index_mut-sig.result.now in
    let v = c.judge_one-left.new.sig in
    let old = c.loop-at.left.now in
    let new = c.judge_one-left.result.now in
    let S : PolicyRows → Type 0 =
    λ rows. (rest : List Signature) → judged_sigs rows (y ∷ rest) old ≡ v ∷ judged_sigs rows rest new in
    let step = subst S (ap rows_of i.asked.1) c.judge_one-left.ensures.judged in
    let more = c.judge_one-left.ensures.asked in
    record {
      as_long = length-set xs c.loop-at.at v ∙ i.as_long;
      marked = step_list (judged_sigs (rows_of c.args.policy.now)) xs c.loop-at.at y v old new _ lt
          c.index_mut-sig.ensures.value i.marked step;
      asked = (
        i.asked.0 + more.0,
        asked_again c.args.policy.now c.loop-at.policy c.judge_one-left.new.policy i.asked.0 more.0 i.asked.1 more.1,
        step_count sound_new xs c.loop-at.at y v old new _ i.asked.0 more.0 lt c.index_mut-sig.ensures.value i.asked.2
            more.2,
      );
      faithful = c.judge_one-left.ensures.faithful;
    }
