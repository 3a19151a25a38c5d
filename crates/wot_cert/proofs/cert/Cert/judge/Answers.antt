use Rattle.std.proofs.Common.{ℕ, ◌+◌, ap, ◌∙◌}
use Rattle.wot_policy.specs.Kept.{rows_of}
use Rattle.wot_component.specs.Certificate.{Certificate}
use Rattle.wot_component.specs.Judged.{judged, sound_of}
use Rattle.wot_cert.specs.Parts.{of_places}
use Rattle.wot_cert.proofs.MergedMarks.{all_marked, all_asked}
use Rattle.wot_cert.proofs.NewTotals.{lists_cert}
use Rattle.wot_component.proofs.PolicyAsked.{asked_again}
use Rattle.wot_cert.proofs.cert.Cert.judge.Goals as goal

pub invariant_of-self : goal.invariant_of-self
invariant_of-self g c =
    lists_cert _ _ _ _ _ _ _ _ _ _ _ _ _ c.judge_new.ensures.judged c.judge_new_parts.ensures.judged
    c.judge_new_parts-2.ensures.judged c.judge_new_parts-3.ensures.judged _ _ _ c.self.invariant

pub returns : goal.returns
returns g c =
    let p = c.args.policy.now in
    let cert : Certificate = of_places c.self.inside.body.items c.self.inside.places in
    let direct = c.judge_new.ensures in
    let ids = c.judge_new_parts.ensures in
    let attributes = c.judge_new_parts-2.ensures in
    let subkeys = c.judge_new_parts-3.ensures in
    let k1 : ℕ = direct.asked.0 in
    let q1 = direct.asked.1 in
    let k2 : ℕ = k1 + ids.asked.0 in
    let q2 = asked_again p c.judge_new.new.policy c.judge_new_parts.new.policy k1 ids.asked.0 q1 ids.asked.1 in
    let k3 : ℕ = k2 + attributes.asked.0 in
    let q3 = asked_again p c.judge_new_parts.new.policy c.judge_new_parts-2.new.policy k2 attributes.asked.0 q2
    attributes.asked.1 in
    record {
      judged = all_marked (rows_of p) _ _ _ cert _ _ _ _ (ap rows_of q1) (ap rows_of q2) (ap rows_of q3) direct.judged
          ids.judged attributes.judged subkeys.judged ∙ ap (judged (rows_of p)) c.self.view_is;
      asked = (
        k3 + subkeys.asked.0,
        asked_again p c.judge_new_parts-2.new.policy c.judge_new_parts-3.new.policy k3 subkeys.asked.0 q3
            subkeys.asked.1,
        all_asked cert _ _ _ _ direct.asked.2 ids.asked.2 attributes.asked.2 subkeys.asked.2
            ∙ ap sound_of c.self.view_is,
      );
      faithful = subkeys.faithful;
    }
