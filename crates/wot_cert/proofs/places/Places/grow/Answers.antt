use Rattle.std.proofs.Common.{◌+◌, ◌≤◌, ℕ, List, map, refl, ap, ◌∙◌}
use Rattle.wot_policy.specs.declared.rows.PolicyRows.{PolicyRows}
use Rattle.wot_policy.specs.Kept.{rows_of}
use Rattle.wot_component.specs.Certificate.{Component, part_cmp, part_with, unite_part, unite_parts}
use Rattle.wot_component.specs.Counts.{sum_of}
use Rattle.wot_component.specs.Growing.{sound_weight}
use Rattle.wot_component.specs.Judged.{if_sound, judged_sig}
use Rattle.wot_cert.proofs.AllPlaces.{all_four, up_to_one, up_to_two, up_to_three, up_to_four, same_sigs, same_parts}
use Rattle.wot_cert.proofs.AllPlaces.{less_by, counts_four}
use Rattle.wot_component.proofs.PolicyAsked.{asked_again}
use Rattle.wot_component.proofs.Fits.{parts_fit}
use Rattle.wot_component.proofs.Weights.{part_more, united_more}
use Rattle.wot_cert.proofs.places.Places.grow.Goals as goal

-- what a place has weighs no less in the union
part_least : (rows : PolicyRows) (a b : List Component)
    → sum_of sound_weight a ≤ sum_of sound_weight (unite_parts a (map (part_with (judged_sig rows)) b))
part_least rows a b =
    united_more part_cmp unite_part sound_weight (part_more if_sound (λ _. 0) (λ x y. refl)) a
    (map (part_with (judged_sig rows)) b)

pub put_parts-requires-clause-fit : goal.put_parts-requires-clause-fit
put_parts-requires-clause-fit g c = rw c.user_ids.ensures.user_ids (parts_fit _ _ _ c.user_ids.ensures.set.1)

pub put_parts-requires-2-clause-fit : goal.put_parts-requires-2-clause-fit
put_parts-requires-2-clause-fit g c = rw c.attributes.ensures.attributes (parts_fit _ _ _ c.attributes.ensures.set.1)

pub put_parts-requires-3-clause-fit : goal.put_parts-requires-3-clause-fit
put_parts-requires-3-clause-fit g c = rw c.subkeys.ensures.subkeys (parts_fit _ _ _ c.subkeys.ensures.set.1)

pub returns-in-Err-clause-asked : goal.returns-in-Err-clause-asked
returns-in-Err-clause-asked g c =
    let p = c.args.policy.now in
    let rows : PolicyRows = rows_of p in
    let s = c.args.self.now in
    let o = c.args.other.now in
    let a0 = c.in-Err.ensures.asked in
    let q0 = a0.1 in
    let k0 : ℕ = a0.0 in
    let e0 = same_sigs rows rows s.direct.items c.direct.result.now o.direct refl c.direct.ensures.direct in (
      k0,
      q0,
      up_to_one a0.0 _ _ _ _ _ _ _ _ (less_by a0.0 _ _ _ a0.2 e0) (part_least rows s.user_ids.items o.user_ids)
          (part_least rows s.attributes.items o.attributes) (part_least rows s.subkeys.items o.subkeys),
    )

pub returns-in-Err-put_parts-clause-asked : goal.returns-in-Err-put_parts-clause-asked
returns-in-Err-put_parts-clause-asked g c =
    let p = c.args.policy.now in
    let rows : PolicyRows = rows_of p in
    let s = c.args.self.now in
    let o = c.args.other.now in
    let a0 = c.in-Ok.ensures.asked in
    let q0 = a0.1 in
    let k0 : ℕ = a0.0 in
    let e0 = same_sigs rows rows s.direct.items c.direct.result.now o.direct refl c.direct.ensures.direct in
    let a1 = c.in-Err-put_parts.ensures.asked in
    let k1 : ℕ = k0 + a1.0 in
    let q1 = asked_again p c.put_sigs.new.policy c.put_parts.new.policy k0 a1.0 q0 a1.1 in
    let e1 = same_parts rows (rows_of c.put_sigs.new.policy) s.user_ids.items c.user_ids.result.now o.user_ids
    (ap rows_of q0) c.user_ids.ensures.user_ids in (
      k1,
      q1,
      up_to_two a0.0 a1.0 _ _ _ _ _ _ _ _ (a0.2 ∙ e0) (less_by a1.0 _ _ _ a1.2 e1)
          (part_least rows s.attributes.items o.attributes) (part_least rows s.subkeys.items o.subkeys),
    )

pub returns-in-Err-put_parts-2-clause-asked : goal.returns-in-Err-put_parts-2-clause-asked
returns-in-Err-put_parts-2-clause-asked g c =
    let p = c.args.policy.now in
    let rows : PolicyRows = rows_of p in
    let s = c.args.self.now in
    let o = c.args.other.now in
    let a0 = c.in-Ok.ensures.asked in
    let q0 = a0.1 in
    let k0 : ℕ = a0.0 in
    let e0 = same_sigs rows rows s.direct.items c.direct.result.now o.direct refl c.direct.ensures.direct in
    let a1 = c.in-Ok-put_parts.ensures.asked in
    let k1 : ℕ = k0 + a1.0 in
    let q1 = asked_again p c.put_sigs.new.policy c.put_parts.new.policy k0 a1.0 q0 a1.1 in
    let e1 = same_parts rows (rows_of c.put_sigs.new.policy) s.user_ids.items c.user_ids.result.now o.user_ids
    (ap rows_of q0) c.user_ids.ensures.user_ids in
    let a2 = c.in-Err-put_parts-2.ensures.asked in
    let k2 : ℕ = k1 + a2.0 in
    let q2 = asked_again p c.put_parts.new.policy c.put_parts-2.new.policy k1 a2.0 q1 a2.1 in
    let e2 = same_parts rows (rows_of c.put_parts.new.policy) s.attributes.items c.attributes.result.now o.attributes
    (ap rows_of q1) c.attributes.ensures.attributes in (
      k2,
      q2,
      up_to_three a0.0 a1.0 a2.0 _ _ _ _ _ _ _ _ (a0.2 ∙ e0) (a1.2 ∙ e1) (less_by a2.0 _ _ _ a2.2 e2)
          (part_least rows s.subkeys.items o.subkeys),
    )

pub returns-in-Err-put_parts-3-clause-asked : goal.returns-in-Err-put_parts-3-clause-asked
returns-in-Err-put_parts-3-clause-asked g c =
    let p = c.args.policy.now in
    let rows : PolicyRows = rows_of p in
    let s = c.args.self.now in
    let o = c.args.other.now in
    let a0 = c.in-Ok.ensures.asked in
    let q0 = a0.1 in
    let k0 : ℕ = a0.0 in
    let e0 = same_sigs rows rows s.direct.items c.direct.result.now o.direct refl c.direct.ensures.direct in
    let a1 = c.in-Ok-put_parts.ensures.asked in
    let k1 : ℕ = k0 + a1.0 in
    let q1 = asked_again p c.put_sigs.new.policy c.put_parts.new.policy k0 a1.0 q0 a1.1 in
    let e1 = same_parts rows (rows_of c.put_sigs.new.policy) s.user_ids.items c.user_ids.result.now o.user_ids
    (ap rows_of q0) c.user_ids.ensures.user_ids in
    let a2 = c.in-Ok-put_parts-2.ensures.asked in
    let k2 : ℕ = k1 + a2.0 in
    let q2 = asked_again p c.put_parts.new.policy c.put_parts-2.new.policy k1 a2.0 q1 a2.1 in
    let e2 = same_parts rows (rows_of c.put_parts.new.policy) s.attributes.items c.attributes.result.now o.attributes
    (ap rows_of q1) c.attributes.ensures.attributes in
    let a3 = c.in-Err-put_parts-3.ensures.asked in
    let k3 : ℕ = k2 + a3.0 in
    let q3 = asked_again p c.put_parts-2.new.policy c.put_parts-3.new.policy k2 a3.0 q2 a3.1 in
    let e3 = same_parts rows (rows_of c.put_parts-2.new.policy) s.subkeys.items c.subkeys.result.now o.subkeys
    (ap rows_of q2) c.subkeys.ensures.subkeys in (
      k3,
      q3,
      up_to_four a0.0 a1.0 a2.0 a3.0 _ _ _ _ _ _ _ _ (a0.2 ∙ e0) (a1.2 ∙ e1) (a2.2 ∙ e2)
          (less_by a3.0 _ _ _ a3.2 e3),
    )

pub returns-in-Ok-put_parts-3-clause-asked : goal.returns-in-Ok-put_parts-3-clause-asked
returns-in-Ok-put_parts-3-clause-asked g c =
    let p = c.args.policy.now in
    let rows : PolicyRows = rows_of p in
    let s = c.args.self.now in
    let o = c.args.other.now in
    let a0 = c.in-Ok.ensures.asked in
    let q0 = a0.1 in
    let k0 : ℕ = a0.0 in
    let e0 = same_sigs rows rows s.direct.items c.direct.result.now o.direct refl c.direct.ensures.direct in
    let a1 = c.in-Ok-put_parts.ensures.asked in
    let k1 : ℕ = k0 + a1.0 in
    let q1 = asked_again p c.put_sigs.new.policy c.put_parts.new.policy k0 a1.0 q0 a1.1 in
    let e1 = same_parts rows (rows_of c.put_sigs.new.policy) s.user_ids.items c.user_ids.result.now o.user_ids
    (ap rows_of q0) c.user_ids.ensures.user_ids in
    let a2 = c.in-Ok-put_parts-2.ensures.asked in
    let k2 : ℕ = k1 + a2.0 in
    let q2 = asked_again p c.put_parts.new.policy c.put_parts-2.new.policy k1 a2.0 q1 a2.1 in
    let e2 = same_parts rows (rows_of c.put_parts.new.policy) s.attributes.items c.attributes.result.now o.attributes
    (ap rows_of q1) c.attributes.ensures.attributes in
    let a3 = c.in-Ok-put_parts-3.ensures.asked in
    let k3 : ℕ = k2 + a3.0 in
    let q3 = asked_again p c.put_parts-2.new.policy c.put_parts-3.new.policy k2 a3.0 q2 a3.1 in
    let e3 = same_parts rows (rows_of c.put_parts-2.new.policy) s.subkeys.items c.subkeys.result.now o.subkeys
    (ap rows_of q2) c.subkeys.ensures.subkeys in
    (k3, q3, all_four a0.0 a1.0 a2.0 a3.0 _ _ _ _ _ _ _ _ (a0.2 ∙ e0) (a1.2 ∙ e1) (a2.2 ∙ e2) (a3.2 ∙ e3))

pub returns-in-Ok-put_parts-3-clause-follow : goal.returns-in-Ok-put_parts-3-clause-follow
returns-in-Ok-put_parts-3-clause-follow g c = record {
  items = counts_four _ _ _ _ _ _ _ _ _ _ _ _ _ c.in-Ok.ensures.follow.items c.in-Ok-put_parts.ensures.follow.items
      c.in-Ok-put_parts-2.ensures.follow.items c.in-Ok-put_parts-3.ensures.follow.items;
  signatures = counts_four _ _ _ _ _ _ _ _ _ _ _ _ _ c.in-Ok.ensures.follow.signatures
      c.in-Ok-put_parts.ensures.follow.signatures c.in-Ok-put_parts-2.ensures.follow.signatures
      c.in-Ok-put_parts-3.ensures.follow.signatures;
  octets = counts_four _ _ _ _ _ _ _ _ _ _ _ _ _ c.in-Ok.ensures.follow.octets c.in-Ok-put_parts.ensures.follow.octets
      c.in-Ok-put_parts-2.ensures.follow.octets c.in-Ok-put_parts-3.ensures.follow.octets;
}
