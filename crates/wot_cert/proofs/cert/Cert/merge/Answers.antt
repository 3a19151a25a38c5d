use Rattle.std.proofs.Common.{◌+◌, refl, sym, ap, ◌∙◌, subst, arith}
use Rattle.wot_policy.specs.Kept.{rows_of}
use Rattle.wot_component.specs.Certificate.{unite}
use Rattle.wot_component.specs.Counts.{items_of}
use Rattle.wot_component.specs.Judged.{IsJudged, sound_of, if_sound}
use Rattle.wot_cert.proofs.MergedMarks.{merged, merged_sound, merged_judged}
use Rattle.wot_component.proofs.TextSize.{union_items, first_items, more_items}
use Rattle.wot_component.proofs.Weights.{beside_weight}
use Rattle.wot_cert.proofs.cert.Cert.merge.Goals as goal

pub overflow_sub-added : goal.overflow_sub-added
overflow_sub-added g c =
    let e = ap items_of c.in-Ok.ensures.union in
    let m = more_items (rows_of c.args.policy.now) c.args.self.now c.args.other.now in
    let u = union_items (rows_of c.args.policy.now) c.args.self.now c.args.other.now c.requires.sizes in
    let f = first_items c.args.self.now c.args.other.now c.requires.sizes in
    omega (arith, e, m, u, f, c.items.ensures.items, c.items-in-Ok.ensures.items)

pub returns-in-Ok-clause-union : goal.returns-in-Ok-clause-union
returns-in-Ok-clause-union g c =
    c.in-Ok.ensures.union
    ∙ merged (rows_of c.args.policy.now) c.args.self.now c.args.other.now c.has_key_of.ensures.whole.0
    c.has_key_of.ensures.whole.1

pub returns-in-Ok-clause-judged : goal.returns-in-Ok-clause-judged
returns-in-Ok-clause-judged g c =
    let e = c.in-Ok.ensures.union
    ∙ merged (rows_of c.args.policy.now) c.args.self.now c.args.other.now c.has_key_of.ensures.whole.0
    c.has_key_of.ensures.whole.1 in
    λ j. subst (IsJudged (rows_of c.args.policy.now)) (sym e)
    (merged_judged (rows_of c.args.policy.now) c.args.self.now c.args.other.now j)

pub returns-in-Ok-clause-items : goal.returns-in-Ok-clause-items
returns-in-Ok-clause-items g c =
    let e = ap items_of c.in-Ok.ensures.union in
    let m = more_items (rows_of c.args.policy.now) c.args.self.now c.args.other.now in
    let u = union_items (rows_of c.args.policy.now) c.args.self.now c.args.other.now c.requires.sizes in
    let f = first_items c.args.self.now c.args.other.now c.requires.sizes in
    omega (arith, e, m, u, f, c.items.ensures.items, c.items-in-Ok.ensures.items)

pub returns-in-Ok-clause-asked : goal.returns-in-Ok-clause-asked
returns-in-Ok-clause-asked g c =
    let a = c.args.self.now in
    let b = c.args.other.now in
    let more = c.in-Ok.ensures.asked in
    let total = ap sound_of c.in-Ok.ensures.union
    ∙ beside_weight if_sound (λ _. 0) (rows_of c.args.policy.now) (λ s. refl) (λ old p. refl) a (unite a b) in (
      more.0,
      more.1,
      ap (λ k. k + sound_of a) more.2 ∙ merged_sound a b c.has_key_of.ensures.whole.0 c.has_key_of.ensures.whole.1
          ∙ sym total,
    )
