use Rattle.std.proofs.Common.{◌+◌, ◌-◌, ◌<◌, ◌^◌, refl, sym, ap, ◌∙◌, subst}
use Rattle.wot_policy.specs.Kept.{rows_of}
use Rattle.wot_component.specs.Certificate.{Certificate, unite}
use Rattle.wot_component.specs.Counts.{items_of}
use Rattle.wot_component.specs.Judged.{IsJudged, if_sound, judged, sound_of}
use Rattle.wot_component.specs.Text.{size_of}
use Rattle.wot_component.proofs.PolicyAsked.{not_asked}
use Rattle.wot_cert.proofs.Grown.{no_fewer, is_union, is_whole, new_totals, items_more, items_new}
use Rattle.wot_cert.proofs.MergedMarks.{merged_judged}
use Rattle.wot_component.proofs.Weights.{unite_more}
use Rattle.wot_cert.proofs.cert.Cert.grow.Goals as goal

pub returns-then-not-has_key_of-clause-asked : goal.returns-then-not-has_key_of-clause-asked
returns-then-not-has_key_of-clause-asked g c =
    let a = c.args.self.now in
    let b = judged (rows_of c.args.policy.now) c.args.other.now in
    (0, not_asked c.args.policy.now, no_fewer sound_of a (unite a b) (unite_more if_sound (λ _. 0) (λ x y. refl) a b))

pub overflow_sub-growth : goal.overflow_sub-growth
overflow_sub-growth g c =
    items_more (rows_of c.args.policy.now) c.self.inside.places c.grow.new.self c.args.other.now
    c.self.inside.body.items c.self.inside.totals c.grow.new.totals c.self.invariant.1 c.in-Ok.ensures.follow
    c.in-Ok.ensures.united

pub invariant_of-self : goal.invariant_of-self
invariant_of-self g c =
    let same = ap (λ (x : Certificate). x.key) c.self.view_is ∙ c.if-not-has_key_of.ensures.same in (
      (
        c.self.invariant.0.0,
        c.self.invariant.0.1,
        is_whole (rows_of c.args.policy.now) c.self.inside.places c.grow.new.self c.args.other.now
            c.self.inside.body.items c.in-Ok.ensures.united c.self.invariant.0.2 c.has_key_of.ensures.whole.1 same,
      ),
      new_totals (rows_of c.args.policy.now) c.self.inside.places c.grow.new.self c.args.other.now
          c.self.inside.body.items c.self.inside.totals c.grow.new.totals c.self.invariant.1 c.in-Ok.ensures.follow,
    )

pub returns-in-Ok-clause-judged : goal.returns-in-Ok-clause-judged
returns-in-Ok-clause-judged g c = λ j.
    let rows = rows_of c.args.policy.now in
    let u = is_union rows c.self.inside.places c.grow.new.self c.args.other.now c.self.inside.body.items
    c.in-Ok.ensures.united in
    subst (IsJudged rows) (sym u) (merged_judged rows _ c.args.other.now (subst (IsJudged rows) (sym c.self.view_is) j))

pub returns-in-Ok-clause-items : goal.returns-in-Ok-clause-items
returns-in-Ok-clause-items g c =
    let rows = rows_of c.args.policy.now in
    let few = subst (λ (x : Certificate). size_of x + size_of c.args.other.now < 2 ^ 63) (sym c.self.view_is)
    c.requires.sizes in
    ap (λ (x : Certificate). c.grow.new.totals.items - c.self.inside.totals.items + items_of x) (sym c.self.view_is)
    ∙ items_new rows c.self.inside.places c.grow.new.self c.args.other.now c.self.inside.body.items c.self.inside.totals
    c.grow.new.totals c.self.invariant.1 c.in-Ok.ensures.follow c.in-Ok.ensures.united c.self.invariant.0.2
    c.has_key_of.ensures.whole.1 few
