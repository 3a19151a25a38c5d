use Rattle.std.proofs.Common.{◌≡◌, ℕ, ◌+◌, false, Option, Some, None, nat_eq, not, refl, sym, ap, ◌∙◌, subst}
use Rattle.std.specs.Cmp.Lexicographic.{pointwise}
use Rattle.std.proofs.lemmas.Cmp.{nat_list_eq_equiv}
use Rattle.wot_policy.specs.Kept.{rows_of}
use Rattle.wot_component.specs.Certificate.{Certificate}
use Rattle.wot_component.specs.Judged.{sound_of}
use Rattle.wot_keyring_spec.specs.declared.kept.Kept.{Kept}
use Rattle.wot_merge.specs.Staging.{begun, clash_at, found_by, found_for, stamp_over, IsClashTold}
use Rattle.wot_merge.proofs.Unions.{step_on, step_new}
use Rattle.wot_merge.proofs.staging.take_step.Goals as goal
use Rattle.wot_merge.proofs.ImportSteps.{none_asked, not_asked}

-- a certificate clashes with what it is merged with if and only if it clashes with what is kept
clash_begun : (found : Option Kept) (c : Certificate) → not (pointwise nat_eq c.key (begun found c).key) ≡ clash_at
    found c
clash_begun None c = ap not (nat_list_eq_equiv.refl c.key)
clash_begun (Some kept) c = refl

sound_begun : (found : Option Kept) (c : Certificate) → sound_of (begun found c) ≡ found_by sound_of found
sound_begun None c = refl
sound_begun (Some kept) c = refl

no_clash : (found : Option Kept) (c start : Certificate) → start ≡ begun found c →
    not (pointwise nat_eq c.key start.key) ≡ false → clash_at found c ≡ false
no_clash found c start e h = sym (ap (λ (z : Certificate). not (pointwise nat_eq c.key z.key)) e ∙ clash_begun found c)
    ∙ h

asked : (k n : ℕ) (found : Option Kept) (c start : Certificate) → start ≡ begun found c → k + sound_of start ≡ n →
    k + found_by sound_of found ≡ n
asked k n found c start e h = sym (ap (λ s. k + s) (ap sound_of e ∙ sound_begun found c)) ∙ h

pub returns-in-Err-grow-clause-clash : goal.returns-in-Err-grow-clause-clash
returns-in-Err-grow-clause-clash g c =
    let found = found_for c.args.certs.now.entries c.args.cert.now in
    subst (IsClashTold c.in-Err-grow.fault) (ap (λ (z : Certificate). not (pointwise nat_eq c.args.cert.now.key z.key))
    c.in-Ok.ensures.cert ∙ clash_begun found c.args.cert.now)
    c.in-Err-grow.ensures.clash

pub returns-in-Some-clause-clash : goal.returns-in-Some-clause-clash
returns-in-Some-clause-clash g c =
    no_clash (found_for c.args.certs.now.entries c.args.cert.now) c.args.cert.now c.in-Ok.start.cert
    c.in-Ok.ensures.cert c.in-Ok-grow.ensures.clash

pub returns-in-None-clause-clash : goal.returns-in-None-clause-clash
returns-in-None-clause-clash g c =
    no_clash (found_for c.args.certs.now.entries c.args.cert.now) c.args.cert.now c.in-Ok.start.cert
    c.in-Ok.ensures.cert c.in-Ok-grow.ensures.clash

pub returns-in-Some-clause-step : goal.returns-in-Some-clause-step
returns-in-Some-clause-step g c =
    let grown = c.in-Ok-grow.grown in
    step_on (rows_of c.args.policy.now) c.args.terms.now.stamp c.args.terms.now.limit c.args.cert.now c.in-Ok.start.cert
    c.grow.new.start grown.before grown.after grown.items c.stamp_of-stamp.result
    c.in-Ok-grow.ensures.united c.in-Ok-grow.ensures.before c.in-Ok-grow.ensures.after c.in-Ok-grow.ensures.items
    c.in-Ok-grow.ensures.judged
    (found_for c.args.certs.now.entries c.args.cert.now) _ c.in-Ok.ensures.cert (sym c.in-Some.is
    ∙ c.in-Ok.ensures.stamp)
    (c.stamp_of-stamp.ensures ∙ ap (λ (o : Option ℕ). stamp_over c.args.terms.now.stamp o grown.items) c.in-Some.is)

pub returns-in-None-clause-step : goal.returns-in-None-clause-step
returns-in-None-clause-step g c =
    let grown = c.in-Ok-grow.grown in
    step_new (rows_of c.args.policy.now) c.args.terms.now.stamp c.args.terms.now.limit c.args.cert.now
    c.in-Ok.start.cert c.grow.new.start grown.before grown.after grown.items c.stamp_of-stamp.result
    c.in-Ok-grow.ensures.united c.in-Ok-grow.ensures.before c.in-Ok-grow.ensures.after c.in-Ok-grow.ensures.items
    c.in-Ok-grow.ensures.judged
    (found_for c.args.certs.now.entries c.args.cert.now) c.begin.ensures.whole
    (c.united_whole.ensures.judged (rows_of c.args.policy.now) c.args.cert.now)
    (c.united_with_nothing.ensures.first _)
    c.in-Ok.ensures.cert (sym c.in-None.is ∙ c.in-Ok.ensures.stamp)
    (c.stamp_of-stamp.ensures ∙ ap (λ (o : Option ℕ). stamp_over c.args.terms.now.stamp o grown.items) c.in-None.is)

pub returns-in-Some-clause-asked : goal.returns-in-Some-clause-asked
returns-in-Some-clause-asked g c =
    let a = c.in-Ok-grow.ensures.asked in (
      a.0,
      a.1,
      asked a.0 _ (found_for c.args.certs.now.entries c.args.cert.now) c.args.cert.now c.in-Ok.start.cert
          c.in-Ok.ensures.cert (a.2
          ∙ ap (λ (x : Kept). sound_of x.cert) (returns-in-Some-clause-step g c).kept),
    )

pub returns-in-None-clause-asked : goal.returns-in-None-clause-asked
returns-in-None-clause-asked g c =
    let a = c.in-Ok-grow.ensures.asked in (
      a.0,
      a.1,
      asked a.0 _ (found_for c.args.certs.now.entries c.args.cert.now) c.args.cert.now c.in-Ok.start.cert
          c.in-Ok.ensures.cert (a.2
          ∙ ap (λ (x : Kept). sound_of x.cert) (returns-in-None-clause-step g c).kept),
    )

pub returns-in-Err-clause-asked : goal.returns-in-Err-clause-asked
returns-in-Err-clause-asked g c = (
  0,
  not_asked c.args.policy.now,
  none_asked c.united_grows.ensures.sound (rows_of c.args.policy.now)
      (found_for c.args.certs.now.entries c.args.cert.now) c.args.cert.now 0 refl,
)

pub returns-in-Err-grow-clause-asked : goal.returns-in-Err-grow-clause-asked
returns-in-Err-grow-clause-asked g c =
    let a = c.in-Err-grow.ensures.asked in (
      a.0,
      a.1,
      none_asked c.united_grows.ensures.sound (rows_of c.args.policy.now)
          (found_for c.args.certs.now.entries c.args.cert.now) c.args.cert.now a.0 a.2,
    )
