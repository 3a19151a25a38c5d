use Rattle.std.proofs.Common.{◌≡◌, ◌<◌, ◌-◌, ◌^◌, ℕ, false, List, Err, OnOk, OnErr, refl, sym, ap, ◌∙◌, subst}
use Rattle.wot_policy.specs.Kept.{rows_of}
use Rattle.wot_component.specs.Certificate.{Certificate}
use Rattle.wot_merge.specs.Gather.{DoTheSame}
use Rattle.wot_keyring_spec.specs.Import.{any_clash, holding, with_certs, Asked, IsNext}
use Rattle.wot_keyring_spec.specs.Importing.{alone, AnswersUnited, MayUnite, asked_for}
use Rattle.wot_keyring_spec.specs.Keyring.{Keyring, certificates_in}
use Rattle.wot_keyring.specs.Merging.{AnswersCounting}
use Rattle.wot_keyring.proofs.Imports.{asked_nothing, judging_at, judging_kept, judging_still, next_itself, next_still}
use Rattle.wot_keyring.proofs.Same.{nothing_refused, same_refusal, same_counts, same_holding, same_asked}
use Rattle.wot_keyring.proofs.keyring.Keyring.take.Goals as goal

pub returns-in-Err-clause-answer : goal.returns-in-Err-clause-answer
returns-in-Err-clause-answer g c =
    subst (λ (cs : List Certificate). AnswersUnited (Err c.refused.result) (rows_of c.args.policy.now) c.args.self.now
    cs c.args.read.skipped) c.into_vec-certs.ensures.items
    (nothing_refused (rows_of c.args.policy.now) c.args.self.now c.lawful.ensures.keyring c.in-Err.fault
    c.refused.result c.into_vec-certs.result.items c.args.read.skipped c.refused.ensures.refused
    c.in-Err.ensures.clash)

pub returns-in-Err-clause-kept : goal.returns-in-Err-clause-kept
returns-in-Err-clause-kept g c = refl

pub returns-in-Err-clause-asked : goal.returns-in-Err-clause-asked
returns-in-Err-clause-asked g c = asked_nothing c.refused.result _ c.args.policy.now

pub returns-in-Err-clause-next : goal.returns-in-Err-clause-next
returns-in-Err-clause-next g c = next_itself c.args.self.now

pub returns-in-Err-clause-judging : goal.returns-in-Err-clause-judging
returns-in-Err-clause-judging g c = judging_still _ c.args.policy.now c.args.self.now c.requires.judging

pub returns-in-Some-clause-answer : goal.returns-in-Some-clause-answer
returns-in-Some-clause-answer g c =
    let same : DoTheSame c.into_vec-certs.result.items c.as_slice.result.now =
    subst (λ (ys : List Certificate). DoTheSame c.into_vec-certs.result.items ys) (sym c.as_slice.ensures.value)
    c.in-Ok.ensures.same in
    subst (λ (cs : List Certificate). AnswersUnited (Err c.in-Some.refusal) (rows_of c.args.policy.now) c.args.self.now
    cs c.args.read.skipped) c.into_vec-certs.ensures.items
    (same_refusal (rows_of c.args.policy.now) c.args.self.now c.lawful.ensures.keyring c.into_vec-certs.result.items
    c.as_slice.result.now same c.in-Some.refusal c.args.read.skipped c.in-Some.ensures.reported)

pub returns-in-Some-clause-kept : goal.returns-in-Some-clause-kept
returns-in-Some-clause-kept g c = c.in-Some.ensures.same

pub returns-in-Some-clause-asked : goal.returns-in-Some-clause-asked
returns-in-Some-clause-asked g c = asked_nothing c.in-Some.refusal _ c.args.policy.now

pub returns-in-Some-clause-next : goal.returns-in-Some-clause-next
returns-in-Some-clause-next g c = next_still c.args.self.now _ c.in-Some.ensures.same

pub returns-in-Some-clause-judging : goal.returns-in-Some-clause-judging
returns-in-Some-clause-judging g c =
    judging_kept _ c.args.policy.now c.args.self.now _ c.in-Some.ensures.same c.requires.judging

pub accept-requires : goal.accept-requires
accept-requires g c = record {
  countable = subst (λ (k : Keyring). k.changes < 2 ^ 64 - 1) (sym c.in_default.ensures.same) c.requires.countable;
  judging = judging_at _ c.args.policy.now c.args.self.now _ c.in_default.ensures.same c.requires.judging;
  whole = c.in-Ok.ensures.whole;
  may = subst (λ (k : Keyring). MayUnite k.limits (certificates_in k) c.in-Ok.list.items)
      (sym c.in_default.ensures.same)
      (subst (λ (cs : List Certificate). MayUnite c.args.self.now.limits (certificates_in c.args.self.now) cs)
      c.as_slice.ensures.value c.in_default.ensures.reported);
}

pub returns-clause-answer : goal.returns-clause-answer
returns-clause-answer g c =
    subst (λ (cs : List Certificate). AnswersUnited c.accept.result (rows_of c.args.policy.now) c.args.self.now cs
    c.args.read.skipped) c.into_vec-certs.ensures.items
    (same_counts (rows_of c.args.policy.now) c.args.self.now c.lawful.ensures.keyring c.into_vec-certs.result.items
    c.in-Ok.list.items c.in-Ok.ensures.same c.accept.result c.len-taken.result c.args.read.skipped
    (c.len-taken.ensures ∙ c.into_vec-certs.result.ok.0)
    (subst (λ (z : Keyring). AnswersCounting c.len-taken.result c.accept.result (rows_of c.args.policy.now) z
    c.in-Ok.list.items c.args.read.skipped) c.in_default.ensures.same c.accept.ensures.answer))

pub returns-clause-united : goal.returns-clause-united
returns-clause-united g c =
    let none : any_clash (alone (certificates_in c.args.self.now)) c.in-Ok.list.items ≡ false =
    ap (any_clash (alone (certificates_in c.args.self.now))) (sym c.as_slice.ensures.value)
    ∙ c.in_default.ensures.reported.clash in
    subst (λ (k : Keyring). OnOk c.accept.result (c.accept.new.self ≡ k))
    (ap (λ (z : Keyring). holding z (with_certs (rows_of c.args.policy.now) (certificates_in z)
    c.in-Ok.list.items)) c.in_default.ensures.same
    ∙ same_holding (rows_of c.args.policy.now) c.args.self.now c.lawful.ensures.keyring c.into_vec-certs.result.items
    c.in-Ok.list.items c.in-Ok.ensures.same none
    ∙ ap (λ (cs : List Certificate). holding c.args.self.now (with_certs (rows_of c.args.policy.now)
    (certificates_in c.args.self.now) cs)) c.into_vec-certs.ensures.items) c.accept.ensures.united

pub returns-clause-kept : goal.returns-clause-kept
returns-clause-kept g c =
    subst (λ (k : Keyring). OnErr c.accept.result (c.accept.new.self ≡ k)) c.in_default.ensures.same
    c.accept.ensures.kept

pub returns-clause-asked : goal.returns-clause-asked
returns-clause-asked g c =
    let none : any_clash (alone (certificates_in c.args.self.now)) c.in-Ok.list.items ≡ false =
    ap (any_clash (alone (certificates_in c.args.self.now))) (sym c.as_slice.ensures.value)
    ∙ c.in_default.ensures.reported.clash in
    subst (λ (n : ℕ). Asked c.accept.result n c.args.policy.now c.accept.new.policy)
    (ap (λ (z : Keyring). asked_for (rows_of c.args.policy.now) z c.in-Ok.list.items) c.in_default.ensures.same
    ∙ same_asked (rows_of c.args.policy.now) c.args.self.now c.lawful.ensures.keyring c.into_vec-certs.result.items
    c.in-Ok.list.items c.in-Ok.ensures.same none
    ∙ ap (asked_for (rows_of c.args.policy.now) c.args.self.now) c.into_vec-certs.ensures.items)
    c.accept.ensures.asked

pub returns-clause-next : goal.returns-clause-next
returns-clause-next g c =
    subst (λ (k : Keyring). IsNext k c.accept.new.self) c.in_default.ensures.same c.accept.ensures.next

pub returns-clause-judging : goal.returns-clause-judging
returns-clause-judging g c = c.accept.ensures.judging
