-- The index, number by number: what is noted, logged, and removed again.
use Rattle.std.proofs.Common.{◌≡◌, Bool, true, false, ◌&&◌, ◌||◌, cond, List, [], ◌∷◌, ◌++◌, Option, Some, None, Result}
use Rattle.std.proofs.Common.{Ok, Err, OnOk, sym, ap, ◌∙◌, refl}
use Rattle.std.proofs.lemmas.Bool.{or_right}
use Rattle.std.proofs.lemmas.List.Folds.{list_any-append}
use Rattle.wot_types.specs.declared.fpr.Fpr.{Fpr}
use Rattle.wot_types.specs.declared.number.SigNumber.{SigNumber}
use Rattle.wot_key.specs.Key.{fpr_of}
use Rattle.wot_verdict.specs.Verdicts.{ByNumber, is_number}
use Rattle.wot_component.specs.Certificate.{Signature, Component, Certificate}
use Rattle.wot_component.specs.Counts.{sigs_on}
use Rattle.wot_index.specs.declared.index.Index.{Index}
use Rattle.wot_keyring_spec.specs.Keyring.{is_fpr}
use Rattle.wot_index.specs.Index.{holder_of, is_holder, is_noted, unless, is_logged, holder_without, Notes}
use Rattle.wot_index.specs.Index.{Forgets, NotesOn, StillLogged}
use Rattle.wot_keyring_spec.specs.Verdict.{is_among, has_number}
use Rattle.wot_slots.proofs.Numbers.{same_number, turned}
use Rattle.wot_index.proofs.Choices.{or_false, or_itself, or_more, and_each}

-- ---- one number noted

-- If nothing else was noted for it, one more number is noted, and nothing else changes.
module _ (holders holders' : ByNumber) (number : SigNumber) (fpr : Fpr) (put : (n : SigNumber) →
    holder_of holders' n ≡ cond (is_number number n) (Some fpr) (holder_of holders n)) where
  elsewhere : (n : SigNumber) → is_number n number ≡ false → holder_of holders' n ≡ holder_of holders n
  elsewhere n other = put n ∙ ap (λ b. cond b (Some fpr) (holder_of holders n)) (turned number n ∙ other)

  here : (n : SigNumber) → is_number n number ≡ true → holder_of holders' n ≡ Some fpr
  here n same = put n ∙ ap (λ b. cond b (Some fpr) (holder_of holders n)) (turned number n ∙ same)

  place_more : (o : Option Fpr) (q : Fpr) → (o ≡ None) → is_fpr fpr q ≡ (is_holder o q || is_fpr fpr q)
  place_more o q none = sym (ap (λ (x : Option Fpr). is_holder x q || is_fpr fpr q) none)

  place_again : (o : Option Fpr) (q : Fpr) → (o ≡ Some fpr) → is_fpr fpr q ≡ (is_holder o q || is_fpr fpr q)
  place_again o q some = sym (ap (λ (x : Option Fpr). is_holder x q || is_fpr fpr q) some ∙ or_itself (is_fpr fpr q))

  noted_by : ((q : Fpr) → is_fpr fpr q ≡ (is_holder (holder_of holders number) q || is_fpr fpr q)) →
      (n : SigNumber) (q : Fpr) →
      is_holder (holder_of holders' n) q ≡ (is_holder (holder_of holders n) q || (is_number n number && is_fpr fpr q))
  noted_by more n q =
      (elim (is_number n number) as (λ b. is_number n number ≡ b →
      is_holder (holder_of holders' n) q ≡ (is_holder (holder_of holders n) q || (b && is_fpr fpr q))) [
        | true ↦ λ same.
            ap (λ (x : Option Fpr). is_holder x q) (here n same) ∙ more q
            ∙ ap (λ (x : SigNumber). is_holder (holder_of holders x) q || is_fpr fpr q)
            (sym (same_number n number same))
        | false ↦ λ other. ap (λ (x : Option Fpr). is_holder x q) (elsewhere n other)
            ∙ sym (or_false (is_holder (holder_of holders n) q))
      ]) refl

  pub noted_new : holder_of holders number ≡ None → (n : SigNumber) (q : Fpr) →
      is_holder (holder_of holders' n) q ≡ (is_holder (holder_of holders n) q || (is_number n number && is_fpr fpr q))
  noted_new none = noted_by (λ q. place_more (holder_of holders number) q none)

  pub noted_again : holder_of holders number ≡ Some fpr → (n : SigNumber) (q : Fpr) →
      is_holder (holder_of holders' n) q ≡ (is_holder (holder_of holders n) q || (is_number n number && is_fpr fpr q))
  noted_again some = noted_by (λ q. place_again (holder_of holders number) q some)

  unless_none : (b : Bool) → unless b None ≡ None
  unless_none true = refl
  unless_none false = refl

  pub logged_new : (log log' : List SigNumber) → log' ≡ log ++ number ∷ [] → holder_of holders number ≡ None →
      (n : SigNumber) → holder_without log' holders' n ≡ holder_without log holders n
  logged_new log log' l none n =
      ap (λ (x : List SigNumber). unless (is_logged n x) (holder_of holders' n)) l
      ∙ ap (λ b. unless b (holder_of holders' n)) (list_any-append (is_number n) log (number ∷ []))
      ∙ ((elim (is_number n number) as (λ b. is_number n number ≡ b → unless (is_logged n log || (b || false))
      (holder_of holders' n) ≡ holder_without log holders n) [
        | true ↦ λ same.
            ap (λ b. unless b (holder_of holders' n)) (or_right (is_logged n log) true refl)
            ∙ sym (ap (unless (is_logged n log)) (ap (holder_of holders) (same_number n number same) ∙ none)
            ∙ unless_none (is_logged n log))
        | false ↦ λ other. ap (λ b. unless b (holder_of holders' n)) (or_false (is_logged n log))
            ∙ ap (unless (is_logged n log)) (elsewhere n other)
      ]) refl)

  pub logged_again : (log : List SigNumber) → holder_of holders number ≡ Some fpr → (n : SigNumber) →
      holder_without log holders' n ≡ holder_without log holders n
  logged_again log some n =
      ap (unless (is_logged n log))
      ((elim (is_number n number) as (λ b. is_number n number ≡ b → holder_of holders' n ≡ holder_of holders n) [
        | true ↦ λ same. here n same ∙ sym (ap (holder_of holders) (same_number n number same) ∙ some)
        | false ↦ λ other. elsewhere n other
      ]) refl)

-- A number that has this fingerprint is noted again.
pub put_again : (verdicts : ByNumber) (number : SigNumber) (fpr : Fpr) → holder_of verdicts number ≡ Some fpr →
    (q : SigNumber) → holder_of verdicts q ≡ cond (is_number number q) (Some fpr) (holder_of verdicts q)
put_again verdicts number fpr has q = by (is_number number q) refl
  where
    by : (b : Bool) → is_number number q ≡ b → holder_of verdicts q ≡ cond b (Some fpr) (holder_of verdicts q)
    by true t = ap (holder_of verdicts) (sym (same_number number q t)) ∙ has
    by false t = refl

-- ---- several numbers noted

pub notes_on : (old mid new : Index) (one rest rest' all : SigNumber → Fpr → Bool) → NotesOn old mid rest all →
    ((n : SigNumber) (q : Fpr) → rest n q ≡ (one n q || rest' n q)) → Notes mid new one → NotesOn old new rest' all
notes_on old mid new one rest rest' all before split step exact =
    let s = step exact in
    let b = before s.0 in (
      b.0,
      λ n q. ap (λ t. t || rest' n q) (s.1 n q) ∙ or_more (is_noted mid n q) (one n q) (rest' n q)
          ∙ ap (λ t. is_noted mid n q || t) (sym (split n q)) ∙ b.1 n q,
    )

-- Nothing is left to note.
pub notes_all : (old new : Index) (rest all : SigNumber → Fpr → Bool) → NotesOn old new rest all →
    ((n : SigNumber) (q : Fpr) → rest n q ≡ false) → Notes old new all
notes_all old new rest all before none exact =
    let b = before exact in (
      b.0,
      λ n q. sym (ap (λ t. is_noted new n q || t) (none n q) ∙ or_false (is_noted new n q)) ∙ b.1 n q,
    )

pub notes_both : (old mid new : Index) (one other : SigNumber → Fpr → Bool) → Notes old mid one → Notes mid new other →
    Notes old new (λ n q. one n q || other n q)
notes_both old mid new one other first second exact =
    let s = second exact in
    let f = first s.0 in
    (f.0, λ n q. s.1 n q ∙ ap (λ t. t || other n q) (f.1 n q) ∙ or_more (is_noted old n q) (one n q) (other n q))

pub notes_same : (old new : Index) (these those : SigNumber → Fpr → Bool) → Notes old new these →
    ((n : SigNumber) (q : Fpr) → these n q ≡ those n q) → Notes old new those
notes_same old new these those notes same exact =
    let s = notes exact in
    (s.0, λ n q. s.1 n q ∙ ap (λ t. is_noted old n q || t) (same n q))

pub still_logged : (old mid new : Index) (log log' log2 : List SigNumber) → StillLogged old log mid log' →
    StillLogged mid log' new log2 → StillLogged old log new log2
still_logged old mid new log log' log2 first second exact =
    let s = second exact in
    let f = first s.0 in
    (f.0, λ n. s.1 n ∙ f.1 n)

-- signatures in four kinds of places
pub each_of : (d u a s f : Bool) → ((d && f) || (u && f)) || ((a && f) || (s && f)) ≡ (d || (u || (a || s))) && f
each_of d u a s f =
    sym (
    and_each d (u || (a || s)) f
    ∙ ap (λ t. (d && f) || t) (and_each u (a || s) f ∙ ap (λ t. (u && f) || t) (and_each a s f))
    ∙ sym (or_more (d && f) (u && f) ((a && f) || (s && f)))
    )

pub on_ok : {T E : Type 0} (P Q : Type 0) (r : Result T E) → (P → Q) → OnOk r P → OnOk r Q
on_ok P Q (Ok done) f h = f h
on_ok P Q (Err fault) f h = tt

-- What is on a certificate is noted once each kind of place is.
pub noted_cert : {T E : Type 0} (i0 i1 i2 i3 i4 : Index) (r : Result T E) (c : Certificate) (f : Fpr)
    (d : List Signature) (u a s : List Component) → f ≡ fpr_of c.key → d ≡ c.direct → u ≡ c.user_ids →
    a ≡ c.attributes → s ≡ c.subkeys
    → Notes i0 i1 (λ n q. is_among n d && is_fpr f q) → Notes i1 i2 (λ n q. is_among n (sigs_on u) && is_fpr f q) →
    Notes i2 i3 (λ n q. is_among n (sigs_on a) && is_fpr f q) →
    OnOk r (Notes i3 i4 (λ n q. is_among n (sigs_on s) && is_fpr f q))
    → OnOk r (Notes i0 i4 (λ n q. has_number n c && is_fpr (fpr_of c.key) q))
noted_cert i0 i1 i2 i3 i4 r c f d u a s ef ed eu ea es first second third last =
    let D : SigNumber → Fpr → Bool = λ n q. is_among n d && is_fpr f q in
    let U : SigNumber → Fpr → Bool = λ n q. is_among n (sigs_on u) && is_fpr f q in
    let A : SigNumber → Fpr → Bool = λ n q. is_among n (sigs_on a) && is_fpr f q in
    let S : SigNumber → Fpr → Bool = λ n q. is_among n (sigs_on s) && is_fpr f q in
    on_ok (Notes i3 i4 S) (Notes i0 i4 (λ n q. has_number n c && is_fpr (fpr_of c.key) q)) r
    (λ fourth. notes_same i0 i4 (λ n q. (D n q || U n q) || (A n q || S n q))
    (λ n q. has_number n c && is_fpr (fpr_of c.key) q)
    (notes_both i0 i2 i4 (λ n q. D n q || U n q) (λ n q. A n q || S n q) (notes_both i0 i1 i2 D U first second)
    (notes_both i2 i3 i4 A S third fourth))
    (λ n q.
    each_of (is_among n d) (is_among n (sigs_on u)) (is_among n (sigs_on a)) (is_among n (sigs_on s)) (is_fpr f q)
    ∙ (λ i. (is_among n (ed i) || (is_among n (sigs_on (eu i)) || (is_among n (sigs_on (ea i)) || is_among n
    (sigs_on (es i))))) && is_fpr (ef i) q)))
    last

-- ---- numbers removed

without_both : (a b : Bool) (o : Option Fpr) → unless a (unless b o) ≡ unless (a || b) o
without_both true b o = refl
without_both false b o = refl

-- One of the logged numbers was removed.
pub forgot_last : (old new : ByNumber) (log log' : List SigNumber) (number : SigNumber) → log ≡ log' ++ number ∷ [] →
    Forgets old new (λ n. is_number n number) → (n : SigNumber) → holder_without log' new n ≡ holder_without log old n
forgot_last old new log log' number popped forgotten n =
    ap (unless (is_logged n log')) (forgotten n)
    ∙ without_both (is_logged n log') (is_number n number) (holder_of old n)
    ∙ ap (λ b. unless (is_logged n log' || b) (holder_of old n)) (sym (or_false (is_number n number)))
    ∙ ap (λ b. unless b (holder_of old n)) (sym (list_any-append (is_number n) log' (number ∷ [])))
    ∙ ap (λ (x : List SigNumber). unless (is_logged n x) (holder_of old n)) (sym popped)

-- Some of these numbers were removed, and others are left.
pub forgot_these : (old new : ByNumber) (gone left : SigNumber → Bool) → Forgets old new gone → (n : SigNumber) →
    unless (left n) (holder_of new n) ≡ unless (gone n || left n) (holder_of old n)
forgot_these old new gone left forgotten n =
    ap (unless (left n)) (forgotten n) ∙ by (gone n) (left n) (holder_of old n)
  where
    by : (a b : Bool) (o : Option Fpr) → unless b (unless a o) ≡ unless (a || b) o
    by true true o = refl
    by true false o = refl
    by false b o = refl
