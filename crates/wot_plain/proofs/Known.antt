-- Whether two held things are equal is decidable, so each step has definite counts of changes and turns.
use Rattle.std.proofs.Common.{◌≡◌, inl, inr, ℕ, ◌==◌, Bool, true, false, List, [], ◌∷◌, Option, Some, None, refl, ap}
use Rattle.std.specs.Prelude.{◌⊎◌}
use Rattle.std.specs.Bool.{Decides}
use Rattle.std.specs.Str.{bytes_eq}
use Rattle.std.proofs.lemmas.Bool.Decides.{Decides-eqb}
use Rattle.std.proofs.lemmas.Slice.Eq.{bytes_eq-Decides}
use Rattle.wot_types.specs.declared.fpr.Fpr.{Fpr}
use Rattle.wot_types.specs.declared.fpr.Fpr.TheVariants.{V4, V6}
use Rattle.wot_types.specs.declared.number.SigNumber.{SigNumber}
use Rattle.wot_types.specs.Fpr.{octets_of}
use Rattle.wot_verdict.specs.declared.verdict.Verdict.{Verdict}
use Rattle.wot_verdict.specs.declared.verdict.Verdict.TheVariants.{Good, Bad}
use Rattle.wot_component.specs.Certificate.{Certificate, Component, Signature}
use Rattle.wot_keyring_spec.specs.Held.{Held}
use Rattle.wot_cache.specs.declared.view.View.{View}

abbrev pub Known : Type 0 → Type 0
Known P = P ⊎ (P → ⊥)

-- equality of any two of these is decidable
abbrev pub AreKnown : Type 0 → Type 0
AreKnown A = (x y : A) → Known (x ≡ y)

by_test : {P : Type 0} (r : Bool) → Decides r P → Known P
by_test true d = inl (d.0 refl)
by_test false d = inr (λ p. let never : false ≡ true = d.1 p in cc)

octets : AreKnown (List ℕ)
octets xs ys = by_test (bytes_eq xs ys) (bytes_eq-Decides xs ys)

numbers : AreKnown ℕ
numbers x y = by_test (x == y) (Decides-eqb x y)

bools : AreKnown Bool
bools true true = inl refl
bools false false = inl refl
bools true false = inr (λ e. cc e)
bools false true = inr (λ e. cc e)

through : {A B : Type 0} (f : A → B) → ((x y : A) → f x ≡ f y → x ≡ y) → AreKnown B → AreKnown A
through f one known x y = by (known (f x) (f y))
  where
    by : Known (f x ≡ f y) → Known (x ≡ y)
    by (inl e) = inl (one x y e)
    by (inr n) = inr (λ e. n (ap f e))

pairs : {A B : Type 0} → AreKnown A → AreKnown B → AreKnown (A × B)
pairs first second x y = by (first x.0 y.0) (second x.1 y.1)
  where
    by : Known (x.0 ≡ y.0) → Known (x.1 ≡ y.1) → Known (x ≡ y)
    by (inl p) (inl q) = inl (λ i. (p i, q i))
    by (inr n) q = inr (λ e. n (λ i. (e i).0))
    by (inl p) (inr n) = inr (λ e. n (λ i. (e i).1))

lists : {A : Type 0} → AreKnown A → AreKnown (List A)
lists known [] [] = inl refl
lists known [] (y ∷ ys) = inr (λ e. cc e)
lists known (x ∷ xs) [] = inr (λ e. cc e)
lists known (x ∷ xs) (y ∷ ys) = by (known x y) (lists known xs ys)
  where
    by : Known (x ≡ y) → Known (xs ≡ ys) → Known (x ∷ xs ≡ y ∷ ys)
    by (inl p) (inl q) = inl (λ i. p i ∷ q i)
    by (inr n) q = inr (λ e. n (let same : x ≡ y = cc in same))
    by (inl p) (inr n) = inr (λ e. n (let same : xs ≡ ys = cc in same))

options : {A : Type 0} → AreKnown A → AreKnown (Option A)
options known None None = inl refl
options known None (Some y) = inr (λ e. cc e)
options known (Some x) None = inr (λ e. cc e)
options known (Some x) (Some y) = by (known x y)
  where
    by : Known (x ≡ y) → Known (Some x ≡ Some y)
    by (inl p) = inl (λ i. Some (p i))
    by (inr n) = inr (λ e. n (let same : x ≡ y = cc in same))

fprs : AreKnown Fpr
fprs (V4 xs) (V4 ys) = by (octets xs ys)
  where
    by : Known (xs ≡ ys) → Known (V4 xs ≡ V4 ys)
    by (inl e) = inl (ap V4 e)
    by (inr n) = inr (λ e. n (ap octets_of e))
fprs (V6 xs) (V6 ys) = by (octets xs ys)
  where
    by : Known (xs ≡ ys) → Known (V6 xs ≡ V6 ys)
    by (inl e) = inl (ap V6 e)
    by (inr n) = inr (λ e. n (ap octets_of e))
fprs (V4 xs) (V6 ys) = inr (λ e. cc e)
fprs (V6 xs) (V4 ys) = inr (λ e. cc e)

signatures : AreKnown Signature
signatures =
    through (λ (s : Signature). (s.body, (s.number.0, s.admitted)))
    (λ x y e i. record { body = (e i).0; number = record { 0 = (e i).1.0 }; admitted = (e i).1.1 })
    (pairs octets (pairs octets bools))

components : AreKnown Component
components =
    through (λ (c : Component). (c.body, c.sigs)) (λ x y e i. record { body = (e i).0; sigs = (e i).1 })
    (pairs octets (lists signatures))

certificates : AreKnown Certificate
certificates =
    through (λ (c : Certificate). (c.key, (c.direct, (c.user_ids, (c.attributes, c.subkeys)))))
    (λ x y e i. record {
      key = (e i).0;
      direct = (e i).1.0;
      user_ids = (e i).1.1.0;
      attributes =
          (e i).1.1.1.0;
      subkeys = (e i).1.1.1.1;
    })
    (pairs octets (pairs (lists signatures) (pairs (lists components) (pairs (lists components) (lists components)))))

verdicts : AreKnown Verdict
verdicts Bad Bad = inl refl
verdicts Bad (Good y) = inr (λ e. cc e)
verdicts (Good x) Bad = inr (λ e. cc e)
verdicts (Good x) (Good y) = by (fprs x y)
  where
    by : Known (x ≡ y) → Known (Good x ≡ Good y)
    by (inl e) = inl (ap Good e)
    by (inr n) = inr (λ e. n (let same : x ≡ y = cc in same))

signed : AreKnown SigNumber
signed = through (λ (n : SigNumber). n.0) (λ x y e i. record { 0 = e i }) octets

pub held : AreKnown Held
held =
    through (λ (h : Held). (h.certs, h.verdicts)) (λ x y e i. record { certs = (e i).0; verdicts = (e i).1 })
    (pairs (lists (pairs fprs certificates)) (lists (pairs signed verdicts)))

pub views : AreKnown (Option View)
views =
    options (through (λ (v : View). (v.time, v.roots)) (λ x y e i. record { time = (e i).0; roots = (e i).1 })
    (pairs numbers (lists (pairs fprs numbers))))
