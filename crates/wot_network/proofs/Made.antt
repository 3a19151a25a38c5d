-- The span for a time contains it, and what is made of a certificate holds throughout the span.
use Rattle.std.proofs.Common.{◌≡◌, ◌≤◌, ◌<◌, ◌-◌, ◌^◌, max, min, ℕ, Bool, true, false, cond, nat_le, nat_lt, List, []}
use Rattle.std.proofs.Common.{◌∷◌, filter, refl, arith}
use Rattle.std.proofs.lemmas.Bool.Decides.{nat_tests}
use Rattle.wot_component.specs.Certificate.{Certificate}
use Rattle.wot_cert.specs.Span.{InSpan, span_of, moments_of, most, least}

le_of : (a b : ℕ) → nat_le a b ≡ true → a ≤ b
le_of a b h = grind (arith, nat_tests)

lt_of : (a b : ℕ) → nat_lt a b ≡ true → a < b
lt_of a b h = grind (arith, nat_tests)

nothing : (t : ℕ) → 0 ≤ t
nothing t = omega arith

greater : (a b t : ℕ) → a ≤ t → b ≤ t → max a b ≤ t
greater a b t h k = omega arith

lesser : (a b t : ℕ) → t < a → t < b → t < min a b
lesser a b t h k = omega arith

one_before : (n t : ℕ) → t < n → t ≤ n - 1
one_before n t h = omega arith

begins : (ms : List ℕ) (t : ℕ) → most (filter (λ m. nat_le m t) ms) ≤ t
begins [] t = nothing t
begins (m ∷ ms) t = by (nat_le m t) refl (begins ms t)
  where
    by : (b : Bool) → nat_le m t ≡ b → most (filter (λ x. nat_le x t) ms) ≤ t →
        most (cond b (m ∷ filter (λ x. nat_le x t) ms) (filter (λ x. nat_le x t) ms)) ≤ t
    by true e later = greater m (most (filter (λ x. nat_le x t) ms)) t (le_of m t e) later
    by false e later = later

ends : (ms : List ℕ) (t top : ℕ) → t < top → t < least top (filter (λ m. nat_lt t m) ms)
ends [] t top h = h
ends (m ∷ ms) t top h = by (nat_lt t m) refl (ends ms t top h)
  where
    by : (b : Bool) → nat_lt t m ≡ b → t < least top (filter (λ x. nat_lt t x) ms) →
        t < least top (cond b (m ∷ filter (λ x. nat_lt t x) ms) (filter (λ x. nat_lt t x) ms))
    by true e later = lesser m (least top (filter (λ x. nat_lt t x) ms)) t (lt_of t m e) later
    by false e later = later

pub in_its_span : (c : Certificate) (t : ℕ) → t < 2 ^ 32 → InSpan (span_of c t) t
in_its_span c t h = record {
  from = begins (moments_of c) t;
  to = one_before (least (2 ^ 32) (filter (λ m. nat_lt t m) (moments_of c))) t (ends (moments_of c) t (2 ^ 32) h);
}
