-- What is live doesn't change within a span.
use Rattle.std.proofs.Common.{◌≡◌, ℕ, ◌+◌, ◌≤◌, ◌<◌, ◌^◌, Bool, true, false, cond, ◌||◌, ◌==◌, List, [], ◌∷◌, ◌++◌, map}
use Rattle.std.proofs.Common.{Some, None, refl, arith}
use Rattle.std.specs.Prelude.{nat_le, nat_lt, filter}
use Rattle.std.specs.List.{AllByRecursion, flat_map}
use Rattle.std.proofs.lemmas.Bool.Decides.{nat_tests}
use Rattle.std.specs.Option.{option_map_or}
use Rattle.wot_types.specs.PlainLaws.{all_prefix, all_back, all_each, all_then, filter_same, map_same}
use Rattle.wot_signature.specs.declared.facts.SigFacts.{SigFacts}
use Rattle.wot_component.specs.Certificate.{Signature, Component, Certificate, said_by}
use Rattle.wot_component.specs.Counts.{all_sigs, parts_in}
use Rattle.wot_cert.specs.Span.{most, least, begin_of, end_of, span_of, InSpan, moments_of, sig_moments, facts_moments}
use Rattle.wot_cert.specs.Span.{unless_zero, created_of, AreLiveAlike}
use Rattle.wot_cert.specs.Time.{facts_live, is_live, live_part, live_at}

-- t and u are on one side of m
pub record OneSide (t u m : ℕ) : Type 0 where
  pub reached : nat_le m t ≡ nat_le m u
  pub passed : nat_lt t m ≡ nat_lt u m

begin_step : (b : Bool) (m : ℕ) (rest : List ℕ)
    → (most rest ≤ most (cond b (m ∷ rest) rest)) × (b ≡ true → m ≤ most (cond b (m ∷ rest) rest))
begin_step true m rest = (omega arith, λ _. omega arith)
begin_step false m rest = (omega arith, λ e. absurd (cc))

end_step : (b : Bool) (top m : ℕ) (rest : List ℕ)
    → (least top (cond b (m ∷ rest) rest) ≤ least top rest) × (b ≡ true → least top (cond b (m ∷ rest) rest) ≤ m)
end_step true top m rest = (omega arith, λ _. omega arith)
end_step false top m rest = (omega arith, λ e. absurd (cc))

reached_same : (t u m : ℕ) → (nat_le m t ≡ true → m ≤ u) → (nat_lt t m ≡ true → u < m) → nat_le m t ≡ nat_le m u
reached_same t u m low high = grind (arith, nat_tests)

passed_same : (t u m : ℕ) → (nat_le m t ≡ true → m ≤ u) → (nat_lt t m ≡ true → u < m) → nat_lt t m ≡ nat_lt u m
passed_same t u m low high = grind (arith, nat_tests)

positive : (t m : ℕ) → nat_lt t m ≡ true → t < m
positive t m h = grind (arith, nat_tests)

-- Every time of a span is on one side of each moment.
pub sides : (ms : List ℕ) (t u : ℕ) → begin_of ms t ≤ u → u ≤ end_of ms t → AllByRecursion (OneSide t u) ms
sides [] t u low high = tt
sides (m ∷ ms) t u low high =
    let b = begin_step (nat_le m t) m (filter (λ x. nat_le x t) ms) in
    let e = end_step (nat_lt t m) (2 ^ 32) m (filter (λ x. nat_lt t x) ms) in
    let at_or_before : nat_le m t ≡ true → m ≤ u = λ h. omega (arith, b.1 h) in
    let after : nat_lt t m ≡ true → u < m = λ h. omega (arith, e.1 h, positive t m h) in (
      record { reached = reached_same t u m at_or_before after; passed = passed_same t u m at_or_before after },
      sides ms t u (omega arith) (omega arith),
    )

-- ---- live

lasting : (t u lasts end : ℕ) → AllByRecursion (OneSide t u) (unless_zero lasts end)
    → (lasts == 0 || nat_lt t end) ≡ (lasts == 0 || nat_lt u end)
lasting t u lasts end h =
    elim (lasts == 0) as
    (λ b. AllByRecursion (OneSide t u) (cond b [] (end ∷ [])) → (b || nat_lt t end) ≡ (b || nat_lt u end))
    [ true ↦ λ _. refl | false ↦ λ s. s.0.passed ] h

facts_same : (created t u : ℕ) (f : SigFacts) → AllByRecursion (OneSide t u) (facts_moments created f)
    → facts_live t f ≡ facts_live u f
facts_same created t u f h =
    let rest : AllByRecursion (OneSide t u) (unless_zero f.lasts (f.made + f.lasts)) =
    all_prefix (OneSide t u) (unless_zero f.lasts (f.made + f.lasts))
    (unless_zero f.key_lasts (created + f.key_lasts)) h.1 in
    rw (h.0.reached, lasting t u f.lasts (f.made + f.lasts) rest) refl

live_same : (created t u : ℕ) (s : Signature) → AllByRecursion (OneSide t u) (sig_moments created s)
    → is_live t s ≡ is_live u s
live_same created t u s h =
    elim (said_by s) as
    (λ said. AllByRecursion (OneSide t u) (option_map_or (facts_moments created) said [])
    → option_map_or (facts_live t) said false ≡ option_map_or (facts_live u) said false) [
      | Some f ↦ λ g. facts_same created t u f g
      | None ↦ λ _. refl
    ] h

-- ---- the certificate

part_same : (t u : ℕ) (p : Component) → AllByRecursion (λ s. is_live t s ≡ is_live u s) p.sigs
    → live_part t p ≡ live_part u p
part_same t u p h = rw (filter_same (is_live t) (is_live u) p.sigs h) refl

parts_same : (t u : ℕ) (ps : List Component)
    → AllByRecursion (λ p. AllByRecursion (λ s. is_live t s ≡ is_live u s) p.sigs) ps
    → map (live_part t) ps ≡ map (live_part u) ps
parts_same t u ps h = map_same (live_part t) (live_part u) ps (all_then _ _ (part_same t u) ps h)

-- Each signature is live at every time of a span or at none.
pub alike : (c : Certificate) (t u : ℕ) → InSpan (span_of c t) u → AreLiveAlike c t u
alike c t u h =
    let at = sides (moments_of c) t u h.from h.to in
    all_then (λ s. AllByRecursion (OneSide t u) (sig_moments (created_of c) s)) (λ s. is_live t s ≡ is_live u s)
    (live_same (created_of c) t u) (all_sigs c)
    (all_each (OneSide t u) (sig_moments (created_of c)) (all_sigs c) at.1)

-- The live signatures don't change within a span.
pub live_at_same : (c : Certificate) (t u : ℕ) → InSpan (span_of c t) u → live_at t c ≡ live_at u c
live_at_same c t u h =
    let Same : Signature → Type 0 = λ s. is_live t s ≡ is_live u s in
    let each : AllByRecursion Same (all_sigs c) = alike c t u h in
    let direct : AllByRecursion Same c.direct = all_prefix Same c.direct (flat_map (λ p. p.sigs) (parts_in c)) each in
    let parts : AllByRecursion (λ (p : Component). AllByRecursion Same p.sigs) (parts_in c) =
    all_each Same (λ p. p.sigs) (parts_in c) (all_back Same c.direct (flat_map (λ p. p.sigs) (parts_in c)) each) in
    let PartSame : Component → Type 0 = λ p. AllByRecursion Same p.sigs in
    let prefix = all_prefix PartSame (c.user_ids ++ c.attributes) c.subkeys parts in
    let d = filter_same (is_live t) (is_live u) c.direct direct in
    let us = parts_same t u c.user_ids (all_prefix PartSame c.user_ids c.attributes prefix) in
    let as' = parts_same t u c.attributes (all_back PartSame c.user_ids c.attributes prefix) in
    let ks = parts_same t u c.subkeys (all_back PartSame (c.user_ids ++ c.attributes) c.subkeys parts) in
    rw (d, us, as', ks) refl
