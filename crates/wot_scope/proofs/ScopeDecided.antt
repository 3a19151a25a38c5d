-- The function for a scope agrees with the relation.
use Rattle.std.specs.Prelude.{◌≡◌, ◌↔◌, ℕ, true, false, List, [], ◌∷◌, Option, Some, None}
use Rattle.std.proofs.Common.{refl, ap, ◌∙◌, inl, inr}
use Rattle.std.specs.List.{list_any}
use Rattle.std.specs.Option.{option_map_or}
use Rattle.std.specs.Str.{is_utf8, chars}
use Rattle.std.proofs.lemmas.Bool.{and_parts, and_from, or_cases, or_left, or_right, false≢true}
use Rattle.std.proofs.lemmas.Str.{IsUtf8-from_is_utf8, is_utf8-from_IsUtf8}
use Rattle.wot_pattern.specs.Reading.{Reading}
use Rattle.wot_pattern.specs.Grammar.{Says}
use Rattle.wot_pattern.specs.Meaning.{Matches}
use Rattle.wot_pattern.specs.Deciding.{pattern_of}
use Rattle.wot_pattern.specs.MeaningTest.{matches_in}
use Rattle.wot_scope.specs.Scope.{TextMatches, OneMatches, ScopeHolds}
use Rattle.wot_scope.specs.Deciding.{text_matches, scope_holds}

module _ (reads : (text : List ℕ) (p : Reading) → (pattern_of text ≡ Some p) ↔ Says text p)
    (matches : (text : List ℕ) (p : Reading) → (matches_in p text ≡ true) ↔ Matches text p) where
  text_says : (uid octets : List ℕ) → text_matches uid octets ≡ true → TextMatches octets uid
  unfolding text_matches
  text_says uid octets e =
      let (u, h) = and_parts (is_utf8 octets)
      (option_map_or (λ (p : Reading). matches_in p (chars uid)) (pattern_of (chars octets)) false) e in
      (IsUtf8-from_is_utf8 octets u, by (pattern_of (chars octets)) refl h)
    where
      by : (o : Option Reading) → pattern_of (chars octets) ≡ o
          → option_map_or (λ (p : Reading). matches_in p (chars uid)) o false ≡ true
          → (p : Reading) × Says (chars octets) p × Matches (chars uid) p
      by None f h = absurd (false≢true h)
      by (Some p) f h = (p, (reads (chars octets) p).0 f, (matches (chars uid) p).0 h)

  text_told : (uid octets : List ℕ) → TextMatches octets uid → text_matches uid octets ≡ true
  unfolding text_matches
  text_told uid octets (u, h) =
      and_from (is_utf8 octets)
      (option_map_or (λ (p : Reading). matches_in p (chars uid)) (pattern_of (chars octets)) false)
      (is_utf8-from_IsUtf8 octets u)
      (ap (λ (o : Option Reading). option_map_or (λ (p : Reading). matches_in p (chars uid)) o false)
      ((reads (chars octets) h.0).1 h.1) ∙ (matches (chars uid) h.0).1 h.2)

  one_says : (uid : List ℕ) (texts : List (List ℕ)) → list_any (text_matches uid) texts ≡ true → OneMatches texts uid
  one_says uid [] e = absurd (false≢true e)
  one_says uid (octets ∷ more) e = elim (or_cases (text_matches uid octets) (list_any (text_matches uid) more) e) [
    | inl h ↦ inl (text_says uid octets h)
    | inr h ↦ inr (one_says uid more h)
  ]

  one_told : (uid : List ℕ) (texts : List (List ℕ)) → OneMatches texts uid → list_any (text_matches uid) texts ≡ true
  one_told uid [] h = absurd h
  one_told uid (octets ∷ more) (inl h) =
      or_left (text_matches uid octets) (list_any (text_matches uid) more) (text_told uid octets h)
  one_told uid (octets ∷ more) (inr h) =
      or_right (text_matches uid octets) (list_any (text_matches uid) more) (one_told uid more h)

  pub scope_told : (texts : List (List ℕ)) (uid : List ℕ) → (scope_holds texts uid ≡ true) ↔ ScopeHolds texts uid
  unfolding scope_holds
  scope_told [] uid = (λ e. tt, λ h. refl)
  scope_told (octets ∷ more) uid = (
    λ e. let (u, h) =
        and_parts (is_utf8 uid) (list_any (text_matches uid) (octets ∷ more)) e in
        (IsUtf8-from_is_utf8 uid u, one_says uid (octets ∷ more) h),
    λ h. and_from (is_utf8 uid) (list_any (text_matches uid) (octets ∷ more)) (is_utf8-from_IsUtf8 uid h.0)
        (one_told uid (octets ∷ more) h.1),
  )
