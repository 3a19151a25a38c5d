-- What is found with one more user ID.
use Rattle.std.proofs.Common.{◌≡◌, ℕ, zero, suc, ◌+◌, ◌<◌, false, List, ◌∷◌, Some, None, ap, subst, ◌∙◌, arith}
use Rattle.std.specs.Prelude.{◌==◌}
use Rattle.std.specs.List.{slice_get}
use Rattle.std.specs.Option.{option_and_then}
use Rattle.std.proofs.lemmas.Bool.Decides.{nat_tests}
use Rattle.wot_types.specs.declared.fpr.Fpr.{Fpr}
use Rattle.wot_verdict.specs.Verdicts.{Entries}
use Rattle.wot_component.specs.Certificate.{Component}
use Rattle.wot_standing.specs.declared.places.Certified.{Certified}
use Rattle.wot_standing.specs.Certifiers.{place_for, KeepsNewest, StaysElsewhere}

apart : (u at : ℕ) → (u ≡ at → ⊥) → (u == at) ≡ false
apart u at never = grind (arith, nat_tests)

-- There is no place on user IDs below this one.
abbrev pub HasNoneBelow : ℕ → List (Certified × ℕ) → Type 0
HasNoneBelow first found = (at : ℕ) (q : Fpr) → at < first → place_for found at q ≡ None

pub none_more : (u next : ℕ) (old new : List (Certified × ℕ)) → u + 1 ≡ next → StaysElsewhere u old new →
    HasNoneBelow next old → HasNoneBelow u new
none_more u next old new n elsewhere none at q below =
    elsewhere at q (apart u at (λ same. omega (arith, below, same))) ∙ none at q (omega (arith, below, n))

-- The newest certifications on these user IDs are found; the first of them is at this place.
abbrev pub AreNewestFrom : Entries → ℕ → ℕ → List Component → List (Certified × ℕ) → Type 0
AreNewestFrom verdicts t first uids found =
    (k at : ℕ) (p : Component) → at ≡ first + k → slice_get uids k ≡ Some p →
    KeepsNewest verdicts t p (place_for found at)

pub newest_more : (verdicts : Entries) (t u next : ℕ) (part : Component) (seen : List Component)
    (old new : List (Certified × ℕ)) → u + 1 ≡ next → KeepsNewest verdicts t part (place_for new u) →
    StaysElsewhere u old new → AreNewestFrom verdicts t next seen old → AreNewestFrom verdicts t u (part ∷ seen) new
newest_more verdicts t u next part seen old new n here elsewhere before zero at p e h q =
    let same : part ≡ p = cc in
    let place : u ≡ at = omega (arith, e) in
    subst (λ x. KeepsNewest verdicts t x (place_for new at)) same
    (subst (λ v. KeepsNewest verdicts t part (place_for new v)) place here) q
newest_more verdicts t u next part seen old new n here elsewhere before (suc k) at p e h q =
    ap (option_and_then (slice_get p.sigs)) (elsewhere at q (apart u at (λ same. omega (arith, e, same))))
    ∙ before k at p (omega (arith, e, n)) h q
