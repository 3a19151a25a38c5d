-- A certification takes its issuer's place, or gives it back to a newer one.
use Rattle.std.proofs.Common.{◌≡◌, ℕ, Bool, true, false, cond, List, [], ◌∷◌, ◌++◌, length, map, Option, Some}
use Rattle.std.proofs.Common.{refl, sym, ap, ◌∙◌}
use Rattle.std.specs.List.{slice_get}
use Rattle.std.specs.Option.{option_and_then, option_flatten}
use Rattle.wot_types.specs.declared.fpr.Fpr.{Fpr}
use Rattle.wot_types.specs.Fpr.{same_fpr}
use Rattle.wot_verdict.specs.Verdicts.{Entries}
use Rattle.wot_component.specs.Certificate.{Signature}
use Rattle.wot_component.specs.Ranked.{higher_of}
use Rattle.wot_cert.specs.Time.{newness}
use Rattle.wot_standing.specs.Latest.{revoked_at, stays}
use Rattle.wot_standing.specs.Certifiers.{certifier_of, kept_for, newer_by, ByIssuer, KeepsNumber, TakesNewest}
use Rattle.wot_standing.proofs.NumbersByIssuer.{changed, found_at, is_newer, others_newer, valid_by}

-- ---- by whom the signature is that stands behind these

pub mapped_behind : (f : Signature → Option Fpr) (prefix seen : List Signature) (s : Signature)
    → option_flatten (slice_get (map f (prefix ++ s ∷ seen)) (length prefix)) ≡ f s
mapped_behind f [] seen s = refl
mapped_behind f (x ∷ prefix) seen s = mapped_behind f prefix seen s

-- ---- the place of an issuer

twice : (b : Bool) (x y o : Option ℕ) → cond b x (cond b y o) ≡ cond b x o
twice true x y o = refl
twice false x y o = refl

module _ (verdicts : Entries) (t : ℕ) (sigs : List Signature) (s : Signature) (issuer : Fpr) (old : ByIssuer)
    (revoked : Option ℕ) (by : Some issuer ≡ certifier_of verdicts t s)
    (latest : revoked ≡ revoked_at verdicts issuer t sigs) (stay : true ≡ stays revoked s) where
  -- the signature or an older one is kept, by which of them is newer
  becomes : (kept then : Option Signature) → kept ≡ kept_for old sigs issuer → higher_of newness s kept ≡ then
      → then ≡ newer_by verdicts issuer t sigs s (kept_for old sigs issuer)
  becomes kept then k e =
      sym (is_newer verdicts issuer t sigs s (kept_for old sigs issuer) kept then revoked latest
      (valid_by verdicts issuer t revoked s true by stay) k e)

  kept_at : (place : ℕ) (new : ByIssuer) → KeepsNumber old new issuer place
      → slice_get sigs place ≡ newer_by verdicts issuer t sigs s (kept_for old sigs issuer)
      → TakesNewest verdicts t sigs s old new
  kept_at place new keeps e =
      changed issuer (λ q. kept_for old sigs q) (λ q best. newer_by verdicts q t sigs s best)
      (others_newer verdicts t sigs s issuer by) (λ q. kept_for new sigs q) (slice_get sigs place)
      (λ q. ap (option_and_then (slice_get sigs)) (keeps q)
      ∙ found_at (slice_get sigs) (same_fpr issuer q) place (old q)) e

  -- it is the issuer's first one, or newer
  pub takes : (at : ℕ) (new : ByIssuer) (kept : Option Signature) → slice_get sigs at ≡ Some s
      → KeepsNumber old new issuer at → kept ≡ kept_for old sigs issuer → higher_of newness s kept ≡ Some s
      → TakesNewest verdicts t sigs s old new
  takes at new kept here keeps k e = kept_at at new keeps (here ∙ becomes kept (Some s) k e)

  -- the other one is newer
  pub comes_back : (at other : ℕ) (mid new : ByIssuer) → old issuer ≡ Some other
      → KeepsNumber old mid issuer at → KeepsNumber mid new issuer other
      → higher_of newness s (slice_get sigs other) ≡ slice_get sigs other → TakesNewest verdicts t sigs s old new
  comes_back at other mid new was first back e =
      kept_at other new
      (λ q. back q ∙ ap (cond (same_fpr issuer q) (Some other)) (first q)
      ∙ twice (same_fpr issuer q) (Some other) (Some at) (old q))
      (becomes (slice_get sigs other) (slice_get sigs other) (sym (ap (option_and_then (slice_get sigs)) was)) e)
