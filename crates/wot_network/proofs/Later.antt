-- A network that fits a keyring fits each later one.
use Rattle.std.proofs.Common.{◌≡◌, ◌≤◌, ◌<◌, inl, inr, ℕ, Option, Some, None, sym, ◌∙◌, subst, arith}
use Rattle.std.specs.List.{AllByRecursion}
use Rattle.std.specs.Option.{option_map_or}
use Rattle.wot_types.specs.declared.fpr.Fpr.{Fpr}
use Rattle.wot_verdict.specs.Verdicts.{Entries}
use Rattle.wot_component.specs.Certificate.{Certificate}
use Rattle.wot_component.specs.Counts.{all_sigs}
use Rattle.wot_keyring_spec.specs.declared.kept.Kept.{Kept}
use Rattle.wot_keyring_spec.specs.Keyring.{Keyring, kept_at}
use Rattle.wot_keyring_spec.specs.Later.{SaysSame, IsUnaltered, IsLaterAt, IsLater}
use Rattle.wot_network.specs.Net.{Line, Net, Fits, LineFits, DescribesAt}
use Rattle.wot_network.proofs.Verdicts.{edges_same, standing_same, revoked_same}

tells_same : (old new : Entries) (c : Certificate) (t : ℕ) (line : Line) →
    AllByRecursion (SaysSame old new) (all_sigs c) → DescribesAt old c t line → DescribesAt new c t line
tells_same old new c t line said tells = record {
  edges = sym (edges_same old new c t said) ∙ tells.edges;
  standing = sym (standing_same old new c t said) ∙ tells.standing;
  revoked = sym (revoked_same old new c t said) ∙ tells.revoked;
}

some_none : (o : Option Kept) (x : Kept) → o ≡ Some x → o ≡ None → ⊥
some_none o x h k = cc

chain : (a b c : ℕ) → a ≤ b → b ≤ c → a ≤ c
chain a b c h k = omega arith

above : (a b : ℕ) → a < b → b ≤ a → ⊥
above a b h k = omega arith

module _ (old new : Keyring) (later : IsLater old new) where
  -- What is kept now with a stamp up to the old count was already kept with it.
  unaltered : (fpr : Fpr) (x : Kept) → kept_at new fpr ≡ Some x → x.stamp ≤ old.changes → IsUnaltered old new fpr
  unaltered fpr x found past = by (later.at fpr)
    where
      by : IsLaterAt old new fpr → IsUnaltered old new fpr
      by (inl same) = same
      by (inr (inl gone)) = absurd (some_none (kept_at new fpr) x found gone)
      by (inr (inr given)) =
          absurd (above old.changes x.stamp
          (subst (λ (o : Option Kept). old.changes < option_map_or (λ (y : Kept). y.stamp) o 0) found given) past)

  line_fits : (fpr : Fpr) (line : Line) → LineFits old fpr line → LineFits new fpr line
  line_fits fpr line fits = record {
    given = fits.given;
    past = chain _ _ _ fits.past later.counted;
    right = λ x found stamp t within.
        let same = unaltered fpr x found (subst (λ n. n ≤ old.changes) (sym stamp) fits.past) in
        let was : kept_at old fpr ≡ Some x = sym same.kept ∙ found in
        tells_same old.verdicts new.verdicts x.cert t line (same.said x was) (fits.right x was stamp t within);
  }

  pub fits_later : (n : Net) → Fits n old → Fits n new
  fits_later n fits = record {
    past = chain _ _ _ fits.past later.counted;
    lines = λ fpr line found. line_fits fpr line (fits.lines fpr line found);
    known = λ fpr x found given past.
        let same = unaltered fpr x found (chain _ _ _ past fits.past) in
        fits.known fpr x (sym same.kept ∙ found) given past;
  }
