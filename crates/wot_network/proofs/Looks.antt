-- Looking at one certificate, in the shape that the code has.
use Rattle.std.proofs.Common.{◌≡◌, ◌≤◌, ◌<◌, ◌+◌, ◌-◌, ◌^◌, min, ℕ, false, if◌then◌else◌, length, Option, Some, sym, ap}
use Rattle.std.proofs.Common.{◌∙◌, subst, arith}
use Rattle.std.specs.Option.{MatchOption}
use Rattle.wot_types.specs.declared.fpr.Fpr.{Fpr}
use Rattle.wot_key.specs.Key.{fpr_of}
use Rattle.wot_verdict.specs.Verdicts.{Entries}
use Rattle.wot_component.specs.Certificate.{Certificate}
use Rattle.wot_component.specs.Counts.{signatures_of}
use Rattle.wot_cert.specs.declared.moments.Span.{Span}
use Rattle.wot_keyring_spec.specs.declared.kept.Kept.{Kept}
use Rattle.wot_keyring_spec.specs.Keyring.{Keyring, cert_at, stamp_at, is_fpr}
use Rattle.wot_keyring_spec.specs.Kept.{AreSortedByFpr}
use Rattle.wot_live.specs.Rows.{edges_of}
use Rattle.wot_network.specs.Net.{Line, Lines, line_at, marks_of, has_current}
use Rattle.wot_network.specs.Refreshing.{Advances, AreKept, IsDone, IsInside, IsMade, IsProgress}
use Rattle.wot_network.proofs.Current.{stale_at_least, line_current}
use Rattle.wot_network.proofs.Fprs.{itself}
use Rattle.wot_network.proofs.Steps.{IsKeptAt, kept_by, made_in_vain, put_progress, put_advances, put_keeps, done_by}

less : (a b w p : ℕ) → a ≤ b + w → w ≤ p → a ≤ b + p
less a b w p h e = omega arith

module _ (k : Keyring) (t : ℕ) (old : Lines) (fpr : Fpr) (cert : Certificate) (stamp : ℕ)
    (at : cert_at k fpr ≡ Some cert) (s : stamp ≡ stamp_at k fpr)
    (stale : has_current (marks_of old) t fpr stamp ≡ false) where
  there : IsKeptAt k fpr cert stamp
  there = kept_by k fpr cert stamp at s

  abbrev x : Kept
  x = there.entry

  was_stale : has_current (marks_of old) t fpr x.stamp ≡ false
  was_stale = ap (has_current (marks_of old) t fpr) there.stamped ∙ stale

  of_cert : (P : Certificate → Type 0) → P cert → P x.cert
  of_cert P = subst P (sym there.cert)

  -- something was made of it, and isn't kept
  pub looked_in_vain : (before after : ℕ) → before ≤ after → after ≤ before + signatures_of cert →
      IsProgress k t old old before after
  looked_in_vain before after up most =
      made_in_vain k t old before after up
      (less after before (signatures_of x.cert) _ (of_cert (λ c. after ≤ before + signatures_of c) most)
      (stale_at_least signatures_of t (marks_of old) fpr x k.certs there.found was_stale))

  module _ (new : Lines) (line : Line) (v : Entries) (seen : v ≡ k.verdicts) (sorted : AreSortedByFpr k.certs)
      (named : fpr_of cert.key ≡ fpr) (made : IsMade v cert stamp t line)
      (put : (q : Fpr) → line_at new q ≡ (if is_fpr fpr q then Some line else line_at old q)) where
    was_made : IsMade k.verdicts x.cert x.stamp t line
    was_made = subst (λ n. IsMade k.verdicts x.cert n t line) (sym there.stamped)
        (of_cert (λ c. IsMade k.verdicts c stamp t line) (subst (λ (w : Entries). IsMade w cert stamp t line) seen
        made))

    has_name : fpr_of x.cert.key ≡ fpr
    has_name = of_cert (λ c. fpr_of c.key ≡ fpr) named

    pub looked_on : (before after : ℕ) → before ≤ after → after ≤ before + signatures_of cert →
        IsProgress k t old new before after
    looked_on before after up most =
        put_progress k t old new fpr x line sorted there.found has_name was_made put was_stale before after up
        (of_cert (λ c. after ≤ before + signatures_of c) most)

    pub looked_further : (before after : ℕ) → after ≤ before + signatures_of cert →
        min (before + length (edges_of v cert t)) (2 ^ 64 - 1) ≤ after → Advances k t old new before after
    looked_further before after most least =
        put_advances k t old new fpr x line sorted there.found has_name was_made put was_stale before after
        (of_cert (λ c. after ≤ before + signatures_of c) most)
        (of_cert (λ c. min (before + length (edges_of k.verdicts c t)) (2 ^ 64 - 1) ≤ after)
        (subst (λ (w : Entries). min (before + length (edges_of w cert t)) (2 ^ 64 - 1) ≤ after) seen least))

    pub looked_keeps : (window window' : Span) → IsInside window' window → IsInside window' line.span →
        MatchOption (cert_at k fpr) (stamp ≡ 0) (λ _. 0 < stamp) → stamp ≤ k.changes → AreKept k window old →
        AreKept k window' new
    looked_keeps window window' inside narrow given past before =
        put_keeps k t old new fpr x line sorted there.found has_name was_made put window window' inside narrow
        (subst (λ n. 0 < n) (sym there.stamped)
        (subst (λ (o : Option Certificate). MatchOption o (stamp ≡ 0) (λ _. 0 < stamp)) at given))
        (subst (λ n. n ≤ k.changes) (sym there.stamped) past) before

    pub looked_done : IsDone k t new fpr
    looked_done = done_by k t new fpr stamp s
        (line_current new t fpr stamp line (put fpr ∙ ap (λ b. if b then Some line else line_at old fpr) (itself fpr))
        made.stamp made.span)
