-- The steps of a refresh.
use Rattle.std.specs.Prelude.{◌≡◌, ◌≤◌, ◌+◌, ◌-◌, ◌^◌, ◌⊎◌, ℕ, Bool, true, min, if◌then◌else◌, is_some}
use Rattle.std.specs.Prelude.{Some, None}
use Rattle.wot_types.specs.declared.fpr.Fpr.{Fpr}
use Rattle.wot_verdict.specs.Verdicts.{Entries}
use Rattle.wot_component.specs.Certificate.{Certificate}
use Rattle.wot_cert.specs.Span.{InSpan}
use Rattle.wot_cert.specs.declared.moments.Span.{Span}
use Rattle.wot_edge.specs.Lawful.{AreRows}
use Rattle.wot_keyring_spec.specs.declared.kept.Kept.{Kept}
use Rattle.wot_keyring_spec.specs.Keyring.{Keyring, kept_at}
use Rattle.wot_standing.specs.Standing.{own}
use Rattle.wot_network.specs.Net.{Line, Lines, line_at, AreFit, AreLawful, HasStamp, StayCurrent, DescribesThroughout}
use Rattle.wot_network.specs.Net.{has_current, marks_of, stale_edges, stale_signatures}

-- The first span is within the second.
abbrev pub IsInside : Span → Span → Type 0
IsInside window span = (t : ℕ) → InSpan window t → InSpan span t

-- The window is within the span of every line.
abbrev pub AreOpen : Span → Lines → Type 0
AreOpen window lines = (fpr : Fpr) (line : Line) → line_at lines fpr ≡ Some line → IsInside window line.span

-- What holds for the lines at every step.
pub record AreKept (k : Keyring) (window : Span) (lines : Lines) : Type 0 where
  pub fit : AreFit k lines
  pub lawful : AreLawful lines
  pub unbroken : AreOpen window lines

-- A line that was made of a certificate with this stamp at t.
pub record IsMade (verdicts : Entries) (c : Certificate) (given t : ℕ) (line : Line) : Type 0 where
  pub stamp : line.stamp ≡ given
  pub span : InSpan line.span t
  pub tells : DescribesThroughout verdicts c line
  pub rows : AreRows (own c) line.edges

-- What was current stays current, and at most what is stale is made.
pub record IsProgress (k : Keyring) (t : ℕ) (old new : Lines) (before after : ℕ) : Type 0 where
  pub stay : StayCurrent k t (marks_of old) (marks_of new)
  pub stamps : (fpr : Fpr) (x : Kept) → kept_at k fpr ≡ Some x → HasStamp old fpr x.stamp → HasStamp new fpr x.stamp
  pub bound : after ≤ before + stale_signatures (marks_of old) t k
  pub never_less : before ≤ after

-- What was made and what is left to make together never grow, and shrink only if the count is at its maximum.
pub record Advances (k : Keyring) (t : ℕ) (old new : Lines) (before after : ℕ) : Type 0 where
  pub most : after + stale_signatures (marks_of new) t k ≤ before + stale_signatures (marks_of old) t k
  pub least : min (before + stale_edges (marks_of old) t k) (2 ^ 64 - 1) ≤ after + stale_edges (marks_of new) t k

-- If a certificate is kept, it has a current line.
abbrev pub IsDone : Keyring → ℕ → Lines → Fpr → Type 0
IsDone k t lines fpr = (x : Kept) → kept_at k fpr ≡ Some x → has_current (marks_of lines) t fpr x.stamp ≡ true

-- Each kept certificate has a current line, or is among those that are left.
abbrev pub AreDoneBut : Keyring → ℕ → Lines → (Fpr → Bool) → Type 0
AreDoneBut k t lines left =
    (fpr : Fpr) (x : Kept) → kept_at k fpr ≡ Some x → (has_current (marks_of lines) t fpr x.stamp ≡ true)
    ⊎ (left fpr ≡ true)

abbrev pub AreDone : Keyring → ℕ → Lines → Type 0
AreDone k t lines = (fpr : Fpr) → IsDone k t lines fpr

-- The lines of kept certificates are unchanged, and there are no others.
abbrev pub KeepsPresent : Keyring → Lines → Lines → Type 0
KeepsPresent k old new = (fpr : Fpr) → line_at new fpr ≡ (if is_some (kept_at k fpr) then line_at old fpr else None)
