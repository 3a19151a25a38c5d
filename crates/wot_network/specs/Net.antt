-- A network: what was made of the certificates of a keyring, kept so that it isn't made again for each question.
use Rattle.std.specs.Prelude.{◌≡◌, ℕ, ◌<◌, ◌≤◌, Bool, true, false, ◌&&◌, nat_eq, nat_le, if◌then◌else◌, List, map}
use Rattle.std.specs.Prelude.{length, Option, Some, None, is_some, IsSomeAnd}
use Rattle.std.specs.Option.{option_map_or, MatchOption}
use Rattle.std.specs.Map.{lookup}
use Rattle.wot_types.specs.declared.fpr.Fpr.{Fpr}
use Rattle.wot_verdict.specs.Verdicts.{Entries}
use Rattle.wot_component.specs.Certificate.{Certificate}
use Rattle.wot_component.specs.Counts.{sum_of, signatures_of}
use Rattle.wot_cert.specs.Span.{InSpan}
use Rattle.wot_cert.specs.declared.moments.Span.{Span}
use Rattle.wot_edge.specs.declared.edge.EdgeFacts.{EdgeFacts}
use Rattle.wot_edge.specs.Lawful.{AreRows}
use Rattle.wot_edge.specs.Record.{Record}
use Rattle.wot_keyring_spec.specs.declared.kept.Kept.{Kept}
use Rattle.wot_keyring_spec.specs.Keyring.{Keyring, certificates_in, kept_at, is_fpr}
use Rattle.wot_keyring_spec.specs.Keyring as keyrings
use Rattle.wot_keyring_spec.specs.Import.{weigh}
use Rattle.wot_standing.specs.Standing.{standing_of}
use Rattle.wot_standing.specs.declared.status.Standing.{Standing}
use Rattle.wot_live.specs.Rows.{edges_of, revoked_of}
use Rattle.wot_network.specs.Records.{record_of}

-- ---- lines

-- what was made of a certificate: its stamp then, the edges into it, its standing, the places of the user IDs that its
-- own key revoked, and the span in which these stay the same
pub record Line : Type 0 where
  pub stamp : ℕ
  pub edges : List EdgeFacts
  pub standing : Standing
  pub revoked : List ℕ
  pub span : Span

abbrev pub Lines : Type 0
Lines = List (Fpr × Line)

abbrev pub line_at : Lines → Fpr → Option Line
line_at lines fpr = lookup (is_fpr fpr) lines

-- The line says what holds for the certificate at t.
pub record DescribesAt (verdicts : Entries) (c : Certificate) (t : ℕ) (line : Line) : Type 0 where
  pub edges : edges_of verdicts c t ≡ line.edges
  pub standing : standing_of verdicts c t ≡ line.standing
  pub revoked : revoked_of verdicts c t ≡ line.revoked

-- It does so at every time of the line's span.
abbrev pub DescribesThroughout : Entries → Certificate → Line → Type 0
DescribesThroughout verdicts c line = (t : ℕ) → InSpan line.span t → DescribesAt verdicts c t line

-- Each line's edges lead to its fingerprint, and are sorted.
abbrev pub AreLawful : Lines → Type 0
AreLawful lines = (fpr : Fpr) (line : Line) → line_at lines fpr ≡ Some line → AreRows fpr line.edges

-- ---- marks

-- how long a line holds: while the certificate has this stamp and the time is in this span
pub record Mark : Type 0 where
  pub stamp : ℕ
  pub span : Span

abbrev pub Marks : Type 0
Marks = List (Fpr × Mark)

abbrev pub mark_of : Line → Mark
mark_of line = record { stamp = line.stamp; span = line.span }

abbrev pub marks_of : Lines → Marks
marks_of lines = map (λ (e : Fpr × Line). (e.0, mark_of e.1)) lines

-- whether a mark is current at t, for a certificate with this stamp
abbrev pub is_current : ℕ → ℕ → Mark → Bool
is_current t stamp mark = nat_eq mark.stamp stamp && (nat_le mark.span.from t && nat_le t mark.span.to)

-- whether a fingerprint has a current mark
abbrev pub has_current : Marks → ℕ → Fpr → ℕ → Bool
has_current marks t fpr stamp = option_map_or (is_current t stamp) (lookup (is_fpr fpr) marks) false

-- The marks are exactly those of the kept certificates, and all are current.
abbrev pub AreMarksOf : Marks → Keyring → ℕ → Type 0
AreMarksOf marks k t =
    (fpr : Fpr) → MatchOption (kept_at k fpr) (lookup (is_fpr fpr) marks ≡ None)
    (λ (x : Kept). has_current marks t fpr x.stamp ≡ true)

-- Each kept certificate that had a current mark still has one.
abbrev pub StayCurrent : Keyring → ℕ → Marks → Marks → Type 0
StayCurrent k t old new =
    (fpr : Fpr) (x : Kept) → kept_at k fpr ≡ Some x → has_current old t fpr x.stamp ≡ true
    → has_current new t fpr x.stamp ≡ true

-- ---- what is stale

-- the weight of a certificate if it is stale, that is, without a current mark
abbrev pub stale_weight : (Certificate → ℕ) → Marks → ℕ → Fpr × Kept → ℕ
stale_weight weight marks t e = if has_current marks t e.0 e.1.stamp then 0 else weight e.1.cert

-- the weight of all stale certificates of the keyring
abbrev pub weigh_stale : (Certificate → ℕ) → Marks → ℕ → keyrings.Entries → ℕ
weigh_stale weight marks t entries = sum_of (stale_weight weight marks t) entries

-- how many signatures the stale certificates have
abbrev pub stale_signatures : Marks → ℕ → Keyring → ℕ
stale_signatures marks t k = weigh_stale signatures_of marks t k.certs

-- how many edges there are into the stale certificates at t
abbrev pub stale_edges : Marks → ℕ → Keyring → ℕ
stale_edges marks t k = weigh_stale (λ c. length (edges_of k.verdicts c t)) marks t k.certs

-- how many signatures the keyring holds
abbrev pub signatures_in : Keyring → ℕ
signatures_in k = weigh signatures_of (certificates_in k)

-- ---- networks

-- the time of the last refresh, the keyring's count of changes then, and the lines
pub record Net : Type 0 where
  pub time : ℕ
  pub count : ℕ
  pub lines : Lines

-- A line's stamp isn't in the future. If it is the certificate's current stamp, the line holds for the certificate.
pub record LineFits (k : Keyring) (fpr : Fpr) (line : Line) : Type 0 where
  pub given : 0 < line.stamp
  pub past : line.stamp ≤ k.changes
  pub right : (x : Kept) → kept_at k fpr ≡ Some x → x.stamp ≡ line.stamp → DescribesThroughout k.verdicts x.cert line

abbrev pub AreFit : Keyring → Lines → Type 0
AreFit k lines = (fpr : Fpr) (line : Line) → line_at lines fpr ≡ Some line → LineFits k fpr line

-- There is a line with this stamp.
abbrev pub HasStamp : Lines → Fpr → ℕ → Type 0
HasStamp lines fpr stamp = IsSomeAnd (line_at lines fpr) (λ (line : Line). line.stamp ≡ stamp)

-- A certificate with a stamp up to the count has a line of that stamp.
abbrev pub AreKnown : Keyring → ℕ → Lines → Type 0
AreKnown k count lines =
    (fpr : Fpr) (x : Kept) → kept_at k fpr ≡ Some x → 0 < x.stamp → x.stamp ≤ count → HasStamp lines fpr x.stamp

-- The network fits the keyring: each line does, and what wasn't altered since the last refresh has its line.
pub record Fits (n : Net) (k : Keyring) : Type 0 where
  pub past : n.count ≤ k.changes
  pub lines : AreFit k n.lines
  pub known : AreKnown k n.count n.lines

-- A line holds for a kept certificate at t.
pub record IsLineNow (verdicts : Entries) (t : ℕ) (x : Kept) (line : Line) : Type 0 where
  pub stamp : line.stamp ≡ x.stamp
  pub span : InSpan line.span t
  pub tells : DescribesAt verdicts x.cert t line

-- The network is up to date with this keyring at t: it has a line for each certificate, and no other.
pub record IsRight (n : Net) (k : Keyring) (t : ℕ) : Type 0 where
  pub time : n.time ≡ t
  pub present : (fpr : Fpr) (x : Kept) → kept_at k fpr ≡ Some x → is_some (line_at n.lines fpr) ≡ true
  pub tells : (fpr : Fpr) (x : Kept) (line : Line) → kept_at k fpr ≡ Some x → line_at n.lines fpr ≡ Some line
      → IsLineNow k.verdicts t x line
  pub absent : (fpr : Fpr) → kept_at k fpr ≡ None → line_at n.lines fpr ≡ None

-- ---- roads

-- what roads stand for: a keyring at a time
pub record Present : Type 0 where
  pub keyring : Keyring
  pub time : ℕ

-- what they make of a user ID
abbrev pub network_for : Present → List ℕ → Record
network_for p u = record_of (certificates_in p.keyring) p.keyring.verdicts p.time u
