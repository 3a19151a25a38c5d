-- Proofs of absence: labels that show, edge by edge, that no valid path of positive amount is left. A label is the
-- least number of edges from there to the target, as far as depth, scope and residual amounts go.
use Rattle.std.specs.Prelude.{◌≡◌, ◌≢◌, ◌⊎◌, ◌↔◌, ℕ, ◌+◌, ◌<◌, ◌≤◌, Bool, true, false, List, [], map}
use Rattle.std.specs.Prelude.{Option, Some, None, Result, IfOk}
use Rattle.wot_types.specs.declared.fpr.Fpr.{Fpr}
use Rattle.wot_types.specs.declared.memory.Memory.{Memory}
use Rattle.wot_edge.specs.declared.path.Path.{Path}
use Rattle.wot_edge.specs.declared.path.Step.{Step}
use Rattle.wot_edge.specs.Answer.{IsAnswer, amount_of}
use Rattle.wot_edge.specs.Record.{Row, Has, entry_at, rows_into}
use Rattle.wot_edge.specs.Path.{Question, Use, use_of, step_of, step_left, root_left, IsOpen, IsSpent}
use Rattle.wot_check.specs.declared.checking.Checked.{Checked}
use Rattle.wot_check.specs.declared.checking.Checked.TheVariants.{Yes, BadPaths, BadTable}
use Rattle.wot_check.specs.declared.checking.Claims.{Claims}
use Rattle.wot_check.specs.Claim.{Claim, AreGood, EachShows, claim_of}
use Rattle.wot_check.specs.Table.{Labels, label_at, IsAtMost, IsTable}

-- a usable edge into a fingerprint with a positive residual amount
pub record Carries (q : Question) (used : Use) (at : Fpr) (row : Row) : Type 0 where
  pub into : Has (rows_into q.network at) row
  pub usable : row.usable ≡ true
  pub left : 0 < step_left used (step_of row.edge)

-- the first point: the issuer of each such edge into the target, on U, has the label 1
abbrev pub LastLabelled : Question → Use → Labels → Type 0
LastLabelled q used table =
    (row : Row) → Carries q used q.target row → (entry_at q.network q.target).place ≡ Some row.edge.uid
    → label_at table row.edge.issuer ≡ Some 1

-- such an edge may come before as many edges as a label says
pub record MayPrecede (q : Question) (used : Use) (at : Fpr) (label : ℕ) (row : Row) : Type 0 where
  pub carries : Carries q used at row
  pub depth : label ≤ row.edge.depth
  pub scope : row.scope ≡ true
  pub issuer : row.edge.issuer ≢ q.target

-- the second point: the issuer of each such edge into a labelled fingerprint has a label of at most one more
abbrev pub OthersLabelled : Question → Use → Labels → Type 0
OthersLabelled q used table =
    (at : Fpr) (label : ℕ) (row : Row) → label_at table at ≡ Some label → label < 255 → MayPrecede q used at label row
    → IsAtMost (label + 1) (label_at table row.edge.issuer)

-- the third point: no labelled fingerprint is a root with a residual amount
abbrev pub RootsSpent : Question → Use → Labels → Type 0
RootsSpent q used table = (fpr : Fpr) (label : ℕ) → label_at table fpr ≡ Some label → root_left q used fpr ≡ 0

-- the first two points
pub record Closes (q : Question) (used : Use) (table : Labels) : Type 0 where
  pub last : LastLabelled q used table
  pub others : OthersLabelled q used table

-- all three
pub record Excludes (q : Question) (used : Use) (table : Labels) : Type 0 where
  pub closes : Closes q used table
  pub roots : RootsSpent q used table

abbrev pub is_in_order : Question → Bool
is_in_order q = (entry_at q.network q.target).in_order

-- A proof of absence after what is used: the target isn't valid for U, or the three points hold.
abbrev pub IsAbsence : Question → Use → Labels → Type 0
IsAbsence q used table = (is_in_order q ≡ false) ⊎ Excludes q used table

-- ---- the least table

-- It meets the first two points, and each table that meets them has each of its labels, with an equal or smaller
-- number.
pub record IsLeast (q : Question) (used : Use) (table : Labels) : Type 0 where
  pub closes : Closes q used table
  pub least : (other : Labels) → IsTable other → Closes q used other
      → (fpr : Fpr) (label : ℕ) → label_at table fpr ≡ Some label → IsAtMost label (label_at other fpr)

abbrev pub LeastBy : Bool → Question → Use → Labels → Type 0
LeastBy false q used table = table ≡ []
LeastBy true q used table = IsLeast q used table

-- The least table after what is used: empty if the target isn't valid for U.
abbrev pub IsLeastTable : Question → Use → Labels → Type 0
IsLeastTable q used table = LeastBy (is_in_order q) q used table

-- ---- what is made

-- a valid path of positive amount is left
abbrev pub IsLeft : Question → Use → Type 0
IsLeft q used = (steps : List Step) × IsOpen q used steps

-- the least table, and no path is left; or no table, and a path is left
abbrev pub IsMade : Question → Use → Option Labels → Type 0
IsMade q used None = IsLeft q used
IsMade q used (Some table) = IsTable table × IsLeastTable q used table × IsSpent q used

-- ---- what is checked

-- the claims are right, and the table proves absence after their paths
abbrev pub Accepts : Question → List Claim → Labels → Type 0
Accepts q claims table = (paths : List Path) × EachShows q [] claims paths × IsAbsence q (use_of paths) table

-- the claims are right, and the table doesn't prove absence after their paths
abbrev pub Rejects : Question → List Claim → Labels → Type 0
Rejects q claims table = (paths : List Path) × EachShows q [] claims paths × (IsAbsence q (use_of paths) table → ⊥)

-- no valid path of positive amount is left after the paths of the claims
abbrev pub AreSpent : Question → List Claim → Type 0
AreSpent q claims = (paths : List Path) → EachShows q [] claims paths → IsSpent q (use_of paths)

-- what each result of a check means
abbrev pub IsChecked : Question → List Claim → Labels → Checked → Type 0
IsChecked q claims table Yes = Accepts q claims table
IsChecked q claims table BadPaths = AreGood q claims → ⊥
IsChecked q claims table BadTable = Rejects q claims table

-- a client's paths and table have this result
abbrev pub AreCheckedClaims : Question → Claims → Checked → Type 0
AreCheckedClaims q claims checked = IsChecked q claims.paths.now claims.table.now checked

-- if a check has a result, it is this one if and only if a fact holds
abbrev pub SaysIff : Result Checked Memory → Checked → Type 0 → Type 0
SaysIff result answer fact = IfOk result (λ checked. (checked ≡ answer) ↔ fact)

-- there is a right result; and two right ones are equal
abbrev pub HasAnswer : Question → List Claim → Labels → Type 0
HasAnswer q claims table = (checked : Checked) × IsChecked q claims table checked

abbrev pub AreOne : Question → List Claim → Labels → Checked → Checked → Type 0
AreOne q claims table a b = IsChecked q claims table a → IsChecked q claims table b → a ≡ b

-- a table was made, and with these paths it is accepted
abbrev pub IsAccepted : Question → List Path → Option Labels → Type 0
IsAccepted q paths None = ⊥
IsAccepted q paths (Some table) = Accepts q (map claim_of paths) table

-- what holds if paths are an answer that misses its wanted amount
abbrev pub IfMissed : Question → ℕ → List Path → Type 0 → Type 0
IfMissed q wanted paths fact = IsAnswer q wanted paths → amount_of paths < wanted → fact

-- the paths of an answer that misses, and the least table after them, are accepted
abbrev pub AcceptsLeast : Question → ℕ → List Path → Labels → Type 0
AcceptsLeast q wanted paths table =
    IfMissed q wanted paths (IsLeastTable q (use_of paths) table → Accepts q (map claim_of paths) table)

-- what was made is accepted, if the paths are an answer that misses
abbrev pub AcceptsMissed : Question → List Path → Option Labels → Type 0
AcceptsMissed q paths made = (wanted : ℕ) → IfMissed q wanted paths (IsAccepted q paths made)
