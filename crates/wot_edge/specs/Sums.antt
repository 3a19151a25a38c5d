-- What paths use, as sums that are kept.
use Rattle.std.specs.Prelude.{◌≡◌, ◌+◌, ℕ, List, ◌∷◌, Option, IsSome, cond, if◌then◌else◌}
use Rattle.std.specs.declared.cmp.Ordering.{Ordering}
use Rattle.std.specs.Ordering.{on, then_cmp}
use Rattle.std.specs.Option.{unwrap_or}
use Rattle.std.specs.Map.{lookup}
use Rattle.std.specs.BTreeMap.{is_at}
use Rattle.wot_types.specs.declared.fpr.Fpr.{Fpr}
use Rattle.wot_types.specs.Fpr.{fpr_cmp, same_fpr}
use Rattle.wot_edge.specs.declared.path.Path.{Path}
use Rattle.wot_edge.specs.declared.path.Step.{Step}
use Rattle.wot_edge.specs.declared.used.Pair.{Pair}
use Rattle.wot_edge.specs.Path.{Use, pair_part, path_pair, path_root}

-- the sum at a key, or 0 if it has none
abbrev pub sum_at : {K : Type 0} → (K → K → Ordering) → List (K × ℕ) → K → ℕ
sum_at cmp sums key = unwrap_or (lookup (is_at (cmp key)) sums) 0

-- the value that is kept at a fingerprint
abbrev pub value_at : {V : Type 0} → List (Fpr × V) → Fpr → Option V
value_at entries fpr = lookup (is_at (fpr_cmp fpr)) entries

-- this is now the value at this fingerprint; all others are unchanged
abbrev pub PutsAt : {V : Type 0} → List (Fpr × V) → List (Fpr × V) → Fpr → Option V → Type 0
PutsAt old new fpr value = (q : Fpr) → value_at new q ≡ cond (is_at (fpr_cmp fpr) q) value (value_at old q)

-- an amount at one fingerprint, and 0 at all others
abbrev pub part_at : Fpr → ℕ → Fpr → ℕ
part_at fpr amount q = if same_fpr q fpr then amount else 0

-- the sums of some pairs and of some roots; those of all others are 0
pub record Sums : Type 0 where
  pub pairs : List (Pair × ℕ)
  pub roots : List (Fpr × ℕ)

abbrev pub pair_cmp : Pair → Pair → Ordering
pair_cmp = then_cmp (on (λ pair. pair.issuer) fpr_cmp) (on (λ pair. pair.target) fpr_cmp)

-- the pair of a step
abbrev pub pair_of : Step → Pair
pair_of step = record { issuer = step.issuer; target = step.target }

-- the sum that is kept at a pair, and what steps of an amount add there
abbrev pub kept_at : List (Pair × ℕ) → Pair → ℕ
kept_at sums pair = sum_at pair_cmp sums pair

abbrev pub added_at : ℕ → List Step → Pair → ℕ
added_at amount steps pair = pair_part pair.issuer pair.target amount steps

-- each pair's sum has risen by what these steps add there
abbrev pub RaisesAll : List (Pair × ℕ) → List (Pair × ℕ) → ℕ → List Step → Type 0
RaisesAll old new amount steps = (q : Pair) → kept_at new q ≡ kept_at old q + added_at amount steps q

-- by what this step adds and later ones don't
abbrev pub RaisesStep : List (Pair × ℕ) → List (Pair × ℕ) → ℕ → Step → List Step → Type 0
RaisesStep old new amount step later =
    (q : Pair) → kept_at new q + added_at amount later q ≡ kept_at old q + added_at amount (step ∷ later) q

-- a sum is kept at this pair
abbrev pub HasSum : List (Pair × ℕ) → Pair → Type 0
HasSum sums pair = IsSome (lookup (is_at (pair_cmp pair)) sums)

abbrev pub pair_sum : Sums → Fpr → Fpr → ℕ
pair_sum sums issuer target = sum_at pair_cmp sums.pairs (record { issuer = issuer; target = target })

abbrev pub root_sum : Sums → Fpr → ℕ
root_sum sums fpr = sum_at fpr_cmp sums.roots fpr

-- each pair's sum has risen by what a path uses of it, and so has each root's
abbrev pub PairsRise : Sums → Sums → Path → Type 0
PairsRise old new path =
    (issuer target : Fpr) → pair_sum new issuer target ≡ pair_sum old issuer target + path_pair issuer target path

abbrev pub RootsRise : Sums → Sums → Path → Type 0
RootsRise old new path = (fpr : Fpr) → root_sum new fpr ≡ root_sum old fpr + path_root fpr path

-- no pair's sum has changed, and no root's
abbrev pub PairsStay : Sums → Sums → Type 0
PairsStay old new = (issuer target : Fpr) → pair_sum new issuer target ≡ pair_sum old issuer target

abbrev pub RootsStay : Sums → Sums → Type 0
RootsStay old new = (fpr : Fpr) → root_sum new fpr ≡ root_sum old fpr

-- the use that these sums are
abbrev pub use_in : Sums → Use
use_in sums = record { pair = pair_sum sums; root = root_sum sums }
