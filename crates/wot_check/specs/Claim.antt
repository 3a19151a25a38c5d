-- Claimed paths, and when claims are right.
use Rattle.std.specs.Prelude.{◌≡◌, ℕ, ◌<◌, List, [], ◌∷◌, ◌++◌, map}
use Rattle.wot_edge.specs.declared.path.Path.{Path}
use Rattle.wot_edge.specs.declared.path.Step.{Step}
use Rattle.wot_edge.specs.Path.{Question, Use, use_of, start, IsValid, path_amount}
use Rattle.wot_check.specs.declared.claimed.ClaimedStep.{ClaimedStep}

-- an amount, and for each step, from the root on, the issuer and the place of the certified user ID
pub record Claim : Type 0 where
  pub amount : ℕ
  pub steps : List ClaimedStep

abbrev pub claimed_step : Step → ClaimedStep
claimed_step step = record { issuer = step.issuer; place = step.uid }

-- the claim that a path is
abbrev pub claim_of : Path → Claim
claim_of path = record { amount = path.amount; steps = map claimed_step path.steps }

-- A claim shows a path if that path is valid, and the amount is its residual amount, which is positive.
pub record Shows (q : Question) (used : Use) (claim : Claim) (path : Path) : Type 0 where
  pub same : claim ≡ claim_of path
  pub valid : IsValid q path.steps
  pub root : path.root ≡ start q.target path.steps
  pub amount : path.amount ≡ path_amount q used path.steps
  pub positive : 0 < path.amount

-- Each claim shows a path after the earlier ones and those before it.
abbrev pub EachShows : Question → List Path → List Claim → List Path → Type 0
EachShows q earlier [] [] = Unit {0}
EachShows q earlier [] (path ∷ paths) = ⊥
EachShows q earlier (claim ∷ claims) [] = ⊥
EachShows q earlier (claim ∷ claims) (path ∷ paths) =
    Shows q (use_of earlier) claim path × EachShows q (earlier ++ path ∷ []) claims paths

-- The claims are right if they show paths, one after another.
abbrev pub AreGood : Question → List Claim → Type 0
AreGood q claims = (paths : List Path) × EachShows q [] claims paths
