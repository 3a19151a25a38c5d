-- A table of reach while it is made: what is known of it before all fingerprints are checked.
use Rattle.std.specs.Prelude.{ℕ, List, drop, ◌⊎◌, Option, IfSome}
use Rattle.std.specs.Borrow.{Bor}
use Rattle.std.specs.List.{AllByRecursion}
use Rattle.wot_types.specs.declared.fpr.Fpr.{Fpr}
use Rattle.wot_edge.specs.Record.{Record, Has}
use Rattle.wot_reach.specs.declared.checking.Checking.{Checking}
use Rattle.wot_reach.specs.declared.making.Making.{Making}
use Rattle.wot_reach.specs.declared.making.Making.TheVariants as stages
use Rattle.wot_reach.specs.Onward.{AreOnward}
use Rattle.wot_reach.specs.Reach.{HasEnough, IsReach, Table, number_at}

-- the numbers are those of these fingerprints, or of some of them
abbrev pub AreKeysOf : List Fpr → List (Fpr × ℕ) → Type 0
AreKeysOf fprs numbers = AllByRecursion (λ (e : Fpr × ℕ). Has fprs e.0) numbers

-- every fingerprint that isn't one of these has enough
abbrev pub HaveEnoughBut : (List ℕ → Record) → List (Fpr × ℕ) → (Fpr → ℕ) → List Fpr → Type 0
HaveEnoughBut network roots number rest = (fpr : Fpr) → HasEnough network roots number fpr ⊎ Has rest fpr

-- The places so far are those of all edges that lead on, and all fingerprints before the next one have enough.
pub record IsChecking (network : List ℕ → Record) (roots : List (Fpr × ℕ)) (c : Checking) : Type 0 where
  pub onward : AreOnward network (number_at c.reach) c.reach.onward
  pub enough : HaveEnoughBut network roots (number_at c.reach) (drop c.next c.fprs.items)

-- Before the check, nothing is known of the numbers except that they belong to the fingerprints. Once the table is
-- made, it is the reach.
abbrev pub IsMaking : (List ℕ → Record) → List (Fpr × ℕ) → Making → Type 0
IsMaking network roots (stages.Begun fprs) = Unit {0}
IsMaking network roots (stages.Placing placing) = Unit {0}
IsMaking network roots (stages.Linking linking) = Unit {0}
IsMaking network roots (stages.Passing passing) = Unit {0}
IsMaking network roots (stages.Numbering numbering) = AreKeysOf numbering.fprs.items numbering.table
IsMaking network roots (stages.Checking checking) = IsChecking network roots checking
IsMaking network roots (stages.Made reach) = IsReach network roots reach

-- what is returned of it is the reach
abbrev pub GivesReach : Making → Option (Bor Table) → Type 0
GivesReach making found =
    (network : List ℕ → Record) (roots : List (Fpr × ℕ)) → IsMaking network roots making
    → IfSome found (λ (reach : Bor Table). IsReach network roots reach.now)
