-- Numbers of a table that are also kept in a list.
use Rattle.std.specs.Prelude.{◌≡◌, ℕ, List, Option, Some, None}
use Rattle.std.specs.List.{All}
use Rattle.wot_types.specs.declared.fpr.Fpr.{Fpr}
use Rattle.wot_reach.specs.Reach.{number_of}
use Rattle.wot_reach.specs.declared.slots.Slot.{Slot}

-- the table has this number for the fingerprint
abbrev pub HasNumber : List (Fpr × ℕ) → Fpr → ℕ → Type 0
HasNumber numbers fpr number = number ≡ number_of numbers fpr

-- each slot has the table's number
abbrev pub AreSlots : List (Fpr × ℕ) → List Slot → Type 0
AreSlots numbers slots = All (λ (slot : Slot). HasNumber numbers slot.fpr slot.number) slots

-- what was found is the table's number
abbrev pub HasNumberIfSome : List (Fpr × ℕ) → Fpr → Option ℕ → Type 0
HasNumberIfSome numbers fpr None = Unit {0}
HasNumberIfSome numbers fpr (Some number) = HasNumber numbers fpr number
