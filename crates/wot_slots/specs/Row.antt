-- A row of slots as contracts see it: for each slot the place of its entry.
use Rattle.std.specs.Prelude.{◌≡◌, ℕ, List, map, Option, Some, None}
use Rattle.std.specs.List.{slice_index_or}
use Rattle.wot_types.specs.declared.number.SigNumber.{SigNumber}

-- a slot: a number with its value, or nothing
abbrev pub Slot : Type 0 → Type 0
Slot T = Option (SigNumber × T)

-- the slots, and the entries in the order in which they came: the place of one whose slot was emptied has nothing
pub record RowOf (T : Type 0) : Type 0 where
  pub items : List (Slot T)
  pub came : List (Slot T)

-- the slots that have their entries at these places
abbrev pub slots_by : {T : Type 0} → List ℕ → List (Slot T) → List (Slot T)
slots_by places entries = map (λ place. slice_index_or entries place None) places

-- the place at which there is never an entry
abbrev pub nowhere : ℕ
nowhere = 4294967295

-- Each slot that isn't empty has one of the entries.
abbrev pub HasEntries : {T : Type 0} → List (Slot T) → List (Slot T) → Type 0
HasEntries {T} items came =
    (i : ℕ) (e : SigNumber × T) → slice_index_or items i None ≡ Some e
    → (k : ℕ) × (slice_index_or came k None ≡ Some e)
