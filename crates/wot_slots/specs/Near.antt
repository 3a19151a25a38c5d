-- Values by signature number in two places: most in a row of slots, and others in a tree.
use Rattle.std.specs.Prelude.{◌≡◌, ◌<◌, ◌+◌, ◌⊎◌, ℕ, false, cond, List, Option, Some, None}
use Rattle.std.specs.List.{slice_index_or}
use Rattle.std.specs.Map.{lookup}
use Rattle.std.specs.Option.{option_or}
use Rattle.wot_types.specs.declared.number.SigNumber.{SigNumber}
use Rattle.wot_slots.specs.declared.slots.Slots.{Slots}
use Rattle.wot_slots.specs.Row.{RowOf, Slot}
pub use Rattle.wot_slots.specs.Found.{DiffersAt, HasNoneIn, IsFirstOf, IsSlotOf, Replaces}
pub use Rattle.wot_slots.specs.Found.{found_from, held_for, is_number, near_in, place_in, word_in}

-- the entries of the tree
abbrev pub Rest : Type 0 → Type 0
Rest T = List (SigNumber × T)

-- ---- a row and a tree

-- the value that they have for a number
abbrev pub holder_in : {T : Type 0} → List (Slot T) → Rest T → SigNumber → Option T
holder_in near rest n = option_or (near_in near n) (lookup (is_number n) rest)

-- Both have the same value for each number.
abbrev pub SaysSame : {T : Type 0} → List (Slot T) → Rest T → List (Slot T) → Rest T → Type 0
SaysSame near rest near' rest' = (n : SigNumber) → holder_in near' rest' n ≡ holder_in near rest n

-- A longer row has nothing for a number, or what the row has.
abbrev pub IsOf : {T : Type 0} → List (Slot T) → List (Slot T) → SigNumber → Type 0
IsOf near longer n = (near_in longer n ≡ None) ⊎ (near_in longer n ≡ near_in near n)

-- What the row has for a number is in the longer row or in the tree now. Other numbers were left alone.
pub record Moves {T : Type 0} (number : SigNumber) (near old : List (Slot T)) (rest : Rest T) (new : List (Slot T))
    (rest' : Rest T) : Type 0 where
  pub others :
      (q : SigNumber) → is_number number q ≡ false
      → (near_in new q ≡ near_in old q) × (lookup (is_number q) rest' ≡ lookup (is_number q) rest)
  pub sound : IsOf near old number → IsOf near new number
  pub none : near_in near number ≡ None → lookup (is_number number) rest' ≡ lookup (is_number number) rest
  pub held :
      IsOf near old number → (value : T) → near_in near number ≡ Some value
      → holder_in new rest' number ≡ Some value

-- What the row has of the entries before this place was moved to the longer row or to the tree, which had this before.
pub record HasMoved {T : Type 0} (at : ℕ) (came : List (Slot T)) (near longer : List (Slot T))
    (before rest : Rest T) : Type 0 where
  pub sound : (q : SigNumber) → IsOf near longer q
  pub none : (q : SigNumber) → near_in near q ≡ None → lookup (is_number q) rest ≡ lookup (is_number q) before
  pub held :
      (q : SigNumber) (i : ℕ) (other value : T) → i < at → slice_index_or came i None ≡ Some (q, other)
      → near_in near q ≡ Some value → holder_in longer rest q ≡ Some value

-- What the row has of the entry at this place was moved, after those before it.
abbrev pub MovesOn :
    {T : Type 0} → ℕ → RowOf T → List (Slot T) → Rest T → List (Slot T) → Rest T → Type 0
MovesOn {T} at near old rest new rest' =
    (before : Rest T) → HasMoved at near.came near.items old before rest
    → HasMoved (at + 1) near.came near.items new before rest'

-- ---- the whole

-- the value of a number
abbrev pub held_of : {T : Type 0} → Slots T → SigNumber → Option T
held_of slots n = holder_in slots.near.items slots.rest.entries n

-- The new ones have this value for one number, and what the old ones have for others.
abbrev pub Puts : {T : Type 0} → SigNumber → Option T → Slots T → Slots T → Type 0
Puts number w old new = (n : SigNumber) → held_of new n ≡ cond (is_number number n) w (held_of old n)

-- Both have the same value for each number.
abbrev pub HoldsSame : {T : Type 0} → Slots T → Slots T → Type 0
HoldsSame old new = (n : SigNumber) → held_of new n ≡ held_of old n
