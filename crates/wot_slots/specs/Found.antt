-- What is found in a row of slots: it looks at eight of them for each number.
use Rattle.std.specs.Prelude.{◌≡◌, ◌≤◌, ◌<◌, ◌+◌, ◌*◌, ◌/◌, ◌^◌, ℕ, zero, suc, Bool, true, cond, List, [], ◌∷◌, length}
use Rattle.std.specs.Prelude.{slice_index, Option, Some, None, is_some, MatchBool}
use Rattle.std.specs.BTreeMap.{is_at}
use Rattle.std.specs.Int.{w32, from_be_bytes}
use Rattle.std.specs.List.{slice_index_or}
use Rattle.std.specs.Option.{option_or}
use Rattle.wot_types.specs.declared.number.SigNumber.{SigNumber}
use Rattle.wot_types.specs.SigNumber.{number_cmp}
use Rattle.wot_slots.specs.Row.{Slot}

-- whether this is the number
abbrev pub is_number : SigNumber → SigNumber → Bool
is_number number = is_at (number_cmp number)

-- the first four octets of a number, most significant first
abbrev pub word_in : SigNumber → ℕ
word_in n =
    from_be_bytes w32 (slice_index n.0 0 ∷ slice_index n.0 1 ∷ slice_index n.0 2 ∷ slice_index n.0 3 ∷ [])

-- the first slot of a number, if there are this many: the slots rise with the numbers
abbrev pub place_in : ℕ → SigNumber → ℕ
place_in count n = (word_in n * count) / 2 ^ 32

-- the value in a slot, if it is the slot of this number
abbrev pub held_for : {T : Type 0} → SigNumber → Slot T → Option T
held_for n None = None
held_for n (Some e) = cond (is_number n e.0) (Some e.1) None

-- the value in the first slot that has the number, of `count` slots from a place on
abbrev pub found_from : {T : Type 0} → List (Slot T) → SigNumber → ℕ → ℕ → Option T
found_from slots n at zero = None
found_from slots n at (suc count) =
    option_or (held_for n (slice_index_or slots at None)) (found_from slots n (at + 1) count)

-- the value that a row has for a number: it looks at eight slots
abbrev pub near_in : {T : Type 0} → List (Slot T) → SigNumber → Option T
near_in slots n = found_from slots n (place_in (length slots) n) 8

-- The new row has this for one number, and what the old one has for others.
abbrev pub DiffersAt : {T : Type 0} → SigNumber → Option T → List (Slot T) → List (Slot T) → Type 0
DiffersAt number w old new = (q : SigNumber) → near_in new q ≡ cond (is_number number q) w (near_in old q)

-- No slot from this place up to that one has the number.
abbrev pub HasNoneIn : {T : Type 0} → SigNumber → ℕ → ℕ → List (Slot T) → Type 0
HasNoneIn number from to slots =
    (i : ℕ) → from ≤ i → i < to → held_for number (slice_index_or slots i None) ≡ None

-- The slot at this place is one of the eight of this number.
pub record IsSlotOf {T : Type 0} (number : SigNumber) (at : ℕ) (slots : List (Slot T)) : Type 0 where
  pub within : at < length slots
  pub from : place_in (length slots) number ≤ at
  pub near : at < place_in (length slots) number + 8

-- The slot at this place is the first one of the eight that has the number.
pub record IsFirstOf {T : Type 0} (number : SigNumber) (at : ℕ) (slots : List (Slot T)) : Type 0 where
  pub within : at < length slots
  pub from : place_in (length slots) number ≤ at
  pub near : at < place_in (length slots) number + 8
  pub held : is_some (held_for number (slice_index_or slots at None)) ≡ true
  pub none : HasNoneIn number (place_in (length slots) number) at slots

-- The row has this value now for a number for which it had one, or it had none and is the old row.
abbrev pub Replaces : {T : Type 0} → Bool → SigNumber → T → List (Slot T) → List (Slot T) → Type 0
Replaces replaced number value old new =
    MatchBool replaced (DiffersAt number (Some value) old new) ((near_in old number ≡ None) × (new ≡ old))
