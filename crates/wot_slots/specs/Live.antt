-- How a row of slots is kept: each entry is what a lookup of its number finds, so it can be read without the slots.
use Rattle.std.specs.Prelude.{◌≡◌, ◌<◌, ◌≤◌, ◌⊎◌, ℕ, List, length, Some, None}
use Rattle.std.specs.List.{slice_index_or}
use Rattle.wot_types.specs.declared.number.SigNumber.{SigNumber}
use Rattle.wot_slots.specs.Found.{held_for, near_in}
use Rattle.wot_slots.specs.Row.{Slot, nowhere, slots_by}

-- What an entry has for a number is what the slots have for it.
abbrev pub AreFound : {T : Type 0} → List (Slot T) → List (Slot T) → Type 0
AreFound {T} items came =
    (k : ℕ) (n : SigNumber) (value : T) → held_for n (slice_index_or came k None) ≡ Some value
    → near_in items n ≡ Some value

-- No number has two entries.
abbrev pub AreOnce : {T : Type 0} → List (Slot T) → Type 0
AreOnce {T} came =
    (n : SigNumber) (k j : ℕ) (value other : T) → held_for n (slice_index_or came k None) ≡ Some value
    → held_for n (slice_index_or came j None) ≡ Some other → k ≡ j

-- Each entry can have a place, and each slot has the place of an entry or none.
pub record IsKeptBy {T : Type 0} (places : List ℕ) (entries : List (Slot T)) : Type 0 where
  pub few : length entries ≤ nowhere
  pub within :
      (i : ℕ) → (slice_index_or places i nowhere < length entries) ⊎ (slice_index_or places i nowhere ≡ nowhere)
  pub found : AreFound (slots_by places entries) entries
  pub once : AreOnce entries
