-- Values in the order of their numbers: which number comes next, and the list of all entries.
use Rattle.std.specs.Prelude.{◌≡◌, ◌<◌, ◌≤◌, ◌+◌, ◌⊎◌, ℕ, Bool, true, cond, List, [], ◌∷◌, length, slice_index}
use Rattle.std.specs.Prelude.{Option, Some, None, is_some}
use Rattle.std.specs.BTreeMap.{insert_entry}
use Rattle.std.specs.List.{slice_index_or}
use Rattle.std.specs.Map.{keys_of}
use Rattle.std.specs.Option.{IfSome, option_map}
use Rattle.std.specs.Ordering.{is_lt}
use Rattle.std.specs.declared.ops.Bound.{Bound}
use Rattle.std.specs.declared.ops.Bound.TheVariants.{Excluded, Unbounded}
use Rattle.wot_types.specs.declared.number.SigNumber.{SigNumber}
use Rattle.wot_types.specs.SigNumber.{number_cmp}
use Rattle.wot_slots.specs.declared.slots.Slots.{Slots}
use Rattle.wot_slots.specs.Near.{Rest, held_for, held_of, near_in, place_in}
use Rattle.wot_slots.specs.Row.{Slot}

-- The number has 32 octets, as every number has that a program reads.
pub record IsNumber (n : SigNumber) : Type 0 where
  pub octets : length n.0 ≡ 32
  pub small : (i : ℕ) → slice_index n.0 i < 256

-- whether a number is above the last one, or there is no last one
abbrev pub is_above : Option SigNumber → SigNumber → Bool
is_above None n = true
is_above (Some last) n = is_lt (number_cmp last n)

-- whether a number is below the best one, or there is no best one
abbrev pub is_below : Option SigNumber → SigNumber → Bool
is_below None n = true
is_below (Some best) n = is_lt (number_cmp n best)

-- the bound above which the next number is
abbrev pub bound_above : Option SigNumber → Bound SigNumber
bound_above None = Unbounded
bound_above (Some last) = Excluded last

-- The least number above the last one for which there is a value, if there is one.
pub record IsNext {T : Type 0} (found : SigNumber → Option T) (last next : Option SigNumber) : Type 0 where
  pub above : IfSome next (λ n. is_above last n ≡ true)
  pub there : IfSome next (λ n. is_some (found n) ≡ true)
  pub least : (q : SigNumber) → IsNumber q → is_above last q ≡ true → is_below next q ≡ true → found q ≡ None

-- The entry of that number, if there is one.
pub record IsNextEntry {T : Type 0} (found : SigNumber → Option T) (last : Option SigNumber)
    (next : Option (SigNumber × T)) : Type 0 where
  pub above : IfSome next (λ e. is_above last e.0 ≡ true)
  pub held : IfSome next (λ e. found e.0 ≡ Some e.1)
  pub least :
      (q : SigNumber) → IsNumber q → is_above last q ≡ true → is_below (option_map (λ e. e.0) next) q ≡ true
      → found q ≡ None

-- There is a value for this number, and it is above the last one.
pub record IsCandidate {T : Type 0} (found : SigNumber → Option T) (last : Option SigNumber) (n : SigNumber) : Type 0
  where
    pub number : IsNumber n
    pub above : is_above last n ≡ true
    pub there : is_some (found n) ≡ true

-- A lookup of this number reads the slot at this place.
abbrev pub IsRead : ℕ → SigNumber → ℕ → Type 0
IsRead count n at = (place_in count n ≤ at) × (at < place_in count n + 8)

-- The best number so far was compared with the slot at this place.
pub record IsBetter {T : Type 0} (at : ℕ) (slots : List (Slot T)) (last best next : Option SigNumber) : Type 0 where
  pub one : (next ≡ best) ⊎ IfSome next (IsCandidate (near_in slots) last)
  pub lower : (q : SigNumber) → is_below next q ≡ true → is_below best q ≡ true
  pub none :
      (q : SigNumber) → IsRead (length slots) q at → is_above last q ≡ true → is_below next q ≡ true
      → held_for q (slice_index_or slots at None) ≡ None

-- ---- all entries

-- the entries, with this value for the number if there is one
abbrev pub with_value : {T : Type 0} → Rest T → SigNumber → Option T → Rest T
with_value entries n None = entries
with_value entries n (Some value) = insert_entry number_cmp entries n value

-- the values that these numbers have, in order
abbrev pub listed : {T : Type 0} → (SigNumber → Option T) → List SigNumber → Rest T
listed found [] = []
listed found (n ∷ ns) = with_value (listed found ns) n (found n)

-- the numbers in a row and a tree
abbrev pub numbers_in : {T : Type 0} → List (Slot T) → Rest T → List SigNumber
numbers_in [] rest = keys_of rest
numbers_in (None ∷ slots) rest = numbers_in slots rest
numbers_in (Some e ∷ slots) rest = e.0 ∷ numbers_in slots rest

-- the value of a number that is above the last one
abbrev pub above_only : {T : Type 0} → Option SigNumber → (SigNumber → Option T) → SigNumber → Option T
above_only last found n = cond (is_above last n) (found n) None

-- the numbers above the last one that have something, in order: `found` says what each of them has
abbrev pub entries_by : {T U : Type 0} → (SigNumber → Option U) → Option SigNumber → Slots T → Rest U
entries_by found last slots = listed (above_only last found) (numbers_in slots.near.items slots.rest.entries)

-- the numbers above the last one with their values, in order
abbrev pub entries_above : {T : Type 0} → Option SigNumber → Slots T → Rest T
entries_above last slots = entries_by (held_of slots) last slots

-- Each number that has a value has 32 octets.
abbrev pub AreNumbers : {T : Type 0} → Slots T → Type 0
AreNumbers slots = (n : SigNumber) → is_some (held_of slots n) ≡ true → IsNumber n
