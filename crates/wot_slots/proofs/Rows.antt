-- Rows of slots: what is found in one after a slot was set or emptied.
use Rattle.std.proofs.Common.{◌≡◌, ◌<◌, ◌≤◌, ◌+◌, ◌⊎◌, inl, inr, ℕ, suc, zero, Bool, true, false, cond, List}
use Rattle.std.proofs.Common.{length, Option, Some, None, is_some, sym, ap, ◌∙◌, subst, refl, arith}
use Rattle.std.specs.Prelude.{not}
use Rattle.std.specs.Option.{option_or}
use Rattle.std.specs.List.{slice_index_or, slice_set}
use Rattle.std.proofs.lemmas.Bool.{cases_eq, cases_lt}
use Rattle.std.proofs.lemmas.List.{length-set, get_or-set_same, get_or-set_other, get_or_past}
use Rattle.wot_types.specs.declared.number.SigNumber.{SigNumber}
use Rattle.wot_slots.specs.Near.{is_number, place_in, held_for, found_from, near_in, DiffersAt}
use Rattle.wot_slots.specs.Near.{HasNoneIn, IsFirstOf}
use Rattle.wot_slots.specs.Row.{Slot}
use Rattle.wot_slots.proofs.Numbers.{same_number, itself, turned}

-- The slot is empty if a test says so.
pub empty_slot : {A : Type 0} (slot : Option A) (b : Bool) → is_some slot ≡ not b → b ≡ true → slot ≡ None
empty_slot None b is empty = refl
empty_slot (Some e) true is empty = absurd cc
empty_slot (Some e) false is empty = absurd cc

module _ {T : Type 0} where
  -- ---- one slot

  -- what a slot that has something for a number is
  pub held_is : (n : SigNumber) (slot : Slot T) (value : T) → held_for n slot ≡ Some value →
      slot ≡ Some (n, value)
  held_is n None value h = absurd cc
  held_is n (Some e) value h = by (is_number n e.0) refl h
    where
      by : (b : Bool) → is_number n e.0 ≡ b → cond b (Some e.1) None ≡ Some value → Some e ≡ Some (n, value)
      by true t k =
          let number = sym (same_number n e.0 t) in
          let same : e.1 ≡ value = cc in
          ap Some (λ i. (number i, same i))
      by false t k = absurd cc

  pub held_own : (n : SigNumber) (value : T) → held_for n (Some (n, value)) ≡ Some value
  held_own n value = ap (λ b. cond b (Some value) None) (itself n)

  pub held_other : (n q : SigNumber) (value : T) → is_number n q ≡ false → held_for q (Some (n, value)) ≡ None
  held_other n q value other = ap (λ b. cond b (Some value) None) (turned q n ∙ other)

  pub past_end : (slots : List (Slot T)) (n : SigNumber) (i : ℕ) → length slots ≤ i →
      held_for n (slice_index_or slots i None) ≡ None
  past_end slots n i past = ap (held_for n) (get_or_past slots i None past)

  none_of : (o : Option T) → is_some o ≡ false → o ≡ None
  none_of None h = refl
  none_of (Some value) h = absurd cc

  -- ---- several slots

  -- Nothing is found in slots that have nothing for the number.
  pub found_nothing : (slots : List (Slot T)) (n : SigNumber) (at count : ℕ) → HasNoneIn n at (at + count) slots →
      found_from slots n at count ≡ None
  found_nothing slots n at zero none = refl
  found_nothing slots n at (suc count) none =
      ap (λ o. option_or o (found_from slots n (at + 1) count)) (none at (omega arith) (omega arith))
      ∙ found_nothing slots n (at + 1) count (λ i from to. none i (omega (arith, from)) (omega (arith, to)))

  -- The same is found in slots that have the same for the number.
  pub found_like : (old new : List (Slot T)) (n : SigNumber) →
      ((i : ℕ) → held_for n (slice_index_or new i None) ≡ held_for n (slice_index_or old i None)) →
      (at count : ℕ) → found_from new n at count ≡ found_from old n at count
  found_like old new n like at zero = refl
  found_like old new n like at (suc count) = λ i. option_or (like at i) (found_like old new n like (at + 1) count i)

  pub near_like : (old new : List (Slot T)) (n : SigNumber) → length new ≡ length old →
      ((i : ℕ) → held_for n (slice_index_or new i None) ≡ held_for n (slice_index_or old i None)) →
      near_in new n ≡ near_in old n
  near_like old new n as_many like =
      ap (λ k. found_from new n (place_in k n) 8) as_many ∙ found_like old new n like (place_in (length old) n) 8

  -- A slot that has what is found.
  pub slot_found : (slots : List (Slot T)) (n : SigNumber) (value : T) (at count : ℕ) →
      found_from slots n at count ≡ Some value → (i : ℕ) × (slice_index_or slots i None ≡ Some (n, value))
  slot_found slots n value at zero h = absurd cc
  slot_found slots n value at (suc count) h =
      by (held_for n (slice_index_or slots at None)) refl h (slot_found slots n value (at + 1) count)
    where
      by : (o : Option T) → held_for n (slice_index_or slots at None) ≡ o →
          option_or o (found_from slots n (at + 1) count) ≡ Some value →
          (found_from slots n (at + 1) count ≡ Some value → (i : ℕ) × (slice_index_or slots i None ≡ Some (n, value)))
          → (i : ℕ) × (slice_index_or slots i None ≡ Some (n, value))
      by None e k more = more k
      by (Some x) e k more = let is : Some x ≡ Some value = k in let same : x ≡ value = cc in (
        at,
        held_is n (slice_index_or slots at None) value (e ∙ ap Some same),
      )

  -- ---- the first slot that has a number

  some_or : (o rest : Option T) → is_some o ≡ true → option_or o rest ≡ o
  some_or None rest h = absurd cc
  some_or (Some value) rest h = refl

  first_found : (slots : List (Slot T)) (n : SigNumber) (j : ℕ) →
      is_some (held_for n (slice_index_or slots j None)) ≡ true → (at count : ℕ) → at ≤ j → j < at + count →
      HasNoneIn n at j slots → found_from slots n at count ≡ held_for n (slice_index_or slots j None)
  first_found slots n j held at zero from to none = absurd (omega (arith, from, to))
  first_found slots n j held at (suc count) from to none =
      by (cases_lt at j) (first_found slots n j held (at + 1) count)
    where
      by : (at < j) ⊎ (j ≤ at) →
          (at + 1 ≤ j → j < at + 1 + count → HasNoneIn n (at + 1) j slots →
          found_from slots n (at + 1) count ≡ held_for n (slice_index_or slots j None)) →
          option_or (held_for n (slice_index_or slots at None)) (found_from slots n (at + 1) count)
          ≡ held_for n (slice_index_or slots j None)
      by (inl before) more =
          ap (λ o. option_or o (found_from slots n (at + 1) count)) (none at (omega arith) before)
          ∙ more (omega (arith, before)) (omega (arith, to)) (λ i lo hi. none i (omega (arith, lo)) hi)
      by (inr there) more =
          let e : at ≡ j = omega (arith, from, there) in
          ap (λ k. option_or (held_for n (slice_index_or slots k None)) (found_from slots n (at + 1) count)) e
          ∙ some_or (held_for n (slice_index_or slots j None)) (found_from slots n (at + 1) count) held

  -- What a row has for a number is in the first slot that has it.
  pub near_first : (slots : List (Slot T)) (n : SigNumber) (at : ℕ) → IsFirstOf n at slots →
      near_in slots n ≡ held_for n (slice_index_or slots at None)
  near_first slots n at first =
      first_found slots n at first.held (place_in (length slots) n) 8 first.from first.near first.none

  -- ---- a slot that was set

  option_parts : (a b : Option T) → option_or a b ≡ None → (a ≡ None) × (b ≡ None)
  option_parts None b h = (refl, h)
  option_parts (Some x) b h = absurd cc

  module _ (slots : List (Slot T)) (j : ℕ) (slot : Slot T) (within : j < length slots) where
    -- It has for a number what it had before, so the others have too.
    like_before : (n : SigNumber) → held_for n slot ≡ held_for n (slice_index_or slots j None) → (i : ℕ) →
        held_for n (slice_index_or (slice_set slots j slot) i None) ≡ held_for n (slice_index_or slots i None)
    like_before n same i = by (cases_eq i j)
      where
        by : (i ≡ j) ⊎ (i ≡ j → ⊥) →
            held_for n (slice_index_or (slice_set slots j slot) i None) ≡ held_for n (slice_index_or slots i None)
        by (inl e) =
            ap (λ k. held_for n (slice_index_or (slice_set slots j slot) k None)) e
            ∙ ap (held_for n) (get_or-set_same slots j slot None within)
            ∙ same
            ∙ sym (ap (λ k. held_for n (slice_index_or slots k None)) e)
        by (inr away) = ap (held_for n) (get_or-set_other slots j i slot None away)

    -- It was set for a number of which nothing was found.
    found_set : (n : SigNumber) (value : T) → slot ≡ Some (n, value) → (at count : ℕ) → at ≤ j →
        j < at + count → found_from slots n at count ≡ None →
        found_from (slice_set slots j slot) n at count ≡ Some value
    found_set n value is at zero from to none = absurd (omega (arith, from, to))
    found_set n value is at (suc count) from to none =
        by (cases_lt at j) (option_parts (held_for n (slice_index_or slots at None)) (found_from slots n (at + 1) count)
        none) (found_set n value is (at + 1) count)
      where
        by : (at < j) ⊎ (j ≤ at) →
            (held_for n (slice_index_or slots at None) ≡ None) × (found_from slots n (at + 1) count ≡ None) →
            (at + 1 ≤ j → j < at + 1 + count → found_from slots n (at + 1) count ≡ None →
            found_from (slice_set slots j slot) n (at + 1) count ≡ Some value) →
            option_or (held_for n (slice_index_or (slice_set slots j slot) at None))
            (found_from (slice_set slots j slot) n (at + 1) count) ≡ Some value
        by (inl before) parts more =
            ap (λ o. option_or o (found_from (slice_set slots j slot) n (at + 1) count))
            (ap (held_for n) (get_or-set_other slots j at slot None (λ e. omega (arith, before, e))) ∙ parts.0)
            ∙ more (omega (arith, before)) (omega (arith, to)) parts.1
        by (inr there) parts more =
            let e : at ≡ j = omega (arith, from, there) in
            ap (λ o. option_or o (found_from (slice_set slots j slot) n (at + 1) count))
            (ap (λ k. held_for n (slice_index_or (slice_set slots j slot) k None)) e
            ∙ ap (held_for n) (get_or-set_same slots j slot None within ∙ is) ∙ held_own n value)

  -- An empty slot was set.
  pub kept_near : (slots : List (Slot T)) (number : SigNumber) (value : T) (place at count : ℕ) →
      count ≡ length slots → place ≡ place_in count number → place ≤ at → at < place + 8 → at < length slots →
      slice_index_or slots at None ≡ None → near_in slots number ≡ None →
      DiffersAt number (Some value) slots (slice_set slots at (Some (number, value)))
  kept_near slots number value place at count counted there from near within vacant absent q =
      by (is_number number q) refl
    where
      placed : place ≡ place_in (length slots) number
      placed = there ∙ ap (λ k. place_in k number) counted

      own : near_in (slice_set slots at (Some (number, value))) number ≡ Some value
      own =
          ap (λ k. found_from (slice_set slots at (Some (number, value))) number (place_in k number) 8)
          (length-set slots at (Some (number, value)))
          ∙ found_set slots at (Some (number, value)) within number value refl (place_in (length slots) number) 8
          (subst (λ p. p ≤ at) placed from) (subst (λ p. at < p + 8) placed near) absent

      by : (b : Bool) → is_number number q ≡ b →
          near_in (slice_set slots at (Some (number, value))) q ≡ cond b (Some value) (near_in slots q)
      by true t = ap (near_in (slice_set slots at (Some (number, value)))) (sym (same_number number q t)) ∙ own
      by false t =
          near_like slots (slice_set slots at (Some (number, value))) q (length-set slots at (Some (number, value)))
          (like_before slots at (Some (number, value)) within q
          (held_other number q value t ∙ sym (ap (held_for q) vacant)))

  -- The slot had nothing for the number.
  pub not_there : (slots : List (Slot T)) (at : ℕ) (number : SigNumber) →
      is_some (held_for number (slice_index_or slots at None)) ≡ false → HasNoneIn number at (at + 1) slots
  not_there slots at number none i from to =
      let e : i ≡ at = omega (arith, from, to) in
      ap (λ k. held_for number (slice_index_or slots k None)) e
      ∙ none_of (held_for number (slice_index_or slots at None)) none

  pub none_more : (number : SigNumber) (from at : ℕ) (slots : List (Slot T)) → HasNoneIn number from at slots →
      HasNoneIn number at (at + 1) slots → HasNoneIn number from (at + 1) slots
  none_more number from at slots before here i lo hi = by (cases_lt i at)
    where
      by : (i < at) ⊎ (at ≤ i) → held_for number (slice_index_or slots i None) ≡ None
      by (inl lt) = before i lo lt
      by (inr past) = here i past hi

  pub none_yet : (number : SigNumber) (from : ℕ) (slots : List (Slot T)) → HasNoneIn number from from slots
  none_yet number from slots i lo hi = absurd (omega (arith, lo, hi))

  -- None of the slots of a number has it.
  pub none_near : (slots : List (Slot T)) (n : SigNumber) (place end count : ℕ) → count ≡ length slots →
      place ≡ place_in count n → ((i : ℕ) → i < place + 8 → i < count → i < end) → HasNoneIn n place end slots →
      near_in slots n ≡ None
  none_near slots n place end count counted there whole none =
      subst (λ p. found_from slots n p 8 ≡ None) (there ∙ ap (λ k. place_in k n) counted)
      (found_nothing slots n place 8 gone)
    where
      gone : (i : ℕ) → place ≤ i → i < place + 8 → held_for n (slice_index_or slots i None) ≡ None
      gone i lo hi = by (cases_lt i count)
        where
          by : (i < count) ⊎ (count ≤ i) → held_for n (slice_index_or slots i None) ≡ None
          by (inl lt) = none i lo (whole i hi lt)
          by (inr past) = past_end slots n i (subst (λ k. k ≤ i) counted past)

  -- A number that the row doesn't have was removed.
  pub stays_without : (slots : List (Slot T)) (number : SigNumber) → near_in slots number ≡ None →
      DiffersAt number None slots slots
  stays_without slots number none q = by (is_number number q) refl
    where
      by : (b : Bool) → is_number number q ≡ b → near_in slots q ≡ cond b None (near_in slots q)
      by true t = ap (near_in slots) (sym (same_number number q t)) ∙ none
      by false t = refl

  -- There are no slots.
  pub near_nothing : (slots : List (Slot T)) (n : SigNumber) → length slots ≡ 0 → near_in slots n ≡ None
  near_nothing slots n none = found_nothing slots n (place_in (length slots) n) 8 (λ i lo hi. past_end slots n i
      (subst (λ k. k ≤ i) (sym none) (omega arith)))
