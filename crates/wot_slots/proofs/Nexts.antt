-- The next number: what a search in the row finds, slot by slot, and what row and tree find together.
use Rattle.std.proofs.Common.{◌≡◌, ◌<◌, ◌≤◌, ◌+◌, ◌⊎◌, inl, inr, ℕ, suc, zero, Bool, true, false, cond, List, ◌∷◌}
use Rattle.std.proofs.Common.{length, Option, Some, None, is_some, sym, ap, ◌∙◌, subst, refl, arith}
use Rattle.std.specs.BTreeMap.{BTreeMap}
use Rattle.std.specs.BTreeMap.Range.{IsEntryInRange, IsFromStart, IsLeBy, IsRangeOf}
use Rattle.std.specs.List.{slice_get, slice_index_or}
use Rattle.std.specs.Map.{lookup}
use Rattle.std.specs.Option.{IfSome, option_or}
use Rattle.std.specs.Ordering.{is_gt, is_lt, ordering_reverse}
use Rattle.std.specs.declared.ops.Bound.TheVariants.{Unbounded}
use Rattle.std.proofs.lemmas.Bool.{cases_lt}
use Rattle.wot_types.specs.declared.number.SigNumber.{SigNumber}
use Rattle.wot_types.specs.SigNumber.{number_cmp}
use Rattle.wot_slots.specs.Above.{IsBetter, IsCandidate, IsNext, IsNextEntry, IsNumber, IsRead}
use Rattle.wot_slots.specs.Above.{bound_above, is_above, is_below}
use Rattle.wot_slots.specs.Near.{Rest, found_from, held_for, holder_in, is_number, near_in, place_in}
use Rattle.wot_slots.specs.Row.{Slot}
use Rattle.wot_slots.proofs.Numbers.{numbers_total, same_number}
use Rattle.wot_slots.proofs.Rises.{less_apart, less_is, less_on, places_rise}
use Rattle.wot_slots.proofs.Rows.{found_nothing, past_end}

true_false : true ≡ false → ⊥
true_false h = cc

-- What is below a number is below one that the number is below.
pub lower_on : (best : Option SigNumber) (n q : SigNumber) → is_below best n ≡ true → is_below (Some n) q ≡ true →
    is_below best q ≡ true
lower_on None n q below h = refl
lower_on (Some b) n q below h = less_on q n b h below

module _ {T : Type 0} where
  -- ---- one slot

  -- A slot that has the number is found.
  found_there : (slots : List (Slot T)) (n : SigNumber) (i at count : ℕ) → at ≤ i → i < at + count →
      is_some (held_for n (slice_index_or slots i None)) ≡ true → is_some (found_from slots n at count) ≡ true
  found_there slots n i at zero from to there = absurd (omega (arith, from, to))
  found_there slots n i at (suc count) from to there =
      by (cases_lt at i) (found_there slots n i (at + 1) count)
    where
      either : (o p : Option T) → is_some p ≡ true → is_some (option_or o p) ≡ true
      either None p h = h
      either (Some x) p h = refl

      first : (o p : Option T) → is_some o ≡ true → is_some (option_or o p) ≡ true
      first None p h = absurd cc
      first (Some x) p h = refl

      by : (at < i) ⊎ (i ≤ at) →
          (at + 1 ≤ i → i < at + 1 + count → is_some (held_for n (slice_index_or slots i None)) ≡ true →
          is_some (found_from slots n (at + 1) count) ≡ true) →
          is_some (option_or (held_for n (slice_index_or slots at None)) (found_from slots n (at + 1) count)) ≡ true
      by (inl before) more =
          either (held_for n (slice_index_or slots at None)) (found_from slots n (at + 1) count)
          (more (omega (arith, before)) (omega (arith, to)) there)
      by (inr here) more =
          let e : i ≡ at = omega (arith, from, here) in
          first (held_for n (slice_index_or slots at None)) (found_from slots n (at + 1) count)
          (subst (λ k. is_some (held_for n (slice_index_or slots k None)) ≡ true) e there)

  module _ (slots : List (Slot T)) (at : ℕ) (last best : Option SigNumber) where
    -- The slot is empty.
    pub better_empty : slice_index_or slots at None ≡ None → IsBetter at slots last best best
    better_empty empty = record {
      one = inl refl;
      lower = λ q h. h;
      none = λ q read above below. ap (held_for q) empty;
    }

    module _ (count : ℕ) (counted : count ≡ length slots) (n : SigNumber) (value : T)
        (is : slice_index_or slots at None ≡ Some (n, value)) where
      -- It has nothing for another number.
      others : (q : SigNumber) → is_number q n ≡ false → held_for q (slice_index_or slots at None) ≡ None
      others q apart = ap (held_for q) is ∙ ap (λ b. cond b (Some value) None) apart

      -- Its number isn't better.
      pub better_same : (IsRead count n at → is_above last n ≡ true → is_below best n ≡ false) →
          IsBetter at slots last best best
      better_same worse = record {
        one = inl refl;
        lower = λ q h. h;
        none = λ q read above below. by q read above below (is_number q n) refl;
      }
        where
          by : (q : SigNumber) → IsRead (length slots) q at → is_above last q ≡ true → is_below best q ≡ true →
              (b : Bool) → is_number q n ≡ b → held_for q (slice_index_or slots at None) ≡ None
          by q read above below false t = others q t
          by q read above below true t =
              let same = same_number q n t in
              absurd (true_false (sym below ∙ ap (is_below best) same
              ∙ worse (subst (λ (x : SigNumber). IsRead count x at) same
              (subst (λ k. IsRead k q at) (sym counted) read)) (ap (is_above last) (sym same) ∙ above)))

      -- Its number is better.
      pub better_here : IsNumber n → IsRead count n at → is_above last n ≡ true → is_below best n ≡ true →
          is_number n n ≡ true → IsBetter at slots last best (Some n)
      better_here number read above below own = record {
        one = inr (record {
          number = number;
          above = above;
          there = found_there slots n at (place_in (length slots) n) 8 (subst (λ k. place_in k n ≤ at) counted read.0)
              (subst (λ k. at < place_in k n + 8) counted read.1)
              (ap (λ s. is_some (held_for n s)) is ∙ ap (λ b. is_some (cond b (Some value) None)) own);
        });
        lower = λ q h. lower_on best n q below h;
        none = λ q near high low. others q (less_apart q n low);
      }

  -- ---- the whole row

  -- No slot before this place has a number above the last one and below the best one.
  abbrev pub NoneBefore : List (Slot T) → Option SigNumber → Option SigNumber → ℕ → Type 0
  NoneBefore slots last best at =
      (q : SigNumber) (i : ℕ) → IsNumber q → i < at → IsRead (length slots) q i → is_above last q ≡ true
      → is_below best q ≡ true → held_for q (slice_index_or slots i None) ≡ None

  -- No number below the best one is in a slot from this place on.
  abbrev pub EndsAt : List (Slot T) → Option SigNumber → ℕ → Type 0
  EndsAt slots best end =
      (i : ℕ) → i < length slots → IfSome best (λ b. i < place_in (length slots) b + 8) → i < end

  pub none_at_first : (slots : List (Slot T)) (last best : Option SigNumber) (at count : ℕ) → count ≡ length slots →
      ((q : SigNumber) → IsNumber q → is_above last q ≡ true → at ≤ place_in count q) → NoneBefore slots last best at
  none_at_first slots last best at count counted start q i number before read above below =
      let place = subst (λ k. at ≤ place_in k q) counted (start q number above) in
      let from = read.0 in
      absurd (omega (arith, before, from, place))

  pub none_on : (slots : List (Slot T)) (last best next : Option SigNumber) (at : ℕ) →
      NoneBefore slots last best at → IsBetter at slots last best next → NoneBefore slots last next (at + 1)
  none_on slots last best next at none better q i number before read above below = by (cases_lt i at)
    where
      by : (i < at) ⊎ (at ≤ i) → held_for q (slice_index_or slots i None) ≡ None
      by (inl lt) = none q i number lt read above (better.lower q below)
      by (inr past) =
          let e : at ≡ i = omega (arith, before, past) in
          subst (λ k. held_for q (slice_index_or slots k None) ≡ None) e
          (better.none q (subst (λ k. IsRead (length slots) q k) (sym e) read) above below)

  pub ends_at : (slots : List (Slot T)) (best : Option SigNumber) (end count : ℕ) → count ≡ length slots →
      ((i : ℕ) → i < count → IfSome best (λ b. i < place_in count b + 8) → i < end) → EndsAt slots best end
  ends_at slots best end count counted h =
      subst (λ k. (i : ℕ) → i < k → IfSome best (λ b. i < place_in k b + 8) → i < end) counted h

  -- ---- the tree

  -- The first number in the part of the tree that is above the last one.
  pub next_in_rest : (m : BTreeMap SigNumber T) (last : Option SigNumber) (entries others : Rest T) (n : SigNumber)
      (value : T) → entries ≡ (n, value) ∷ others →
      IsRangeOf number_cmp (bound_above last) Unbounded m entries →
      IsNext (λ q. lookup (is_number q) m.entries) last (Some n)
  next_in_rest m last entries others n value is range = record {
    above = above last first.0.0;
    there = ap is_some first.1;
    least = λ q number high low. by q low (from last q high) (lookup (is_number q) m.entries) refl;
  }
    where
      first : IsEntryInRange number_cmp (bound_above last) Unbounded m (n, value)
      first = subst (λ (es : Rest T). IfSome (slice_get es 0)
          (IsEntryInRange number_cmp (bound_above last) Unbounded m)) is range.1

      above : (o : Option SigNumber) → IsFromStart number_cmp (bound_above o) n → is_above o n ≡ true
      above None h = refl
      above (Some l) h = ap is_lt h

      from : (o : Option SigNumber) (q : SigNumber) → is_above o q ≡ true → IsFromStart number_cmp (bound_above o) q
      from None q h = tt
      from (Some l) q h = less_is (number_cmp l q) h

      by : (q : SigNumber) → is_below (Some n) q ≡ true → IsFromStart number_cmp (bound_above last) q →
          (o : Option T) → lookup (is_number q) m.entries ≡ o → lookup (is_number q) m.entries ≡ None
      by q low high None e = e
      by q low high (Some x) e =
          let least = subst (λ (es : Rest T). IfSome (slice_get es 0) (λ f. IsLeBy number_cmp f.0 q)) is
          (range.2 q (high, tt) (ap is_some e)) in
          absurd (true_false (sym (ap is_gt (numbers_total.antisymm n q
          ∙ ap ordering_reverse (less_is (number_cmp q n) low))) ∙ least))

  -- ---- the row and the tree

  some_or : (o p : Option T) → (is_some o ≡ true) ⊎ (is_some p ≡ true) → is_some (option_or o p) ≡ true
  some_or None p (inl h) = absurd cc
  some_or None p (inr h) = h
  some_or (Some x) p h = refl

  module _ (slots : List (Slot T)) (rest : Rest T) (last far : Option SigNumber)
      (tree : IsNext (λ n. lookup (is_number n) rest) last far) where
    -- There are no slots.
    pub next_far_alone : ((q : SigNumber) → near_in slots q ≡ None) → IsNext (holder_in slots rest) last far
    next_far_alone none = record {
      above = tree.above;
      there = by far tree.there;
      least = λ q number high low i. option_or (none q i) (tree.least q number high low i);
    }
      where
        by : (o : Option SigNumber) → IfSome o (λ n. is_some (lookup (is_number n) rest) ≡ true) →
            IfSome o (λ n. is_some (holder_in slots rest n) ≡ true)
        by None h = tt
        by (Some n) h = some_or (near_in slots n) (lookup (is_number n) rest) (inr h)

    -- What the tree has is the first candidate.
    pub first_candidate : IfSome far IsNumber → IfSome far (IsCandidate (holder_in slots rest) last)
    first_candidate whole = by far whole tree.above tree.there
      where
        by : (o : Option SigNumber) → IfSome o IsNumber → IfSome o (λ n. is_above last n ≡ true) →
            IfSome o (λ n. is_some (lookup (is_number n) rest) ≡ true) →
            IfSome o (IsCandidate (holder_in slots rest) last)
        by None whole above there = tt
        by (Some n) whole above there = record {
          number = whole;
          above = above;
          there = some_or (near_in slots n) (lookup (is_number n) rest) (inr there);
        }

    pub candidate_on : (at : ℕ) (best next : Option SigNumber) →
        IfSome best (IsCandidate (holder_in slots rest) last) → IsBetter at slots last best next →
        IfSome next (IsCandidate (holder_in slots rest) last)
    candidate_on at best next candidate better = by better.one
      where
        near : (o : Option SigNumber) → IfSome o (IsCandidate (near_in slots) last) →
            IfSome o (IsCandidate (holder_in slots rest) last)
        near None c = tt
        near (Some n) c = record {
          number = c.number;
          above = c.above;
          there = some_or (near_in slots n) (lookup (is_number n) rest) (inl c.there);
        }

        by : (next ≡ best) ⊎ IfSome next (IsCandidate (near_in slots) last) →
            IfSome next (IsCandidate (holder_in slots rest) last)
        by (inl e) = subst (λ o. IfSome o (IsCandidate (holder_in slots rest) last)) (sym e) candidate
        by (inr c) = near next c

    -- The search is at its end.
    pub next_found : (best : Option SigNumber) (at end : ℕ) → end ≤ at →
        IfSome best (IsCandidate (holder_in slots rest) last) → EndsAt slots best end →
        ((q : SigNumber) → is_below best q ≡ true → is_below far q ≡ true) → NoneBefore slots last best at →
        IsNext (holder_in slots rest) last best
    next_found best at end past candidate ends lower none = record {
      above = above best candidate;
      there = there best candidate;
      least = λ q number high low i. option_or
          (found_nothing slots q (place_in (length slots) q) 8 (λ k from to. gone q number high low k from to) i)
          (tree.least q number high (lower q low) i);
    }
      where
        above : (o : Option SigNumber) → IfSome o (IsCandidate (holder_in slots rest) last) →
            IfSome o (λ n. is_above last n ≡ true)
        above None c = tt
        above (Some n) c = c.above

        there : (o : Option SigNumber) → IfSome o (IsCandidate (holder_in slots rest) last) →
            IfSome o (λ n. is_some (holder_in slots rest n) ≡ true)
        there None c = tt
        there (Some n) c = c.there

        within : (o : Option SigNumber) (q : SigNumber) (i : ℕ) → IsNumber q →
            IfSome o (IsCandidate (holder_in slots rest) last) → is_below o q ≡ true →
            i < place_in (length slots) q + 8 → IfSome o (λ b. i < place_in (length slots) b + 8)
        within None q i number c below to = tt
        within (Some b) q i number c below to =
            let rise = places_rise (length slots) q b number c.number below in omega (arith, rise, to)

        gone : (q : SigNumber) → IsNumber q → is_above last q ≡ true → is_below best q ≡ true → (i : ℕ) →
            place_in (length slots) q ≤ i → i < place_in (length slots) q + 8 →
            held_for q (slice_index_or slots i None) ≡ None
        gone q number high low i from to = by (cases_lt i (length slots)) (cases_lt i at)
          where
            by : (i < length slots) ⊎ (length slots ≤ i) → (i < at) ⊎ (at ≤ i) →
                held_for q (slice_index_or slots i None) ≡ None
            by (inr out) read = past_end slots q i out
            by (inl lt) (inl before) = none q i number before (from, to) high low
            by (inl lt) (inr after) =
                let before = ends i lt (within best q i number candidate low to) in
                absurd (omega (arith, before, after, past))

-- ---- the entry of the next number

module _ {T : Type 0} (found : SigNumber → Option T) (last next : Option SigNumber) (is : IsNext found last next) where
  pub entry_none : next ≡ None → IsNextEntry found last None
  entry_none none = record {
    above = tt;
    held = tt;
    least = λ q number high low. is.least q number high (ap (λ o. is_below o q) none ∙ low);
  }

  pub entry_found : (n : SigNumber) (value : T) → next ≡ Some n → found n ≡ Some value →
      IsNextEntry found last (Some (n, value))
  entry_found n value one held = record {
    above = subst (λ o. IfSome o (λ n. is_above last n ≡ true)) one is.above;
    held = held;
    least = λ q number high low. is.least q number high (ap (λ o. is_below o q) one ∙ low);
  }

  pub entry_lost : {P : Type 0} (n : SigNumber) → next ≡ Some n → found n ≡ None → P
  entry_lost n one none =
      absurd (nothing (ap is_some (sym none) ∙ subst (λ o. IfSome o (λ n. is_some (found n) ≡ true)) one is.there))
    where
      nothing : is_some {T = T} None ≡ true → ⊥
      nothing h = cc
