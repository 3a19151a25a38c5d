-- The entries of slots: what is found in them, and that a search for the next number gives the first of those that are
-- left. Each number has what `found` says of its value, which may be less than the value.
use Rattle.std.proofs.Common.{◌≡◌, Bool, true, false, cond, [], ◌∷◌, Option, Some, None, is_some, Ordering}
use Rattle.std.proofs.Common.{sym, ap, ◌∙◌, refl}
use Rattle.std.specs.List.{list_any}
use Rattle.std.specs.Map.{lookup}
use Rattle.std.specs.Ordering.{is_eq, is_lt, ordering_reverse}
use Rattle.std.specs.declared.cmp.Ordering.TheVariants.{Less, Equal, Greater}
use Rattle.wot_types.specs.declared.number.SigNumber.{SigNumber}
use Rattle.wot_types.specs.SigNumber.{number_cmp}
use Rattle.wot_slots.specs.declared.slots.Slots.{Slots}
use Rattle.wot_slots.specs.Above.{AreNumbers, IsNextEntry, IsNumber, above_only, entries_above, entries_by, is_above}
use Rattle.wot_slots.specs.Above.{is_below, numbers_in}
use Rattle.wot_slots.specs.Near.{held_of, is_number}
use Rattle.wot_slots.proofs.Listed.{AreSorted, all_listed, found_listed, keys_listed, same_entries, sorted_listed}
use Rattle.wot_slots.proofs.Listed.{sorted_none, sorted_on}
use Rattle.wot_slots.proofs.Numbers.{numbers_total, same_number}
use Rattle.wot_slots.proofs.Rises.{less_is, less_on}

module _ {T U : Type 0} (slots : Slots T) (found : SigNumber → Option U)
    (less : (q : SigNumber) → held_of slots q ≡ None → found q ≡ None) where
  pub found_by : (last : Option SigNumber) (q : SigNumber) →
      lookup (is_number q) (entries_by found last slots) ≡ above_only last found q
  found_by last q =
      found_listed (above_only last found) (numbers_in slots.near.items slots.rest.entries) q
      ∙ by (held_of slots q) refl (is_above last q)
    where
      by : (o : Option T) → held_of slots q ≡ o → (b : Bool) →
          cond (list_any (is_number q) (numbers_in slots.near.items slots.rest.entries))
          (cond b (found q) None) None ≡ cond b (found q) None
      by o e false = neither (list_any (is_number q) (numbers_in slots.near.items slots.rest.entries))
        where
          neither : (d : Bool) → ◌≡◌ {A = Option U} (cond d None None) None
          neither true = refl
          neither false = refl
      by None e true = nothing (list_any (is_number q) (numbers_in slots.near.items slots.rest.entries))
        where
          nothing : (d : Bool) → cond d (found q) None ≡ found q
          nothing true = refl
          nothing false = sym (less q e)
      by (Some value) e true =
          ap (λ d. cond d (found q) None) (all_listed slots.near.items slots.rest.entries q value e)

  pub sorted_by : (last : Option SigNumber) → AreSorted (entries_by found last slots)
  sorted_by last = sorted_listed (above_only last found) (numbers_in slots.near.items slots.rest.entries)

  module _ (last : Option SigNumber) (whole : (q : SigNumber) → is_some (found q) ≡ true → IsNumber q) where
    -- A number for which nothing is found if it has 32 octets has nothing.
    nothing : (q : SigNumber) → (IsNumber q → found q ≡ None) → found q ≡ None
    nothing q none = by (found q) refl
      where
        by : (o : Option U) → found q ≡ o → found q ≡ None
        by None e = e
        by (Some value) e = none (whole q (ap is_some e))

    -- Nothing is left.
    pub none_left : IsNextEntry found last None → entries_by found last slots ≡ []
    none_left next =
        same_entries (entries_by found last slots) [] (sorted_by last) sorted_none
        (λ q. found_by last q ∙ by q (is_above last q) refl)
      where
        by : (q : SigNumber) (b : Bool) → is_above last q ≡ b → cond b (found q) None ≡ None
        by q true high = nothing q (λ number. next.least q number high refl)
        by q false high = refl

    module _ (n : SigNumber) (value : U) (next : IsNextEntry found last (Some (n, value))) where
      above_both : (o : Option SigNumber) → is_above o n ≡ true → (q : SigNumber) → number_cmp n q ≡ Less →
          is_above o q ≡ true
      above_both None h q less = refl
      above_both (Some l) h q less = less_on l n q h (ap is_lt less)

      each_above : (q : SigNumber) (x : U) → above_only (Some n) found q ≡ Some x → number_cmp n q ≡ Less
      each_above q x = by (is_lt (number_cmp n q)) refl
        where
          by : (b : Bool) → is_lt (number_cmp n q) ≡ b → cond b (found q) None ≡ Some x → number_cmp n q ≡ Less
          by true less h = less_is (number_cmp n q) less
          by false less h = absurd cc

      each_found : (q : SigNumber) → above_only last found q
          ≡ cond (is_number q n) (Some value) (lookup (is_number q) (entries_by found (Some n) slots))
      each_found q =
          by (number_cmp n q) refl
          ∙ ap (λ o. cond (is_number q n) (Some value) o) (sym (found_by (Some n) q))
        where
          turn : (o : Ordering) → number_cmp n q ≡ o → is_number q n ≡ is_eq (ordering_reverse o)
          turn o e = ap is_eq (numbers_total.antisymm q n ∙ ap ordering_reverse e)

          low : (b : Bool) → is_above last q ≡ b → is_below (Some n) q ≡ true → cond b (found q) None ≡ None
          low true high below = nothing q (λ number. next.least q number high below)
          low false high below = refl

          by : (o : Ordering) → number_cmp n q ≡ o → above_only last found q
              ≡ cond (is_number q n) (Some value) (above_only (Some n) found q)
          by Less e =
              ap (λ b. cond b (found q) None) (above_both last next.above q e)
              ∙ sym ((λ i. cond (turn Less e i) (Some value) (cond (is_lt (e i)) (found q) None)))
          by Equal e =
              let same = same_number n q (ap is_eq e) in
              (λ i. above_only last found (sym same i))
              ∙ ap (λ b. cond b (found n) None) next.above ∙ next.held
              ∙ sym (ap (λ b. cond b (Some value) (above_only (Some n) found q)) (turn Equal e))
          by Greater e =
              low (is_above last q) refl (ap is_lt (numbers_total.antisymm q n ∙ ap ordering_reverse e))
              ∙ sym ((λ i. cond (turn Greater e i) (Some value) (cond (is_lt (e i)) (found q) None)))

      -- The entry is the first that is left.
      pub first_left : entries_by found last slots ≡ (n, value) ∷ entries_by found (Some n) slots
      first_left =
          same_entries (entries_by found last slots) ((n, value) ∷ entries_by found (Some n) slots)
          (sorted_by last)
          (sorted_on (n, value) (entries_by found (Some n) slots)
          (keys_listed (λ q. number_cmp n q ≡ Less) (above_only (Some n) found) each_above
          (numbers_in slots.near.items slots.rest.entries)) (sorted_by (Some n)))
          (λ q. found_by last q ∙ each_found q)

-- The values themselves, one after another.
pub first_above : {T : Type 0} (slots : Slots T) (last : Option SigNumber) → AreNumbers slots → (n : SigNumber)
    (value : T) → IsNextEntry (held_of slots) last (Some (n, value)) →
    entries_above last slots ≡ (n, value) ∷ entries_above (Some n) slots
first_above slots last whole n value next = first_left slots (held_of slots) (λ q none. none) last whole n value next
