-- Slots as a list of entries in the order of their numbers: what is found in it, and that nothing else makes two lists
-- differ.
use Rattle.std.proofs.Common.{◌≡◌, ◌+◌, ℕ, suc, zero, Bool, true, false, ◌||◌, cond, List, [], ◌∷◌, length, Option}
use Rattle.std.proofs.Common.{Some, None, is_some, Ordering, sym, ap, ◌∙◌, subst, refl, arith}
use Rattle.std.specs.BTreeMap.{insert_entry}
use Rattle.std.specs.List.{AllByRecursion, list_any, slice_index_or}
use Rattle.std.specs.List.Sorted.{IsStrictlySortedBy}
use Rattle.std.specs.Map.{keys_of, lookup, remove_entry}
use Rattle.std.specs.Option.{option_or, unwrap_or}
use Rattle.std.specs.Ordering.{is_eq, match_ordering, ordering_reverse}
use Rattle.std.specs.declared.cmp.Ordering.TheVariants.{Less, Equal, Greater}
use Rattle.std.proofs.lemmas.Cmp.{eq_by_cmp_equiv}
use Rattle.std.proofs.lemmas.Map.{lookup-none, lookup-remove_entry}
use Rattle.std.proofs.lemmas.Map.Entries.{none_below_head}
use Rattle.std.proofs.lemmas.Map.Keys.{IsDistinct-from_sorted, sorted_head, sorted_tail}
use Rattle.wot_types.specs.declared.number.SigNumber.{SigNumber}
use Rattle.wot_types.specs.SigNumber.{number_cmp}
use Rattle.wot_slots.specs.Above.{listed, numbers_in, with_value}
use Rattle.wot_slots.specs.Near.{Rest, holder_in, is_number, near_in, place_in}
use Rattle.wot_slots.specs.Row.{Slot}
use Rattle.wot_slots.proofs.Numbers.{numbers_total, same_number, itself, turned}
use Rattle.wot_slots.proofs.Rows.{slot_found}

true_false : true ≡ false → ⊥
true_false h = cc

-- Each number that comes after the first one is another.
pub later_apart : (n q : SigNumber) → number_cmp n q ≡ Less → is_number q n ≡ false
later_apart n q less = ap is_eq (numbers_total.antisymm q n ∙ ap ordering_reverse less)

-- Whether two numbers are the same, by their order.
own_order : (n k : SigNumber) (o : Ordering) → number_cmp n k ≡ o → is_number n k ≡ is_eq o
own_order n k o e = ap is_eq e

pub sorted_none : IsStrictlySortedBy number_cmp []
unfolding IsStrictlySortedBy
sorted_none = tt

or_right : (a b : Bool) → b ≡ true → (a || b) ≡ true
or_right true b h = refl
or_right false b h = h

module _ {T : Type 0} where
  abbrev pub AreSorted : Rest T → Type 0
  AreSorted es = IsStrictlySortedBy number_cmp (keys_of es)

  pub sorted_on : (e : SigNumber × T) (es : Rest T) → AllByRecursion (λ q. number_cmp e.0 q ≡ Less) (keys_of es) →
      AreSorted es → AreSorted (e ∷ es)
  unfolding IsStrictlySortedBy
  sorted_on e es above sorted = (above, sorted)

  -- ---- an entry put in

  keys_put : (P : SigNumber → Type 0) (es : Rest T) (n : SigNumber) (value : T) → AllByRecursion P (keys_of es) →
      P n → AllByRecursion P (keys_of (insert_entry number_cmp es n value))
  keys_put P [] n value all own = (own, tt)
  keys_put P (e ∷ es) n value all own = by (number_cmp n e.0) (keys_put P es n value all.1 own)
    where
      by : (o : Ordering) → AllByRecursion P (keys_of (insert_entry number_cmp es n value)) →
          AllByRecursion P (keys_of (match_ordering o ((n, value) ∷ e ∷ es) ((e.0, value) ∷ es)
          (e ∷ insert_entry number_cmp es n value)))
      by Less more = (own, all)
      by Equal more = all
      by Greater more = (all.0, more)

  below_all : (n : SigNumber) (e : SigNumber × T) (es : Rest T) → AreSorted (e ∷ es) → number_cmp n e.0 ≡ Less →
      AllByRecursion (λ q. number_cmp n q ≡ Less) (keys_of (e ∷ es))
  below_all n e es sorted less = (less, on es (sorted_head number_cmp e.0 (keys_of es) sorted))
    where
      on : (fs : Rest T) → AllByRecursion (λ q. number_cmp e.0 q ≡ Less) (keys_of fs) →
          AllByRecursion (λ q. number_cmp n q ≡ Less) (keys_of fs)
      on [] all = tt
      on (f ∷ fs) all = (numbers_total.trans n e.0 f.0 less all.0, on fs all.1)

  pub sorted_put : (es : Rest T) (n : SigNumber) (value : T) → AreSorted es →
      AreSorted (insert_entry number_cmp es n value)
  sorted_put [] n value sorted = sorted_on (n, value) [] tt sorted_none
  sorted_put (e ∷ es) n value sorted =
      by (number_cmp n e.0) refl (sorted_put es n value (sorted_tail number_cmp e.0 (keys_of es) sorted))
    where
      by : (o : Ordering) → number_cmp n e.0 ≡ o → AreSorted (insert_entry number_cmp es n value) →
          AreSorted (match_ordering o ((n, value) ∷ e ∷ es) ((e.0, value) ∷ es)
          (e ∷ insert_entry number_cmp es n value))
      by Less o more = sorted_on (n, value) (e ∷ es) (below_all n e es sorted o) sorted
      by Equal o more = sorted
      by Greater o more =
          sorted_on e (insert_entry number_cmp es n value)
          (keys_put (λ q. number_cmp e.0 q ≡ Less) es n value (sorted_head number_cmp e.0 (keys_of es) sorted)
          (numbers_total.antisymm e.0 n ∙ ap ordering_reverse o)) more

  pub found_put : (es : Rest T) (n q : SigNumber) (value : T) →
      lookup (is_number q) (insert_entry number_cmp es n value)
      ≡ cond (is_number n q) (Some value) (lookup (is_number q) es)
  found_put [] n q value = ap (λ b. cond b (Some value) None) (turned q n)
  found_put (e ∷ es) n q value = by (number_cmp n e.0) refl (found_put es n q value)
    where
      by : (o : Ordering) → number_cmp n e.0 ≡ o →
          lookup (is_number q) (insert_entry number_cmp es n value)
          ≡ cond (is_number n q) (Some value) (lookup (is_number q) es) →
          lookup (is_number q) (match_ordering o ((n, value) ∷ e ∷ es) ((e.0, value) ∷ es)
          (e ∷ insert_entry number_cmp es n value))
          ≡ cond (is_number n q) (Some value) (lookup (is_number q) (e ∷ es))
      by Less o more = ap (λ b. cond b (Some value) (lookup (is_number q) (e ∷ es))) (turned q n)
      by Equal o more =
          let same = same_number n e.0 (ap is_eq o) in
          ap (λ b. cond b (Some value) (lookup (is_number q) es)) (turned q e.0 ∙ ap (λ k. is_number k q) (sym same))
          ∙ either (is_number n q) (is_number q e.0)
          (turned q e.0 ∙ ap (λ k. is_number k q) (sym same))
        where
          either : (b d : Bool) → d ≡ b → cond b (Some value) (lookup (is_number q) es)
              ≡ cond b (Some value) (cond d (Some e.1) (lookup (is_number q) es))
          either true d h = refl
          either false true h = absurd (true_false h)
          either false false h = refl
      by Greater o more =
          ap (λ w. cond (is_number q e.0) (Some e.1) w) more ∙ either (is_number q e.0) refl (is_number n q) refl
        where
          either : (b : Bool) → is_number q e.0 ≡ b → (d : Bool) → is_number n q ≡ d →
              cond b (Some e.1) (cond d (Some value) (lookup (is_number q) es))
              ≡ cond d (Some value) (cond b (Some e.1) (lookup (is_number q) es))
          either true x true y =
              let same : is_number n e.0 ≡ true = subst (λ (k : SigNumber). is_number n k ≡ true)
              (same_number q e.0 x) y in
              absurd (true_false (sym same ∙ own_order n e.0 Greater o))
          either true x false y = refl
          either false x true y = refl
          either false x false y = refl

  pub counted_put : (es : Rest T) (n : SigNumber) (value : T) → AreSorted es →
      length (insert_entry number_cmp es n value)
      ≡ cond (is_some (lookup (is_number n) es)) (length es) (length es + 1)
  counted_put [] n value sorted = refl
  counted_put (e ∷ es) n value sorted =
      by (number_cmp n e.0) refl (counted_put es n value (sorted_tail number_cmp e.0 (keys_of es) sorted))
    where
      one_longer : (k : ℕ) → suc k ≡ k + 1
      one_longer k = omega arith

      one_more : (b : Bool) (m k : ℕ) → m ≡ cond b k (k + 1) → suc m ≡ cond b (suc k) (suc k + 1)
      one_more true m k h = omega (arith, h)
      one_more false m k h = omega (arith, h)

      by : (o : Ordering) → number_cmp n e.0 ≡ o →
          length (insert_entry number_cmp es n value)
          ≡ cond (is_some (lookup (is_number n) es)) (length es) (length es + 1) →
          length (match_ordering o ((n, value) ∷ e ∷ es) ((e.0, value) ∷ es) (e ∷ insert_entry number_cmp es n value))
          ≡ cond (is_some (cond (is_number n e.0) (Some e.1) (lookup (is_number n) es))) (length (e ∷ es))
          (length (e ∷ es) + 1)
      by Less o more =
          one_longer (length (e ∷ es))
          ∙ ap (λ w. cond (is_some w) (length (e ∷ es)) (length (e ∷ es) + 1))
          (sym (lookup-none (is_number n) (e ∷ es) (none_below_head numbers_total n e es sorted o)))
      by Equal o more =
          ap (λ b. cond (is_some (cond b (Some e.1) (lookup (is_number n) es))) (length (e ∷ es))
          (length (e ∷ es) + 1)) (sym (own_order n e.0 Equal o))
      by Greater o more =
          one_more (is_some (lookup (is_number n) es)) (length (insert_entry number_cmp es n value)) (length es) more
          ∙ ap (λ b. cond (is_some (cond b (Some e.1) (lookup (is_number n) es))) (length (e ∷ es))
          (length (e ∷ es) + 1)) (sym (own_order n e.0 Greater o))

  -- ---- an entry taken out

  keys_out : (P : SigNumber → Type 0) (es : Rest T) (n : SigNumber) → AllByRecursion P (keys_of es) →
      AllByRecursion P (keys_of (remove_entry (is_number n) es))
  keys_out P [] n all = tt
  keys_out P (e ∷ es) n all = by (is_number n e.0) (keys_out P es n all.1)
    where
      by : (b : Bool) → AllByRecursion P (keys_of (remove_entry (is_number n) es)) →
          AllByRecursion P (keys_of (cond b es (e ∷ remove_entry (is_number n) es)))
      by true more = all.1
      by false more = (all.0, more)

  pub sorted_out : (es : Rest T) (n : SigNumber) → AreSorted es → AreSorted (remove_entry (is_number n) es)
  sorted_out [] n sorted = sorted_none
  sorted_out (e ∷ es) n sorted = by (is_number n e.0) (sorted_out es n (sorted_tail number_cmp e.0 (keys_of es) sorted))
    where
      by : (b : Bool) → AreSorted (remove_entry (is_number n) es) →
          AreSorted (cond b es (e ∷ remove_entry (is_number n) es))
      by true more = sorted_tail number_cmp e.0 (keys_of es) sorted
      by false more =
          sorted_on e (remove_entry (is_number n) es)
          (keys_out (λ q. number_cmp e.0 q ≡ Less) es n (sorted_head number_cmp e.0 (keys_of es) sorted)) more

  pub found_out : (es : Rest T) (n q : SigNumber) → AreSorted es →
      lookup (is_number q) (remove_entry (is_number n) es) ≡ cond (is_number n q) None (lookup (is_number q) es)
  found_out es n q sorted =
      lookup-remove_entry (eq_by_cmp_equiv numbers_total) (is_number n)
      (λ x y h. ap (λ k. is_number k y) (same_number n x h)) q es
      (IsDistinct-from_sorted number_cmp (keys_of es) sorted)

  pub counted_out : (es : Rest T) (n : SigNumber) →
      length (remove_entry (is_number n) es) + cond (is_some (lookup (is_number n) es)) 1 0 ≡ length es
  counted_out [] n = refl
  counted_out (e ∷ es) n = by (is_number n e.0) (counted_out es n)
    where
      by : (b : Bool) → length (remove_entry (is_number n) es) + cond (is_some (lookup (is_number n) es)) 1 0
          ≡ length es → length (cond b es (e ∷ remove_entry (is_number n) es))
          + cond (is_some (cond b (Some e.1) (lookup (is_number n) es))) 1 0 ≡ length (e ∷ es)
      by true more = omega arith
      by false more = omega (arith, more)

  -- ---- two lists with the same entries

  none_above : (n : SigNumber) (es : Rest T) → AllByRecursion (λ q. number_cmp n q ≡ Less) (keys_of es) →
      lookup (is_number n) es ≡ None
  none_above n [] all = refl
  none_above n (e ∷ es) all =
      ap (λ b. cond b (Some e.1) (lookup (is_number n) es)) (own_order n e.0 Less all.0) ∙ none_above n es all.1

  none_some : {x : T} → None ≡ Some x → ⊥
  none_some h = cc

  head_found : (e : SigNumber × T) (es : Rest T) → lookup (is_number e.0) (e ∷ es) ≡ Some e.1
  head_found e es = ap (λ b. cond b (Some e.1) (lookup (is_number e.0) es)) (itself e.0)

  -- The list begins with a number that isn't below the other's first one.
  not_before : (e f : SigNumber × T) (es fs : Rest T) → AreSorted (f ∷ fs) →
      ((q : SigNumber) → lookup (is_number q) (e ∷ es) ≡ lookup (is_number q) (f ∷ fs)) → number_cmp e.0 f.0 ≡ Less →
      ⊥
  not_before e f es fs sorted same less =
      none_some (sym (none_above e.0 (f ∷ fs) (below_all e.0 f fs sorted less)) ∙ sym (same e.0) ∙ head_found e es)

  heads_same : (e f : SigNumber × T) (es fs : Rest T) → AreSorted (e ∷ es) → AreSorted (f ∷ fs) →
      ((q : SigNumber) → lookup (is_number q) (e ∷ es) ≡ lookup (is_number q) (f ∷ fs)) → e.0 ≡ f.0
  heads_same e f es fs s t same = by (number_cmp e.0 f.0) refl
    where
      by : (o : Ordering) → number_cmp e.0 f.0 ≡ o → e.0 ≡ f.0
      by Less o = absurd (not_before e f es fs t same o)
      by Equal o = same_number e.0 f.0 (ap is_eq o)
      by Greater o =
          absurd (not_before f e fs es s (λ q. sym (same q))
          (numbers_total.antisymm f.0 e.0 ∙ ap ordering_reverse o))

  -- behind two heads that are the same
  tails_same : (e f : SigNumber × T) (es fs : Rest T) → AreSorted (e ∷ es) → AreSorted (f ∷ fs) → e.0 ≡ f.0 →
      ((q : SigNumber) → lookup (is_number q) (e ∷ es) ≡ lookup (is_number q) (f ∷ fs)) → (q : SigNumber) →
      lookup (is_number q) es ≡ lookup (is_number q) fs
  tails_same e f es fs s t head same q = by (is_number q e.0) refl
    where
      gone : (g : SigNumber × T) (gs : Rest T) → AreSorted (g ∷ gs) → is_number q g.0 ≡ true →
          lookup (is_number q) gs ≡ None
      gone g gs sorted own =
          subst (λ (k : SigNumber). lookup (is_number k) gs ≡ None) (sym (same_number q g.0 own))
          (none_above g.0 gs (sorted_head number_cmp g.0 (keys_of gs) sorted))

      by : (b : Bool) → is_number q e.0 ≡ b → lookup (is_number q) es ≡ lookup (is_number q) fs
      by true own = gone e es s own ∙ sym (gone f fs t (ap (is_number q) (sym head) ∙ own))
      by false other =
          sym (ap (λ b. cond b (Some e.1) (lookup (is_number q) es)) other)
          ∙ same q
          ∙ ap (λ b. cond b (Some f.1) (lookup (is_number q) fs)) (ap (is_number q) (sym head) ∙ other)

  pub same_entries : (es fs : Rest T) → AreSorted es → AreSorted fs →
      ((q : SigNumber) → lookup (is_number q) es ≡ lookup (is_number q) fs) → es ≡ fs
  same_entries [] [] s t same = refl
  same_entries [] (f ∷ fs) s t same = absurd (none_some (same f.0 ∙ head_found f fs))
  same_entries (e ∷ es) [] s t same = absurd (none_some (sym (same e.0) ∙ head_found e es))
  same_entries (e ∷ es) (f ∷ fs) s t same =
      let head = heads_same e f es fs s t same in
      let rest = same_entries es fs (sorted_tail number_cmp e.0 (keys_of es) s)
      (sorted_tail number_cmp f.0 (keys_of fs) t) (tails_same e f es fs s t head same) in
      let value : Some e.1 ≡ Some f.1 =
      sym (head_found e es) ∙ same e.0
      ∙ ap (λ (k : SigNumber). lookup (is_number k) (f ∷ fs)) head ∙ head_found f fs in
      λ i. (head i, unwrap_or (value i) e.1) ∷ rest i

  -- ---- the numbers listed

  pub sorted_listed : (found : SigNumber → Option T) (ns : List SigNumber) → AreSorted (listed found ns)
  sorted_listed found [] = sorted_none
  sorted_listed found (n ∷ ns) = by (found n) (sorted_listed found ns)
    where
      by : (o : Option T) → AreSorted (listed found ns) → AreSorted (with_value (listed found ns) n o)
      by None sorted = sorted
      by (Some value) sorted = sorted_put (listed found ns) n value sorted

  pub keys_listed : (P : SigNumber → Type 0) (found : SigNumber → Option T) →
      ((n : SigNumber) (value : T) → found n ≡ Some value → P n) → (ns : List SigNumber) →
      AllByRecursion P (keys_of (listed found ns))
  keys_listed P found each [] = tt
  keys_listed P found each (n ∷ ns) = by (found n) refl (keys_listed P found each ns)
    where
      by : (o : Option T) → found n ≡ o → AllByRecursion P (keys_of (listed found ns)) →
          AllByRecursion P (keys_of (with_value (listed found ns) n o))
      by None e all = all
      by (Some value) e all = keys_put P (listed found ns) n value all (each n value e)

  pub found_listed : (found : SigNumber → Option T) (ns : List SigNumber) (q : SigNumber) →
      lookup (is_number q) (listed found ns) ≡ cond (list_any (is_number q) ns) (found q) None
  found_listed found [] q = refl
  found_listed found (n ∷ ns) q = by (found n) refl (found_listed found ns q)
    where
      later : (b : Bool) → cond b (found q) None ≡ lookup (is_number q) (listed found ns) → found q ≡ None →
          lookup (is_number q) (listed found ns) ≡ found q
      later true h none = sym h
      later false h none = sym h ∙ sym none

      either : (o : Option T) → found n ≡ o → (b : Bool) → is_number q n ≡ b →
          lookup (is_number q) (listed found ns) ≡ cond (list_any (is_number q) ns) (found q) None →
          lookup (is_number q) (with_value (listed found ns) n o)
          ≡ cond (b || list_any (is_number q) ns) (found q) None
      either None e true own rest =
          later (list_any (is_number q) ns) (sym rest) (ap found (same_number q n own) ∙ e)
      either None e false other rest = rest
      either (Some value) e true own rest =
          found_put (listed found ns) n q value
          ∙ ap (λ b. cond b (Some value) (lookup (is_number q) (listed found ns))) (turned n q ∙ own)
          ∙ sym (ap found (same_number q n own) ∙ e)
      either (Some value) e false other rest =
          found_put (listed found ns) n q value
          ∙ ap (λ b. cond b (Some value) (lookup (is_number q) (listed found ns))) (turned n q ∙ other)
          ∙ rest

      by : (o : Option T) → found n ≡ o →
          lookup (is_number q) (listed found ns) ≡ cond (list_any (is_number q) ns) (found q) None →
          lookup (is_number q) (with_value (listed found ns) n o)
          ≡ cond (is_number q n || list_any (is_number q) ns) (found q) None
      by o e rest = either o e (is_number q n) refl rest

  -- ---- each number of the slots is listed

  pub in_rest : (es : Rest T) (q : SigNumber) (value : T) → lookup (is_number q) es ≡ Some value →
      list_any (is_number q) (keys_of es) ≡ true
  in_rest [] q value h = absurd (none_some h)
  in_rest (e ∷ es) q value h = by (is_number q e.0) h (in_rest es q value)
    where
      by : (b : Bool) → cond b (Some e.1) (lookup (is_number q) es) ≡ Some value →
          (lookup (is_number q) es ≡ Some value → list_any (is_number q) (keys_of es) ≡ true) →
          (b || list_any (is_number q) (keys_of es)) ≡ true
      by true h more = refl
      by false h more = more h

  behind_slots : (slots : List (Slot T)) (rest : Rest T) (q : SigNumber) →
      list_any (is_number q) (keys_of rest) ≡ true → list_any (is_number q) (numbers_in slots rest) ≡ true
  behind_slots [] rest q h = h
  behind_slots (None ∷ slots) rest q h = behind_slots slots rest q h
  behind_slots (Some e ∷ slots) rest q h =
      or_right (is_number q e.0) (list_any (is_number q) (numbers_in slots rest)) (behind_slots slots rest q h)

  in_slots : (slots : List (Slot T)) (rest : Rest T) (q : SigNumber) (value : T) (i : ℕ) →
      slice_index_or slots i None ≡ Some (q, value) → list_any (is_number q) (numbers_in slots rest) ≡ true
  in_slots [] rest q value i h = absurd (no_slot h)
    where
      no_slot : {x : SigNumber × T} → None ≡ Some x → ⊥
      no_slot h = cc
  in_slots (None ∷ slots) rest q value zero h = absurd (no_slot h)
    where
      no_slot : {x : SigNumber × T} → None ≡ Some x → ⊥
      no_slot h = cc
  in_slots (None ∷ slots) rest q value (suc i) h = in_slots slots rest q value i h
  in_slots (Some e ∷ slots) rest q value zero h =
      ap (λ b. b || list_any (is_number q) (numbers_in slots rest)) (ap (is_number q) number ∙ itself q)
    where
      number : e.0 ≡ q
      number = ap (λ (o : Slot T). (unwrap_or o e).0) h
  in_slots (Some e ∷ slots) rest q value (suc i) h =
      or_right (is_number q e.0) (list_any (is_number q) (numbers_in slots rest)) (in_slots slots rest q value i h)

  pub all_listed : (near : List (Slot T)) (rest : Rest T) (q : SigNumber) (value : T) →
      holder_in near rest q ≡ Some value → list_any (is_number q) (numbers_in near rest) ≡ true
  all_listed near rest q value h = by (near_in near q) refl h
    where
      by : (o : Option T) → near_in near q ≡ o → option_or o (lookup (is_number q) rest) ≡ Some value →
          list_any (is_number q) (numbers_in near rest) ≡ true
      by None e h = behind_slots near rest q (in_rest rest q value h)
      by (Some x) e h =
          let slot = slot_found near q x (place_in (length near) q) 8 e in in_slots near rest q x slot.0 slot.1
