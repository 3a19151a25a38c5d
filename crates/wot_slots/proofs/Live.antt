-- Rows whose entries are what a lookup finds: what stays so when an entry comes, when its value is set, and when it goes.
use Rattle.std.proofs.Common.{◌≡◌, ◌<◌, ◌≤◌, ◌+◌, ◌++◌, ◌⊎◌, inl, inr, ℕ, suc, zero, Bool, true, false, cond, List, []}
use Rattle.std.proofs.Common.{◌∷◌, length, Option, Some, None, is_some, sym, ap, ◌∙◌, subst, refl, arith}
use Rattle.std.specs.List.{slice_index_or, slice_set}
use Rattle.std.specs.Option.{option_or, IfSome}
use Rattle.std.proofs.lemmas.Bool.{cases_eq, cases_lt}
use Rattle.std.proofs.lemmas.List.{get_or-set_other, get_or-set_same, get_or_append_left, get_or_past, get_or_push}
use Rattle.std.proofs.lemmas.List.{length-append, length-map, length-set}
use Rattle.wot_types.specs.declared.number.SigNumber.{SigNumber}
use Rattle.wot_slots.specs.Live.{AreFound, AreOnce, IsKeptBy}
use Rattle.wot_slots.specs.Near.{DiffersAt, IsSlotOf, found_from, held_for, is_number, near_in, place_in}
use Rattle.wot_slots.specs.Row.{Slot, nowhere, slots_by}
use Rattle.wot_slots.proofs.Numbers.{same_number, turned}
use Rattle.wot_slots.proofs.Placed.{filled_by, place_read, slot_by, still_few, vacated_by}
use Rattle.wot_slots.proofs.Rows.{held_is, held_other, held_own, kept_near, near_like}

nothing : (A : Type 0) → is_some {T = A} None ≡ true → ⊥
nothing A h = cc

module _ {T : Type 0} where
  none_some : {x : T} → None ≡ Some x → ⊥
  none_some h = cc

  -- ---- one number's value is set wherever there is one

  -- this value in place of one, or none in place of none
  abbrev pub given : Option T → Option T → Option T
  given None value = None
  given (Some x) value = value

  given_or : (a b value : Option T) → option_or (given a value) (given b value) ≡ given (option_or a b) value
  given_or None b value = refl
  given_or (Some x) None None = refl
  given_or (Some x) (Some y) None = refl
  given_or (Some x) b (Some v) = refl

  given_is : (o value : Option T) (x : T) → given o value ≡ Some x → value ≡ Some x
  given_is None value x h = absurd (none_some h)
  given_is (Some y) value x h = h

  given_there : (o value : Option T) (x : T) → given o value ≡ Some x → (y : T) × (o ≡ Some y)
  given_there None value x h = absurd (none_some h)
  given_there (Some y) value x h = (y, refl)

  found_given : (old new : List (Slot T)) (n : SigNumber) (value : Option T) →
      ((i : ℕ) → held_for n (slice_index_or new i None) ≡ given (held_for n (slice_index_or old i None)) value) →
      (at count : ℕ) → found_from new n at count ≡ given (found_from old n at count) value
  found_given old new n value each at zero = refl
  found_given old new n value each at (suc count) =
      (λ i. option_or (each at i) (found_given old new n value each (at + 1) count i))
      ∙ given_or (held_for n (slice_index_or old at None)) (found_from old n (at + 1) count) value

  near_given : (old new : List (Slot T)) (n : SigNumber) (value : Option T) → length new ≡ length old →
      ((i : ℕ) → held_for n (slice_index_or new i None) ≡ given (held_for n (slice_index_or old i None)) value) →
      near_in new n ≡ given (near_in old n) value
  near_given old new n value as_many each =
      ap (λ k. found_from new n (place_in k n) 8) as_many
      ∙ found_given old new n value each (place_in (length old) n) 8

  -- ---- an entry was changed

  module _ (places : List ℕ) (entries : List (Slot T)) (p : ℕ) (n : SigNumber) (x : T) (slot : Slot T)
      (kept : IsKeptBy places entries) (is : held_for n (slice_index_or entries p None) ≡ Some x)
      (alone : (q : SigNumber) → is_number n q ≡ false → held_for q slot ≡ None) where
    abbrev new : List (Slot T)
    new = slice_set entries p slot

    within : p < length entries
    within = by (cases_lt p (length entries))
      where
        by : (p < length entries) ⊎ (length entries ≤ p) → p < length entries
        by (inl lt) = lt
        by (inr past) = absurd (none_some (sym (ap (held_for n) (get_or_past entries p None past)) ∙ is))

    as_many : length new ≡ length entries
    as_many = length-set entries p slot

    pub few_still : length new ≤ nowhere
    few_still = let few = kept.few in omega (arith, few, as_many)

    others : (q : SigNumber) → is_number n q ≡ false → (k : ℕ) →
        held_for q (slice_index_or new k None) ≡ held_for q (slice_index_or entries k None)
    others q other k = by (cases_eq k p)
      where
        by : (k ≡ p) ⊎ (k ≡ p → ⊥) →
            held_for q (slice_index_or new k None) ≡ held_for q (slice_index_or entries k None)
        by (inl e) =
            ap (λ i. held_for q (slice_index_or new i None)) e
            ∙ ap (held_for q) (get_or-set_same entries p slot None within) ∙ alone q other
            ∙ sym (ap (λ i. held_for q (slice_index_or entries i None)) e
            ∙ ap (held_for q) (held_is n (slice_index_or entries p None) x is) ∙ held_other n q x other)
        by (inr away) = ap (held_for q) (get_or-set_other entries p k slot None away)

    own : (k : ℕ) → held_for n (slice_index_or new k None)
        ≡ given (held_for n (slice_index_or entries k None)) (held_for n slot)
    own k = by (cases_eq k p)
      where
        none_else : (o : Option T) → held_for n (slice_index_or entries k None) ≡ o → (k ≡ p → ⊥) →
            o ≡ given o (held_for n slot)
        none_else None e away = refl
        none_else (Some y) e away = absurd (away (kept.once n k p y x e is))

        by : (k ≡ p) ⊎ (k ≡ p → ⊥) → held_for n (slice_index_or new k None)
            ≡ given (held_for n (slice_index_or entries k None)) (held_for n slot)
        by (inl e) =
            ap (λ i. held_for n (slice_index_or new i None)) e
            ∙ ap (held_for n) (get_or-set_same entries p slot None within)
            ∙ sym (ap (λ o. given o (held_for n slot))
            (ap (λ i. held_for n (slice_index_or entries i None)) e ∙ is))
        by (inr away) = ap (held_for n) (get_or-set_other entries p k slot None away)
            ∙ none_else (held_for n (slice_index_or entries k None)) refl away

    slots_many : length (slots_by places new) ≡ length (slots_by places entries)
    slots_many =
        length-map places (λ place. slice_index_or new place None)
        ∙ sym (length-map places (λ place. slice_index_or entries place None))

    -- What the slots have for the number is what the new entry has.
    pub changed : DiffersAt n (held_for n slot) (slots_by places entries) (slots_by places new)
    changed q = by (is_number n q) refl
      where
        here : near_in (slots_by places new) n ≡ held_for n slot
        here =
            near_given (slots_by places entries) (slots_by places new) n (held_for n slot) slots_many
            (λ i. ap (held_for n) (slot_by places new i few_still) ∙ own (slice_index_or places i nowhere)
            ∙ sym (ap (λ s. given (held_for n s) (held_for n slot)) (slot_by places entries i kept.few)))
            ∙ ap (λ o. given o (held_for n slot)) (kept.found p n x is)

        by : (b : Bool) → is_number n q ≡ b →
            near_in (slots_by places new) q ≡ cond b (held_for n slot) (near_in (slots_by places entries) q)
        by true t = ap (near_in (slots_by places new)) (sym (same_number n q t)) ∙ here
        by false t =
            near_like (slots_by places entries) (slots_by places new) q slots_many
            (λ i. ap (held_for q) (slot_by places new i few_still) ∙ others q t (slice_index_or places i nowhere)
            ∙ sym (ap (held_for q) (slot_by places entries i kept.few)))

    found_still : AreFound (slots_by places new) new
    found_still k q value h = changed q ∙ by (is_number n q) refl
      where
        by : (b : Bool) → is_number n q ≡ b →
            cond b (held_for n slot) (near_in (slots_by places entries) q) ≡ Some value
        by true t =
            given_is (held_for n (slice_index_or entries k None)) (held_for n slot) value
            (sym (own k) ∙ ap (λ (m : SigNumber). held_for m (slice_index_or new k None)) (same_number n q t) ∙ h)
        by false t = kept.found k q value (sym (others q t k) ∙ h)

    -- A number that has an entry had one there.
    there_before : (q : SigNumber) (k : ℕ) (value : T) → held_for q (slice_index_or new k None) ≡ Some value →
        (y : T) × (held_for q (slice_index_or entries k None) ≡ Some y)
    there_before q k value h = by (is_number n q) refl
      where
        by : (b : Bool) → is_number n q ≡ b → (y : T) × (held_for q (slice_index_or entries k None) ≡ Some y)
        by true t =
            let same = same_number n q t in
            let had = given_there (held_for n (slice_index_or entries k None)) (held_for n slot) value
            (sym (own k) ∙ ap (λ (m : SigNumber). held_for m (slice_index_or new k None)) same ∙ h) in
            (had.0, ap (λ (m : SigNumber). held_for m (slice_index_or entries k None)) (sym same) ∙ had.1)
        by false t = (value, sym (others q t k) ∙ h)

    once_still : AreOnce new
    once_still q k j value other h g =
        let one = there_before q k value h in
        let two = there_before q j other g in
        kept.once q k j one.0 two.0 one.1 two.1

    pub kept_changed : IsKeptBy places new
    kept_changed = record {
      few = few_still;
      within = λ i. subst (λ m. (slice_index_or places i nowhere < m) ⊎ (slice_index_or places i nowhere ≡ nowhere))
          (sym as_many) (kept.within i);
      found = found_still;
      once = once_still;
    }

  -- ---- a slot without an entry was given no place

  pub kept_vacated : (places : List ℕ) (entries : List (Slot T)) (at : ℕ) → IsKeptBy places entries →
      slice_index_or (slots_by places entries) at None ≡ None → IsKeptBy (slice_set places at nowhere) entries
  kept_vacated places entries at kept none = record {
    few = kept.few;
    within = λ i. by i (cases_eq i at);
    found = subst (λ (items : List (Slot T)). AreFound items entries) (sym (vacated_by places entries at kept.few none))
        kept.found;
    once = kept.once;
  }
    where
      by : (i : ℕ) → (i ≡ at) ⊎ (i ≡ at → ⊥) → (slice_index_or (slice_set places at nowhere) i nowhere < length entries)
          ⊎ (slice_index_or (slice_set places at nowhere) i nowhere ≡ nowhere)
      by i (inr away) = subst (λ m. (m < length entries) ⊎ (m ≡ nowhere))
          (sym (get_or-set_other places at i nowhere nowhere away)) (kept.within i)
      by i (inl e) = here (cases_lt at (length places))
        where
          here : (at < length places) ⊎ (length places ≤ at) →
              (slice_index_or (slice_set places at nowhere) i nowhere < length entries)
              ⊎ (slice_index_or (slice_set places at nowhere) i nowhere ≡ nowhere)
          here (inl lt) = inr (ap (λ k. slice_index_or (slice_set places at nowhere) k nowhere) e
              ∙ get_or-set_same places at nowhere nowhere lt)
          here (inr past) = inr (get_or_past (slice_set places at nowhere) i nowhere
              (let many = length-set places at nowhere in omega (arith, many, past, e)))

  -- ---- an entry came

  module _ (places : List ℕ) (entries new : List (Slot T)) (n : SigNumber) (v : T) (at count : ℕ)
      (kept : IsKeptBy places entries) (few : length entries < nowhere)
      (came : new ≡ entries ++ Some (n, v) ∷ []) (counted : count ≡ length entries)
      (here : IsSlotOf n at (slots_by places entries))
      (vacant : slice_index_or (slots_by places entries) at None ≡ None)
      (absent : near_in (slots_by places entries) n ≡ None) where
    abbrev items : List (Slot T)
    items = slots_by (slice_set places at count) new

    pub put : DiffersAt n (Some v) (slots_by places entries) items
    put =
        subst (DiffersAt n (Some v) (slots_by places entries))
        (sym (filled_by places entries new (n, v) kept few came at count counted))
        (kept_near (slots_by places entries) n v (place_in (length (slots_by places entries)) n) at
        (length (slots_by places entries)) refl refl here.from here.near here.within vacant absent)

    -- An earlier entry is another number's.
    another : (q : SigNumber) (k : ℕ) (value : T) → held_for q (slice_index_or entries k None) ≡ Some value →
        is_number n q ≡ false
    another q k value h = by (is_number n q) refl
      where
        by : (b : Bool) → is_number n q ≡ b → is_number n q ≡ false
        by true t =
            absurd (none_some (sym absent ∙ ap (near_in (slots_by places entries)) (same_number n q t)
            ∙ kept.found k q value h))
        by false t = t

    -- An entry is an earlier one, or the last one.
    abbrev IsEither : SigNumber → ℕ → T → Type 0
    IsEither q k value =
        (held_for q (slice_index_or entries k None) ≡ Some value)
        ⊎ ((k ≡ length entries) × (cond (is_number q n) (Some v) None ≡ Some value))

    either : (q : SigNumber) (k : ℕ) (value : T) → held_for q (slice_index_or new k None) ≡ Some value →
        IsEither q k value
    either q k value h = by (cases_lt k (length entries)) (cases_eq k (length entries))
      where
        whole : held_for q (slice_index_or (entries ++ Some (n, v) ∷ []) k None) ≡ Some value
        whole = ap (λ (es : List (Slot T)). held_for q (slice_index_or es k None)) (sym came) ∙ h

        by : (k < length entries) ⊎ (length entries ≤ k) → (k ≡ length entries) ⊎ (k ≡ length entries → ⊥) →
            IsEither q k value
        by (inl lt) other =
            inl (ap (held_for q) (sym (get_or_append_left entries (Some (n, v) ∷ []) None k lt)) ∙ whole)
        by (inr past) (inl e) =
            inr (e, ap (held_for q) (sym (get_or_push entries (Some (n, v)) None k (sym e))) ∙ whole)
        by (inr past) (inr away) =
            let long = length-append entries (Some (n, v) ∷ []) in
            absurd (none_some (ap (held_for q) (sym (get_or_past (entries ++ Some (n, v) ∷ []) k None
            (omega (arith, long, past, away)))) ∙ whole))

    found_put : AreFound items new
    found_put k q value h = put q ∙ by (either q k value h)
      where
        last : (b : Bool) → is_number q n ≡ b → cond b (Some v) None ≡ Some value →
            cond (is_number n q) (Some v) (near_in (slots_by places entries) q) ≡ Some value
        last true t e = ap (λ b. cond b (Some v) (near_in (slots_by places entries) q)) (turned n q ∙ t) ∙ e
        last false t e = absurd (none_some e)

        by : IsEither q k value →
            cond (is_number n q) (Some v) (near_in (slots_by places entries) q) ≡ Some value
        by (inl old) = ap (λ b. cond b (Some v) (near_in (slots_by places entries) q)) (another q k value old)
            ∙ kept.found k q value old
        by (inr own) = last (is_number q n) refl own.1

    once_put : AreOnce new
    once_put q k j value other h g = by (either q k value h) (either q j other g)
      where
        both : (i : ℕ) (a b : T) → held_for q (slice_index_or entries i None) ≡ Some a →
            cond (is_number q n) (Some v) None ≡ Some b → ⊥
        both i a b old own =
            none_some (ap (λ c. cond c (Some v) None) (sym (turned q n ∙ another q i a old)) ∙ own)

        by : IsEither q k value → IsEither q j other → k ≡ j
        by (inl a) (inl b) = kept.once q k j value other a b
        by (inl a) (inr b) = absurd (both k value other a b.1)
        by (inr a) (inl b) = absurd (both j other value b a.1)
        by (inr a) (inr b) = a.0 ∙ sym b.0

    pub kept_put : IsKeptBy (slice_set places at count) new
    kept_put = record {
      few = still_few places entries new (n, v) kept few came;
      within = λ i. by i (cases_eq i at);
      found = found_put;
      once = once_put;
    }
      where
        long : length new ≡ length entries + 1
        long = ap length came ∙ length-append entries (Some (n, v) ∷ [])

        more : (m : ℕ) → (m < length entries) ⊎ (m ≡ nowhere) → (m < length new) ⊎ (m ≡ nowhere)
        more m (inl lt) = inl (omega (arith, lt, long))
        more m (inr e) = inr e

        by : (i : ℕ) → (i ≡ at) ⊎ (i ≡ at → ⊥) → (slice_index_or (slice_set places at count) i nowhere < length new)
            ⊎ (slice_index_or (slice_set places at count) i nowhere ≡ nowhere)
        by i (inr away) = subst (λ m. (m < length new) ⊎ (m ≡ nowhere))
            (sym (get_or-set_other places at i count nowhere away)) (more (slice_index_or places i nowhere) (kept.within i))
        by i (inl e) =
            let lt : at < length places = subst (λ m. at < m)
            (length-map places (λ place. slice_index_or entries place None)) here.within in
            inl (subst (λ m. m < length new)
            (sym (ap (λ k. slice_index_or (slice_set places at count) k nowhere) e
            ∙ get_or-set_same places at count nowhere lt)) (omega (arith, counted, long)))

  -- ---- the slot of a number

  module _ (places : List ℕ) (entries : List (Slot T)) (at p : ℕ) (kept : IsKeptBy places entries)
      (lt : at < length (slots_by places entries)) (read : p ≡ slice_index_or places at p) where
    pub slot_of : slice_index_or (slots_by places entries) at None ≡ slice_index_or entries p None
    slot_of = slot_by places entries at kept.few
        ∙ ap (λ k. slice_index_or entries k None) (place_read places entries at p lt read)

    -- Its value was set.
    module _ (n : SigNumber) (v : T)
        (held : is_some (held_for n (slice_index_or (slots_by places entries) at None)) ≡ true) where
      had : (x : T) × (held_for n (slice_index_or entries p None) ≡ Some x)
      had = by (held_for n (slice_index_or entries p None)) refl (ap (λ s. is_some (held_for n s)) (sym slot_of) ∙ held)
        where
          by : (o : Option T) → held_for n (slice_index_or entries p None) ≡ o → is_some o ≡ true →
              (x : T) × (held_for n (slice_index_or entries p None) ≡ Some x)
          by None e h = absurd (nothing T h)
          by (Some x) e h = (x, e)

      pub replaced : DiffersAt n (Some v) (slots_by places entries)
          (slots_by places (slice_set entries p (Some (n, v))))
      replaced =
          subst (λ w. DiffersAt n w (slots_by places entries) (slots_by places (slice_set entries p (Some (n, v)))))
          (held_own n v) (changed places entries p n had.0 (Some (n, v)) kept had.1
          (λ q other. held_other n q v other))

      pub kept_replaced : IsKeptBy places (slice_set entries p (Some (n, v)))
      kept_replaced =
          kept_changed places entries p n had.0 (Some (n, v)) kept had.1 (λ q other. held_other n q v other)

    -- It was emptied.
    abbrev less : List (Slot T)
    less = slice_set entries p None

    module _ (e : SigNumber × T) (is : slice_index_or entries p None ≡ Some e) where
      own_entry : held_for e.0 (slice_index_or entries p None) ≡ Some e.1
      own_entry = ap (held_for e.0) is ∙ held_own e.0 e.1

      kept_less : IsKeptBy places less
      kept_less = kept_changed places entries p e.0 e.1 None kept own_entry (λ q other. refl)

      none_left : slice_index_or (slots_by places less) at None ≡ None
      none_left =
          slot_by places less at kept_less.few
          ∙ ap (λ k. slice_index_or less k None) (place_read places entries at p lt read)
          ∙ get_or-set_same entries p None None (within places entries p e.0 e.1 None kept own_entry (λ q other. refl))

      kept_without : IsKeptBy (slice_set places at nowhere) less
      kept_without = kept_vacated places less at kept_less none_left

      differs_without : DiffersAt e.0 None (slots_by places entries) (slots_by (slice_set places at nowhere) less)
      differs_without =
          subst (DiffersAt e.0 None (slots_by places entries)) (sym (vacated_by places less at kept_less.few none_left))
          (changed places entries p e.0 e.1 None kept own_entry (λ q other. refl))

    pub emptied : IfSome (slice_index_or (slots_by places entries) at None)
        (λ e. DiffersAt e.0 None (slots_by places entries) (slots_by (slice_set places at nowhere) less))
    emptied = subst (λ s. IfSome s (λ e. DiffersAt e.0 None (slots_by places entries)
        (slots_by (slice_set places at nowhere) less))) (sym slot_of) (by (slice_index_or entries p None) refl)
      where
        by : (o : Slot T) → slice_index_or entries p None ≡ o → IfSome o (λ e. DiffersAt e.0 None
            (slots_by places entries) (slots_by (slice_set places at nowhere) less))
        by None e = tt
        by (Some e) is = differs_without e is

    pub kept_emptied : is_some (slice_index_or (slots_by places entries) at None) ≡ true →
        IsKeptBy (slice_set places at nowhere) less
    kept_emptied there = by (slice_index_or entries p None) refl (ap is_some (sym slot_of) ∙ there)
      where
        by : (o : Slot T) → slice_index_or entries p None ≡ o → is_some o ≡ true →
            IsKeptBy (slice_set places at nowhere) less
        by None e h = absurd (nothing T h)
        by (Some e) is h = kept_without e is
