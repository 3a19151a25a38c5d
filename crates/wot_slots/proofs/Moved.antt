-- Values in a row and a tree: what they have after a change of one of them, and after a move to a longer row.
use Rattle.std.proofs.Common.{◌≡◌, ◌<◌, ◌≤◌, ◌+◌, ◌⊎◌, inl, inr, ℕ, Bool, true, false, cond, List, []}
use Rattle.std.proofs.Common.{Result, Ok, Err, IfOk, OnOk, OnErr, length, Option, Some, None, is_some, sym, ap, ◌∙◌}
use Rattle.std.proofs.Common.{subst, refl, arith}
use Rattle.std.specs.Option.{option_map, option_or}
use Rattle.std.specs.List.{slice_index_or}
use Rattle.std.specs.Map.{lookup}
use Rattle.std.proofs.lemmas.Bool.{cases_lt}
use Rattle.std.proofs.lemmas.List.{get_or_past}
use Rattle.wot_types.specs.declared.number.SigNumber.{SigNumber}
use Rattle.wot_slots.specs.Near.{Rest, is_number, place_in, held_for, near_in, holder_in, DiffersAt, IsOf}
use Rattle.wot_slots.specs.Near.{Moves, HasMoved, SaysSame}
use Rattle.wot_slots.specs.Row.{RowOf, Slot, HasEntries}
use Rattle.wot_slots.proofs.Numbers.{same_number, itself}
use Rattle.wot_slots.proofs.Rows.{found_nothing, slot_found}

none_some : {T : Type 0} {x : T} → None ≡ Some x → ⊥
none_some h = cc

pub on_err : {T E : Type 0} (P : Type 0) (r : Result T E) → P → OnErr r P
on_err P (Ok done) p = tt
on_err P (Err fault) p = p

pub on_ok : {T E : Type 0} (P Q : Type 0) (r : Result T E) → (P → Q) → OnOk r P → OnOk r Q
on_ok P Q (Ok done) f h = f h
on_ok P Q (Err fault) f h = tt

module _ {T : Type 0} where
  -- ---- one change

  pub absent_near : (near : List (Slot T)) (rest : Rest T) (n : SigNumber) → holder_in near rest n ≡ None →
      near_in near n ≡ None
  absent_near near rest n h = by (near_in near n) refl h
    where
      by : (o : Option T) → near_in near n ≡ o →
          option_or o (lookup (is_number n) rest) ≡ None → near_in near n ≡ None
      by None e k = e
      by (Some value) e k = absurd cc

  -- what they have, by what the row has
  by_near : (near : List (Slot T)) (rest : Rest T) (n : SigNumber) (o : Option T) → near_in near n ≡ o →
      holder_in near rest n ≡ option_or o (lookup (is_number n) rest)
  by_near near rest n o e = ap (λ p. option_or p (lookup (is_number n) rest)) e

  pub put_in_slot : (near near' : List (Slot T)) (rest : Rest T) (number : SigNumber) (value : T) →
      ((q : SigNumber) → near_in near' q ≡ cond (is_number number q) (Some value)
      (near_in near q)) → (q : SigNumber) →
      holder_in near' rest q ≡ cond (is_number number q) (Some value) (holder_in near rest q)
  put_in_slot near near' rest number value put q =
      ap (λ o. option_or o (lookup (is_number q) rest)) (put q) ∙ by (is_number number q)
    where
      by : (b : Bool) → option_or (cond b (Some value) (near_in near q)) (lookup (is_number q) rest) ≡ cond
          b (Some value) (holder_in near rest q)
      by true = refl
      by false = refl

  pub put_in_rest : (near : List (Slot T)) (rest rest' : Rest T) (number : SigNumber) (value : T) →
      near_in near number ≡ None →
      ((q : SigNumber) →
      lookup (is_number q) rest' ≡ cond (is_number number q) (Some value) (lookup (is_number q) rest)) →
      (q : SigNumber) → holder_in near rest' q ≡ cond (is_number number q) (Some value) (holder_in near rest q)
  put_in_rest near rest rest' number value absent put q =
      ap (λ o. option_or (near_in near q) o) (put q) ∙ by (is_number number q) refl
    where
      by : (b : Bool) → is_number number q ≡ b →
          option_or (near_in near q) (cond b (Some value) (lookup (is_number q) rest)) ≡ cond b (Some value)
          (holder_in near rest q)
      by true t = ap (λ o. option_or o (Some value))
          (ap (near_in near) (sym (same_number number q t)) ∙ absent)
      by false t = refl

  pub gone_from_both : (near near' : List (Slot T)) (rest rest' : Rest T) (number : SigNumber) →
      DiffersAt number None near near' →
      ((q : SigNumber) → lookup (is_number q) rest' ≡ cond (is_number number q) None (lookup (is_number q) rest)) →
      (q : SigNumber) → holder_in near' rest' q ≡ cond (is_number number q) None (holder_in near rest q)
  gone_from_both near near' rest rest' number less out q =
      (λ i. option_or (less q i) (out q i)) ∙ by (is_number number q)
    where
      by : (b : Bool) → option_or (cond b None (near_in near q)) (cond b None (lookup (is_number q) rest))
          ≡ cond b None (holder_in near rest q)
      by true = refl
      by false = refl

  -- a value that is there isn't missing
  pub there_is : {P : Type 0} (o : Option T) → is_some o ≡ true → o ≡ None → P
  there_is None there none = absurd cc
  there_is (Some value) there none = absurd (none_some (sym none))

  -- what they have, if neither has anything
  pub in_rest : (near : List (Slot T)) (rest : Rest T) (n : SigNumber) → near_in near n ≡ None →
      lookup (is_number n) rest ≡ None → holder_in near rest n ≡ None
  in_rest near rest n absent none = by_near near rest n None absent ∙ none

  -- ---- one number moved

  pub none_of : (o : Option T) → is_some o ≡ false → o ≡ None
  none_of None h = refl
  none_of (Some value) h = absurd cc

  module _ (number : SigNumber) (near longer : List (Slot T)) (rest : Rest T) where
    pub moves_nothing : near_in near number ≡ None → Moves number near longer rest longer rest
    moves_nothing absent = record {
      others = λ q other. (refl, refl);
      sound = λ s. s;
      none = λ e. refl;
      held = λ s value e. absurd (none_some (sym absent ∙ e));
    }

    pub moves_again : is_some (near_in longer number) ≡ true → Moves number near longer rest longer rest
    moves_again there = record {
      others = λ q other. (refl, refl);
      sound = λ s. s;
      none = λ e. refl;
      held = λ s value e. by value e s;
    }
      where
        nothing : is_some {T = T} None ≡ true → ⊥
        nothing h = cc

        by : (value : T) → near_in near number ≡ Some value → IsOf near longer number →
            holder_in longer rest number ≡ Some value
        by value e (inl none) = absurd (nothing (ap is_some (sym none) ∙ there))
        by value e (inr same) = by_near longer rest number (Some value) (same ∙ e)

    module _ (value : T) (found : near_in near number ≡ Some value) where
      pub moves_near : (new : List (Slot T)) → DiffersAt number (Some value) longer new →
          Moves number near longer rest new rest
      moves_near new put =
          let own : near_in new number ≡ Some value =
          put number ∙ ap (λ b. cond b (Some value) (near_in longer number)) (itself number) in
          record {
            others = λ q other. (put q ∙ ap (λ b. cond b (Some value) (near_in longer q)) other, refl);
            sound = λ s. inr (own ∙ sym found);
            none = λ e. refl;
            held = λ s x e. by_near new rest number (Some x) (own ∙ sym found ∙ e);
          }

      pub moves_far : (new : List (Slot T)) (rest' : Rest T) → new ≡ longer → is_some (near_in longer number) ≡ false →
          ((q : SigNumber) → lookup (is_number q) rest' ≡ cond (is_number number q) (Some value)
          (lookup (is_number q) rest)) → Moves number near longer rest new rest'
      moves_far new rest' same absent put =
          subst (λ (slots : List (Slot T)). Moves number near longer rest slots rest') (sym same) (record {
            others = λ q other. (
              refl,
              put q ∙ ap (λ b. cond b (Some value) (lookup (is_number q) rest)) other,
            );
            sound = λ s. s;
            none = λ e. absurd (none_some (sym e ∙ found));
            held = λ s x e.
                by_near longer rest' number None (none_of (near_in longer number) absent)
                ∙ put number
                ∙ ap (λ b. cond b (Some value) (lookup (is_number number) rest)) (itself number)
                ∙ sym found ∙ e;
          })

  -- ---- all entries moved

  pub moved_nothing : (came : List (Slot T)) (near longer : List (Slot T)) (before : Rest T) →
      ((n : SigNumber) → near_in longer n ≡ None) → HasMoved 0 came near longer before before
  moved_nothing came near longer before vacant = record {
    sound = λ q. inl (vacant q);
    none = λ q e. refl;
    held = λ q i other value lt slot found. absurd (none i lt);
  }
    where
      none : (i : ℕ) → i < 0 → ⊥
      none i lt = omega arith

  -- There is no entry at this place.
  pub moved_past : (at : ℕ) (came : List (Slot T)) (near longer : List (Slot T)) (before rest : Rest T) →
      slice_index_or came at None ≡ None → HasMoved at came near longer before rest →
      HasMoved (at + 1) came near longer before rest
  moved_past at came near longer before rest none h = record {
    sound = h.sound;
    none = h.none;
    held = λ q i other value lt slot found. by q i other value lt slot found (cases_lt i at);
  }
    where
      no_slot : {x : SigNumber × T} → None ≡ Some x → ⊥
      no_slot h = cc

      by : (q : SigNumber) (i : ℕ) (other value : T) → i < at + 1 → slice_index_or came i None ≡ Some (q, other) →
          near_in near q ≡ Some value → (i < at) ⊎ (at ≤ i) → holder_in longer rest q ≡ Some value
      by q i other value lt slot found (inl before) = h.held q i other value before slot found
      by q i other value lt slot found (inr past) =
          let e : at ≡ i = omega (arith, lt, past) in
          absurd (no_slot (sym none ∙ ap (λ k. slice_index_or came k None) e ∙ slot))

  module _ (at : ℕ) (came : List (Slot T)) (near longer new : List (Slot T)) (before rest rest' : Rest T)
      (number : SigNumber) (is : option_map (λ e. e.0) (slice_index_or came at None) ≡ Some number)
      (h : HasMoved at came near longer before rest) (m : Moves number near longer rest new rest') where
    moved_sound : (q : SigNumber) (b : Bool) → is_number number q ≡ b → IsOf near new q
    moved_sound q true t = subst (IsOf near new) (same_number number q t) (m.sound (h.sound number))
    moved_sound q false t =
        subst (λ o. (o ≡ None) ⊎ (o ≡ near_in near q)) (sym (m.others q t).0) (h.sound q)

    moved_none : (q : SigNumber) (b : Bool) → is_number number q ≡ b → near_in near q ≡ None →
        lookup (is_number q) rest' ≡ lookup (is_number q) before
    moved_none q true t =
        subst (λ (x : SigNumber). near_in near x ≡ None → lookup (is_number x) rest' ≡ lookup (is_number x) before)
        (same_number number q t) (λ e. m.none e ∙ h.none number e)
    moved_none q false t = λ e. (m.others q t).1 ∙ h.none q e

    moved_held : (q : SigNumber) (i : ℕ) (other value : T) → i < at + 1 →
        slice_index_or came i None ≡ Some (q, other) → near_in near q ≡ Some value → (b : Bool) → is_number number q ≡ b →
        (i < at) ⊎ (at ≤ i) → holder_in new rest' q ≡ Some value
    moved_held q i other value lt slot found true t place =
        subst (λ (x : SigNumber). near_in near x ≡ Some value → holder_in new rest' x ≡ Some value)
        (same_number number q t) (m.held (h.sound number) value) found
    moved_held q i other value lt slot found false t (inl before) =
        (λ k. option_or (((m.others q t).0 k)) ((m.others q t).1 k))
        ∙ h.held q i other value before slot found
    moved_held q i other value lt slot found false t (inr past) =
        let e : at ≡ i = omega (arith, lt, past) in
        let same : Some number ≡ Some q =
        sym is ∙ ap (option_map (λ e. e.0)) (ap (λ k. slice_index_or came k None) e ∙ slot) in
        absurd (apart (sym (itself number) ∙ ap (is_number number) (numbers same) ∙ t))
      where
        apart : true ≡ false → ⊥
        apart h = cc

        numbers : {x y : SigNumber} → ◌≡◌ {A = Option SigNumber} (Some x) (Some y) → x ≡ y
        numbers h = cc

    pub moved_on : HasMoved (at + 1) came near new before rest'
    moved_on = record {
      sound = λ q. moved_sound q (is_number number q) refl;
      none = λ q. moved_none q (is_number number q) refl;
      held = λ q i other value lt slot found. moved_held q i other value lt slot found (is_number number q) refl
          (cases_lt i at);
    }

  module _ (at : ℕ) (came : List (Slot T)) (near longer : List (Slot T)) (before rest : Rest T)
      (h : HasMoved at came near longer before rest) where
    -- All entries were moved.
    pub moved_all : HasEntries near came → length came ≤ at → SaysSame near before longer rest
    moved_all entries past n = by (near_in near n) refl
      where
        nothing : near_in near n ≡ None → IsOf near longer n → near_in longer n ≡ None
        nothing e (inl none) = none
        nothing e (inr same) = same ∙ e

        no_slot : {x : SigNumber × T} → None ≡ Some x → ⊥
        no_slot h = cc

        slot_within : (i : ℕ) (e : SigNumber × T) → slice_index_or came i None ≡ Some e → i < length came
        slot_within i e slot = by (cases_lt i (length came))
          where
            by : (i < length came) ⊎ (length came ≤ i) → i < length came
            by (inl lt) = lt
            by (inr out) = absurd (no_slot (sym (get_or_past came i None out) ∙ slot))

        there : (value : T) → near_in near n ≡ Some value →
            (i : ℕ) × (slice_index_or near i None ≡ Some (n, value)) → holder_in longer rest n ≡ Some value
        there value e slot =
            let came = entries slot.0 (n, value) slot.1 in
            let lt = slot_within came.0 (n, value) came.1 in
            h.held n came.0 value value (omega (arith, lt, past)) came.1 e

        by : (o : Option T) → near_in near n ≡ o → holder_in longer rest n ≡ holder_in near before n
        by None e =
            by_near longer rest n None (nothing e (h.sound n)) ∙ h.none n e ∙ sym (by_near near before n None e)
        by (Some value) e =
            there value e (slot_found near n value (place_in (length near) n) 8 e)
            ∙ sym (by_near near before n (Some value) e)

    -- The row that was moved from is still whole.
    pub moved_back : SaysSame near before near rest
    moved_back n = by (near_in near n) refl
      where
        by : (o : Option T) → near_in near n ≡ o → holder_in near rest n ≡ holder_in near before n
        by None e = by_near near rest n None e ∙ h.none n e ∙ sym (by_near near before n None e)
        by (Some value) e = by_near near rest n (Some value) e ∙ sym (by_near near before n (Some value) e)

  -- ---- back from the tree

  -- A number was moved from the tree to an empty slot.
  pub brought : (near new : List (Slot T)) (rest rest' : Rest T) (number : SigNumber) (value : T) →
      lookup (is_number number) rest ≡ Some value → near_in near number ≡ None →
      ((q : SigNumber) → near_in new q ≡ cond (is_number number q) (Some value)
      (near_in near q)) →
      ((q : SigNumber) → lookup (is_number q) rest' ≡ cond (is_number number q) None (lookup (is_number q) rest)) →
      SaysSame near rest new rest'
  brought near new rest rest' number value found absent put out q =
      (λ i. option_or (put q i) (out q i)) ∙ by (is_number number q) refl
    where
      by : (b : Bool) → is_number number q ≡ b →
          option_or (cond b (Some value) (near_in near q)) (cond b None (lookup (is_number q) rest))
          ≡ holder_in near rest q
      by true t =
          sym (ap (holder_in near rest) (sym (same_number number q t)) ∙ by_near near rest number None absent ∙ found)
      by false t = refl

  pub says_on : (near mid new : List (Slot T)) (rest rest1 rest2 : Rest T) → SaysSame near rest mid rest1 →
      SaysSame mid rest1 new rest2 → SaysSame near rest new rest2
  says_on near mid new rest rest1 rest2 first second n = second n ∙ first n

  -- ---- empty slots

  pub nothing_near : (slots : List (Slot T)) → ((i : ℕ) → slice_index_or slots i None ≡ None) → (n : SigNumber) →
      near_in slots n ≡ None
  nothing_near slots none n = found_nothing slots n (place_in (length slots) n) 8 (λ i lo hi. ap (held_for n) (none i))

  pub vacant_row : {E : Type 0} (r : Result (RowOf T) E) →
      IfOk r (λ made. (i : ℕ) → slice_index_or made.items i None ≡ None) →
      IfOk r (λ made. (n : SigNumber) → near_in made.items n ≡ None)
  vacant_row (Ok made) none = nothing_near made.items none
  vacant_row (Err fault) none = none

  -- There are no values if both are empty.
  pub nothing_held : (near : List (Slot T)) (rest : Rest T) → near ≡ [] → rest ≡ [] → (n : SigNumber) →
      holder_in near rest n ≡ None
  nothing_held near rest none empty n =
      by_near near rest n None (nothing_near near (λ i. ap (λ (xs : List (Slot T)). slice_index_or xs i None) none) n)
      ∙ ap (λ (es : Rest T). lookup (is_number n) es) empty
