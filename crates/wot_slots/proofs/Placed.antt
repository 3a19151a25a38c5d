-- Rows by the places of their entries: what the slots are after a place was set or an entry came.
use Rattle.std.proofs.Common.{◌≡◌, ◌<◌, ◌≤◌, ◌++◌, ◌⊎◌, inl, inr, ℕ, suc, zero, List, [], ◌∷◌, length, Some, None}
use Rattle.std.proofs.Common.{sym, ap, ◌∙◌, subst, refl, arith}
use Rattle.std.specs.List.{slice_index_or, slice_set}
use Rattle.std.proofs.lemmas.List.{ext_get_or, get_or_append_left, get_or_past, get_or_push, get_or_read, length-append}
use Rattle.std.proofs.lemmas.List.{length-map, map-set}
use Rattle.wot_types.specs.declared.number.SigNumber.{SigNumber}
use Rattle.wot_slots.specs.Live.{IsKeptBy}
use Rattle.wot_slots.specs.Row.{Slot, nowhere, slots_by, HasEntries}

module _ {T : Type 0} where
  -- Each slot has the entry at its place.
  pub slot_by : (places : List ℕ) (entries : List (Slot T)) (i : ℕ) → length entries ≤ nowhere →
      slice_index_or (slots_by places entries) i None
      ≡ slice_index_or entries (slice_index_or places i nowhere) None
  slot_by [] entries i few = sym (get_or_past entries nowhere None few)
  slot_by (p ∷ ps) entries zero few = refl
  slot_by (p ∷ ps) entries (suc i) few = slot_by ps entries i few

  -- No slot has anything if there are no entries.
  pub no_entries : (places : List ℕ) (entries : List (Slot T)) → entries ≡ [] → (i : ℕ) →
      slice_index_or (slots_by places entries) i None ≡ None
  no_entries places entries none i =
      ap (λ (es : List (Slot T)). slice_index_or (slots_by places es) i None) none ∙ by places i
    where
      by : (places : List ℕ) (i : ℕ) → slice_index_or (slots_by {T = T} places []) i None ≡ None
      by [] i = refl
      by (p ∷ ps) zero = refl
      by (p ∷ ps) (suc i) = by ps i

  pub has_entries : (places : List ℕ) (entries : List (Slot T)) → length entries ≤ nowhere →
      HasEntries (slots_by places entries) entries
  has_entries places entries few i e is =
      (slice_index_or places i nowhere, sym (slot_by places entries i few) ∙ is)

  -- A slot without an entry was given no place.
  pub vacated_by : (places : List ℕ) (entries : List (Slot T)) (at : ℕ) → length entries ≤ nowhere →
      slice_index_or (slots_by places entries) at None ≡ None →
      slots_by (slice_set places at nowhere) entries ≡ slots_by places entries
  vacated_by places entries at few none =
      map-set (λ place. slice_index_or entries place None) places at nowhere
      ∙ ap (slice_set (slots_by places entries) at) (get_or_past entries nowhere None few)
      ∙ same (slots_by places entries) at none
    where
      same : (slots : List (Slot T)) (k : ℕ) → slice_index_or slots k None ≡ None → slice_set slots k None ≡ slots
      same [] k none = refl
      same (s ∷ ss) zero none = λ i. sym none i ∷ ss
      same (s ∷ ss) (suc k) none = λ i. s ∷ same ss k none i

  -- An entry came, and a slot was given its place.
  module _ (places : List ℕ) (entries new : List (Slot T)) (e : SigNumber × T)
      (kept : IsKeptBy places entries) (few : length entries < nowhere) (came : new ≡ entries ++ Some e ∷ []) where
    pub still_few : length new ≤ nowhere
    still_few = let count = ap length came ∙ length-append entries (Some e ∷ []) in omega (arith, count, few)

    same_slots : slots_by places new ≡ slots_by places entries
    same_slots =
        ext_get_or None (slots_by places new) (slots_by places entries)
        (length-map places (λ place. slice_index_or new place None)
        ∙ sym (length-map places (λ place. slice_index_or entries place None)))
        (λ i lt. slot_by places new i still_few ∙ by i (kept.within i) ∙ sym (slot_by places entries i kept.few))
      where
        by : (i : ℕ) →
            (slice_index_or places i nowhere < length entries) ⊎ (slice_index_or places i nowhere ≡ nowhere) →
            slice_index_or new (slice_index_or places i nowhere) None
            ≡ slice_index_or entries (slice_index_or places i nowhere) None
        by i (inl before) = ap (λ (es : List (Slot T)). slice_index_or es (slice_index_or places i nowhere) None) came
            ∙ get_or_append_left entries (Some e ∷ []) None (slice_index_or places i nowhere) before
        by i (inr none) =
            ap (λ k. slice_index_or new k None) none ∙ get_or_past new nowhere None still_few
            ∙ sym (ap (λ k. slice_index_or entries k None) none ∙ get_or_past entries nowhere None kept.few)

    pub filled_by : (at count : ℕ) → count ≡ length entries →
        slots_by (slice_set places at count) new ≡ slice_set (slots_by places entries) at (Some e)
    filled_by at count counted =
        map-set (λ place. slice_index_or new place None) places at count
        ∙ (λ i. slice_set (same_slots i) at (last i))
      where
        last : slice_index_or new count None ≡ Some e
        last = ap (λ (es : List (Slot T)). slice_index_or es count None) came
            ∙ get_or_push entries (Some e) None count (sym counted)

  -- A slot within the row has a place.
  pub place_read : (places : List ℕ) (entries : List (Slot T)) (at place : ℕ) → at < length (slots_by places entries) →
      place ≡ slice_index_or places at place → slice_index_or places at nowhere ≡ place
  place_read places entries at place lt read =
      sym (get_or_read places at place
      (subst (λ k. at < k) (length-map places (λ p. slice_index_or entries p None)) lt) read nowhere)
