-- What a merged list has that the old list didn't have.
use Rattle.std.specs.Prelude.{◌≡◌, ℕ, ◌+◌, if◌then◌else◌, List, [], ◌∷◌, Option, Some, None}
use Rattle.std.specs.declared.cmp.Ordering.{Ordering}
use Rattle.std.specs.Ordering.{is_eq}
use Rattle.wot_policy.specs.declared.rows.PolicyRows.{PolicyRows}
use Rattle.wot_component.specs.Certificate.{Signature, Component, Certificate, sig_cmp, part_cmp}
use Rattle.wot_component.specs.Judged.{judged_sig, if_sound}

-- the first of the old ones and the rest, if the first has this one's rank
abbrev pub met : {A : Type 0} → (A → A → Ordering) → A → List A → Option (A × List A)
met R y [] = None
met R y (x ∷ xs) = if is_eq (R x y) then Some (x, xs) else None

abbrev pub marked_on : {A : Type 0} → (A → A → A) → (A → A) → Option (A × List A)
    → A → List A → (List A → List A) → List A
marked_on both only (Some found) y old others = both found.0 y ∷ others found.1
marked_on both only None y old others = only y ∷ others old

-- each of the list changed, by what was old at its rank or as a new one; the old ones are among them in order
abbrev pub marked_new : {A : Type 0} → (A → A → Ordering) → (A → A → A) → (A → A) → List A → List A → List A
marked_new R both only [] old = []
marked_new R both only (y ∷ ys) old = marked_on both only (met R y old) y old (marked_new R both only ys)

abbrev pub weighed_on : {A : Type 0} → (A → A → ℕ) → (A → ℕ) → Option (A × List A) → A → List A → (List A → ℕ) → ℕ
weighed_on both only (Some found) y old others = both found.0 y + others found.1
weighed_on both only None y old others = only y + others old

-- what each of the list weighs, by what was old at its rank or as a new one
abbrev pub weighed_new : {A : Type 0} → (A → A → Ordering) → (A → A → ℕ) → (A → ℕ) → List A → List A → ℕ
weighed_new R both only [] old = 0
weighed_new R both only (y ∷ ys) old = weighed_on both only (met R y old) y old (weighed_new R both only ys)

-- ---- marking what is new

abbrev pub stays : Signature → Signature → Signature
stays old new = new

abbrev pub judged_sigs : PolicyRows → List Signature → List Signature → List Signature
judged_sigs rows = marked_new sig_cmp stays (judged_sig rows)

abbrev pub none : Signature → Signature → ℕ
none old new = 0

-- how many of the new ones are well-formed
abbrev pub sound_new : List Signature → List Signature → ℕ
sound_new = weighed_new sig_cmp none if_sound

abbrev pub judged_part : PolicyRows → List Signature → Component → Component
judged_part rows old p = record { body = p.body; sigs = judged_sigs rows p.sigs old }

abbrev pub judged_parts : PolicyRows → List Component → List Component → List Component
judged_parts rows =
    marked_new part_cmp (λ (old : Component) (new : Component). judged_part rows old.sigs new) (judged_part rows [])

abbrev pub sound_new_on : List Component → List Component → ℕ
sound_new_on =
    weighed_new part_cmp (λ (old : Component) (new : Component). sound_new new.sigs old.sigs)
    (λ (p : Component). sound_new p.sigs [])

-- If `first` is the first of the new items it becomes `made`, and `left` of the old items are left for those after it.
abbrev pub MarksFirst : {A : Type 0} → (List A → List A → List A) → A → A → List A → List A → Type 0
MarksFirst {A} marked first made old left = (rest : List A) → marked (first ∷ rest) old ≡ made ∷ marked rest left

-- If `first` is the first of the new items it weighs `k`, and `left` of the old items are left for those after it.
abbrev pub WeighsFirst : {A : Type 0} → (List A → List A → ℕ) → A → List A → List A → ℕ → Type 0
WeighsFirst {A} weighed first old left k = (rest : List A) → weighed (first ∷ rest) old ≡ k + weighed rest left

-- the certificate with the signatures marked that the old one doesn't have
abbrev pub judged_beside : PolicyRows → Certificate → Certificate → Certificate
judged_beside rows old c = record {
  key = c.key;
  direct = judged_sigs rows c.direct old.direct;
  user_ids = judged_parts rows c.user_ids old.user_ids;
  attributes = judged_parts rows c.attributes old.attributes;
  subkeys = judged_parts rows c.subkeys old.subkeys;
}

-- how many of those are well-formed
abbrev pub sound_beside : Certificate → Certificate → ℕ
sound_beside old c =
    sound_new c.direct old.direct + sound_new_on c.user_ids old.user_ids
    + sound_new_on c.attributes old.attributes + sound_new_on c.subkeys old.subkeys
