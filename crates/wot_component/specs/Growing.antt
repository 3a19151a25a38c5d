-- How lists of signatures and components grow in place, and how that is taken back.
use Rattle.std.specs.Prelude.{◌≡◌, ◌≤◌, ◌<◌, ℕ, zero, suc, List, [], ◌∷◌, length, slice_index_or, slice_set, map}
use Rattle.std.specs.Prelude.{Result, Ok, Err}
use Rattle.std.specs.List.{insert, remove}
use Rattle.std.specs.declared.cmp.Ordering.{Ordering}
use Rattle.wot_policy.specs.declared.policy.Policy.{Policy}
use Rattle.wot_policy.specs.declared.rows.PolicyRows.{PolicyRows}
use Rattle.wot_policy.specs.Kept.{rows_of}
use Rattle.wot_component.specs.declared.growth.PartStep.{PartStep}
use Rattle.wot_component.specs.declared.growth.PartStep.TheVariants.{New, Grown}
use Rattle.wot_component.specs.Asking.{AsksUpTo}
use Rattle.wot_component.specs.Certificate.{Signature, Component, part_cmp, part_with}
use Rattle.wot_component.specs.Certificate.{unite_part, unite_parts, unite_sigs}
use Rattle.wot_component.specs.Counts.{part_weight, sum_of}
use Rattle.wot_component.specs.Judged.{if_sound, judged_sig}
use Rattle.wot_component.specs.Ranked.{put}

-- ---- finding

-- The place of x in a sorted list: that of the item with its rank, or where it is inserted.
abbrev pub TellsPlace : {A : Type 0} → (A → A → Ordering) → (A → A → A) → A → List A → Result ℕ ℕ → Type 0
TellsPlace {A} R join x xs (Ok at) =
    (at < length xs) × ((d : A) → put R join x xs ≡ slice_set xs at (join (slice_index_or xs at d) x))
TellsPlace {A} R join x xs (Err at) = (at ≤ length xs) × (put R join x xs ≡ insert xs at x)

-- ---- taking back

-- the list without what was inserted at these places, removed from the last one on
abbrev pub without_all : {A : Type 0} → List ℕ → List A → List A
without_all [] xs = xs
without_all (at ∷ log) xs = remove (without_all log xs) at

-- the list with the item at a place changed
abbrev pub changed_at : {A : Type 0} → ℕ → (A → A) → List A → List A
changed_at at change [] = []
changed_at zero change (x ∷ xs) = change x ∷ xs
changed_at (suc at) change (x ∷ xs) = x ∷ changed_at at change xs

abbrev pub shrunk_part : List ℕ → Component → Component
shrunk_part log p = record { body = p.body; sigs = without_all log p.sigs }

abbrev pub step_back : PartStep → List Component → List Component
step_back (New at) ps = remove ps at
step_back (Grown at log) ps = changed_at at (shrunk_part log.items) ps

abbrev pub parts_back : List PartStep → List Component → List Component
parts_back [] ps = ps
parts_back (s ∷ log) ps = step_back s (parts_back log ps)

-- ---- merging with what the rows mark

-- the signatures merged with others, marked
abbrev pub sigs_grown : PolicyRows → List Signature → List Signature → List Signature
sigs_grown rows old more = unite_sigs old (map (judged_sig rows) more)

-- the parts with one more at its place, marked
abbrev pub parts_with : PolicyRows → List Component → Component → List Component
parts_with rows old part = put part_cmp unite_part (part_with (judged_sig rows) part) old

-- the parts merged with others, marked
abbrev pub parts_grown : PolicyRows → List Component → List Component → List Component
parts_grown rows old more = unite_parts old (map (part_with (judged_sig rows)) more)

-- ---- asking

-- how many signatures of a list are well-formed, and how many on a part
abbrev pub sound_sigs : List Signature → ℕ
sound_sigs sigs = sum_of if_sound sigs

abbrev pub sound_weight : Component → ℕ
sound_weight = part_weight if_sound (λ _. 0)

-- The policy is asked for what is new of these signatures.
abbrev pub AsksForSigs : {F T E : Type 0} → Result T E → Policy F → Policy F → List Signature → List Signature → Type 0
AsksForSigs result before after old more =
    AsksUpTo result before after (sound_sigs old) (sound_sigs (sigs_grown (rows_of before) old more))

-- The policy is asked for what is new of this part, or of these.
abbrev pub AsksForPart : {F T E : Type 0} → Result T E → Policy F → Policy F → List Component → Component → Type 0
AsksForPart result before after old part =
    AsksUpTo result before after (sum_of sound_weight old) (sum_of sound_weight (parts_with (rows_of before) old part))

abbrev pub AsksForParts : {F T E : Type 0} → Result T E → Policy F → Policy F → List Component → List Component → Type 0
AsksForParts result before after old more =
    AsksUpTo result before after (sum_of sound_weight old) (sum_of sound_weight (parts_grown (rows_of before) old more))
