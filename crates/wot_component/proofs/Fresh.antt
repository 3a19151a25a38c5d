-- A new component, marked.
use Rattle.std.proofs.Common.{◌≡◌, ℕ, ◌+◌, List, [], ◌∷◌, map, refl, ap, ◌∙◌, arith}
use Rattle.wot_policy.specs.declared.rows.PolicyRows.{PolicyRows}
use Rattle.wot_component.specs.declared.sig.Marks.TheVariants.{Dropped}
use Rattle.wot_component.specs.Certificate.{Component, Signature, part_with}
use Rattle.wot_component.specs.Copied.{copied}
use Rattle.wot_component.specs.Counts.{sum_of}
use Rattle.wot_component.specs.Growing.{sound_weight}
use Rattle.wot_component.specs.Judged.{if_sound, judged_sig}
use Rattle.wot_component.specs.New.{judged_part, judged_sigs, sound_new}
use Rattle.wot_component.specs.Sizes.{part_items, part_signatures, part_size, sig_size, own_size}

judged_all : (rows : PolicyRows) (sigs : List Signature)
    → judged_sigs rows (map (copied Dropped) sigs) [] ≡ map (judged_sig rows) sigs
judged_all rows [] = refl
judged_all rows (s ∷ sigs) = ap (λ ss. judged_sig rows s ∷ ss) (judged_all rows sigs)

pub fresh_judged : (rows : PolicyRows) (p : Component)
    → judged_part rows [] (part_with (copied Dropped) p) ≡ part_with (judged_sig rows) p
fresh_judged rows p = ap (λ (sigs : List Signature). record { body = p.body; sigs = sigs }) (judged_all rows p.sigs)

sound_all : (sigs : List Signature) → sound_new (map (copied Dropped) sigs) [] ≡ sum_of if_sound sigs
sound_all [] = refl
sound_all (s ∷ sigs) = ap (λ n. if_sound s + n) (sound_all sigs)

pub judged_weight : (w : Signature → ℕ) (rows : PolicyRows) → ((s : Signature) → w (judged_sig rows s) ≡ w s)
    → (sigs : List Signature) → sum_of w (map (judged_sig rows) sigs) ≡ sum_of w sigs
judged_weight w rows e [] = refl
judged_weight w rows e (s ∷ sigs) = λ i. e s i + judged_weight w rows e sigs i

from_zero : (n m k : ℕ) → k ≡ n → m ≡ n → 0 + m ≡ k
from_zero n m k h e = omega arith

pub fresh_sound : (rows : PolicyRows) (p : Component) (k : ℕ) → k ≡ sound_new (map (copied Dropped) p.sigs) []
    → sound_weight (part_with (judged_sig rows) p) ≡ k
fresh_sound rows p k e = from_zero _ _ k (e ∙ sound_all p.sigs) (judged_weight if_sound rows (λ s. refl) p.sigs)

pub fresh_items : (rows : PolicyRows) (p : Component) → part_items (part_with (judged_sig rows) p) ≡ part_items p
fresh_items rows p = ap (λ n. 1 + n) (judged_weight (λ _. 1) rows (λ s. refl) p.sigs)

pub fresh_signatures : (rows : PolicyRows) (p : Component)
    → part_signatures (part_with (judged_sig rows) p) ≡ part_signatures p
fresh_signatures rows p = ap (λ n. 0 + n) (judged_weight (λ _. 1) rows (λ s. refl) p.sigs)

pub fresh_size : (rows : PolicyRows) (p : Component) → part_size (part_with (judged_sig rows) p) ≡ part_size p
fresh_size rows p = ap (λ n. own_size p + n) (judged_weight sig_size rows (λ s. refl) p.sigs)
