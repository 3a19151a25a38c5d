-- What inserting an item at an index changes.
use Rattle.std.proofs.Common.{◌≡◌, ℕ, zero, suc, ◌+◌, ◌-◌, ◌<◌, ◌≤◌, ◌^◌, min, List, [], ◌∷◌, ◌++◌, length, refl, sym}
use Rattle.std.proofs.Common.{ap, ◌∙◌, arith}
use Rattle.std.specs.Prelude.{slice_set}
use Rattle.std.specs.List.{insert, remove, slice_index_or}
use Rattle.wot_component.specs.declared.adds.Adds.{Adds}
use Rattle.wot_component.specs.declared.growth.PartStep.{PartStep}
use Rattle.wot_component.specs.declared.growth.PartStep.TheVariants.{New}
use Rattle.wot_component.specs.Certificate.{Component}
use Rattle.wot_component.specs.Counts.{sum_of}
use Rattle.wot_component.specs.Growing.{without_all, parts_back}
use Rattle.wot_component.specs.Totals.{Follow, WeighsCapped, IsCappedSum}
use Rattle.wot_component.proofs.Backs.{back_last, parts_last}

lower_le : (n m : ℕ) → suc n ≤ suc m → n ≤ m
lower_le n m h = omega arith

lower : (n m : ℕ) → suc n < suc m → n < m
lower n m h = omega arith

none : (n : ℕ) → n < 0 → ⊥
none n h = omega arith

none_le : (n : ℕ) → suc n ≤ 0 → ⊥
none_le n h = omega arith

pub removed : {A : Type 0} (xs : List A) (at : ℕ) (y : A) → at ≤ length xs → remove (insert xs at y) at ≡ xs
removed xs zero y h = refl
removed [] (suc at) y h = absurd (none_le at h)
removed (x ∷ xs) (suc at) y h = ap (λ zs. x ∷ zs) (removed xs at y (lower_le at (length xs) h))

pub set_same : {A : Type 0} (xs : List A) (at : ℕ) (d : A) → at < length xs
    → slice_set xs at (slice_index_or xs at d) ≡ xs
set_same [] at d h = absurd (none at h)
set_same (x ∷ xs) zero d h = refl
set_same (x ∷ xs) (suc at) d h = ap (λ zs. x ∷ zs) (set_same xs at d (lower at (length xs) h))

swapped : (a b s t : ℕ) → s ≡ b + t → a + s ≡ b + (a + t)
swapped a b s t h = omega arith

pub sum_insert : {A : Type 0} (m : A → ℕ) (xs : List A) (at : ℕ) (y : A) → at ≤ length xs
    → sum_of m (insert xs at y) ≡ m y + sum_of m xs
sum_insert m xs zero y h = refl
sum_insert m [] (suc at) y h = absurd (none_le at h)
sum_insert m (x ∷ xs) (suc at) y h = swapped (m x) (m y) _ _ (sum_insert m xs at y (lower_le at (length xs) h))

-- the log of one insertion undoes it
pub put_back : {A : Type 0} (log log' : List ℕ) (at : ℕ) (xs ys : List A) (y : A) → at ≤ length xs
    → log' ≡ log ++ at ∷ [] → ys ≡ insert xs at y → without_all log' ys ≡ without_all log xs
put_back log log' at xs ys y h e f =
    ap (λ l. without_all l ys) e ∙ back_last log at ys ∙ ap (λ zs. without_all log (remove zs at)) f
    ∙ ap (without_all log) (removed xs at y h)

pub put_part_back : (log log' : List PartStep) (at : ℕ) (xs ys : List Component) (y : Component) → at ≤ length xs
    → log' ≡ log ++ New at ∷ [] → ys ≡ insert xs at y → parts_back log' ys ≡ parts_back log xs
put_part_back log log' at xs ys y h e f =
    ap (λ l. parts_back l ys) e ∙ parts_last log (New at) ys ∙ ap (λ zs. parts_back log (remove zs at)) f
    ∙ ap (parts_back log) (removed xs at y h)

follows : (a e b n m w s : ℕ) → a ≡ min (n + s) (2 ^ 64 - 1) → e ≡ min w (2 ^ 64 - 1) → b ≡ min (a + e) (2 ^ 64 - 1)
    → m ≡ w + s → b ≡ min (n + m) (2 ^ 64 - 1)
follows a e b n m w s h k l f = omega arith

module _ {A : Type 0} (wi ws wo : A → ℕ) where
  -- totals with what an item weighs follow the list in which it, or one as heavy, was inserted
  pub follow_insert : (a more b : Adds) (x y : A) (xs ys : List A) (at : ℕ) → WeighsCapped wi ws wo more x
      → IsCappedSum b a more → at ≤ length xs → ys ≡ insert xs at y → wi y ≡ wi x → ws y ≡ ws x → wo y ≡ wo x
      → Follow wi ws wo a b xs ys
  follow_insert a more b x y xs ys at w s h e i j k = record {
    items = λ before l. follows a.items more.items b.items before _ (wi x) _ l w.items s.items
        (ap (sum_of wi) e ∙ sum_insert wi xs at y h ∙ ap (λ n. n + sum_of wi xs) i);
    signatures = λ before l. follows a.signatures more.signatures b.signatures before _ (ws x) _ l w.signatures
        s.signatures (ap (sum_of ws) e ∙ sum_insert ws xs at y h ∙ ap (λ n. n + sum_of ws xs) j);
    octets = λ before l. follows a.octets more.octets b.octets before _ (wo x) _ l w.octets s.octets
        (ap (sum_of wo) e ∙ sum_insert wo xs at y h ∙ ap (λ n. n + sum_of wo xs) k);
  }

pub sum_put : {A : Type 0} (m : A → ℕ) (xs ys : List A) (at : ℕ) (y : A) (k : ℕ) → at ≤ length xs → ys ≡ insert xs at y
    → m y ≡ k → k + sum_of m xs ≡ sum_of m ys
sum_put m xs ys at y k h e f = sym (ap (sum_of m) e ∙ sum_insert m xs at y h ∙ ap (λ n. n + sum_of m xs) f)
