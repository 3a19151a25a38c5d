-- Undoing insertions.
use Rattle.std.proofs.Common.{◌≡◌, ℕ, zero, suc, ◌<◌, ◌≤◌, List, [], ◌∷◌, ◌++◌, length, get_or, set, refl, sym, ap, ◌∙◌}
use Rattle.std.proofs.Common.{arith}
use Rattle.std.specs.List.{AllByRecursion, remove}
use Rattle.std.specs.declared.cmp.Ordering.{Ordering}
use Rattle.wot_component.specs.declared.growth.PartStep.{PartStep}
use Rattle.wot_component.specs.Certificate.{Component}
use Rattle.wot_component.specs.Growing.{without_all, changed_at, step_back, parts_back}
use Rattle.wot_component.specs.Ranked.{IsRising}

pub back_last : {A : Type 0} (log : List ℕ) (at : ℕ) (xs : List A)
    → without_all (log ++ at ∷ []) xs ≡ without_all log (remove xs at)
back_last [] at xs = refl
back_last (n ∷ log) at xs = ap (λ ys. remove ys n) (back_last log at xs)

pub back_on : {A : Type 0} (first now log : List ℕ) (at : ℕ) (xs ys zs : List A)
    → without_all now xs ≡ without_all first zs → now ≡ log ++ at ∷ [] → ys ≡ remove xs at
    → without_all log ys ≡ without_all first zs
back_on first now log at xs ys zs h e f =
    ap (without_all log) f ∙ sym (back_last log at xs) ∙ ap (λ l. without_all l xs) (sym e) ∙ h

pub parts_last : (log : List PartStep) (s : PartStep) (ps : List Component)
    → parts_back (log ++ s ∷ []) ps ≡ parts_back log (step_back s ps)
parts_last [] s ps = refl
parts_last (t ∷ log) s ps = ap (step_back t) (parts_last log s ps)

pub parts_on : (first now log : List PartStep) (s : PartStep) (ps qs zs : List Component)
    → parts_back now ps ≡ parts_back first zs → now ≡ log ++ s ∷ [] → qs ≡ step_back s ps
    → parts_back log qs ≡ parts_back first zs
parts_on first now log s ps qs zs h e f =
    ap (parts_back log) f ∙ sym (parts_last log s ps) ∙ ap (λ l. parts_back l ps) (sym e) ∙ h

-- ---- one item changed

pub changed_is : {A : Type 0} (at : ℕ) (change : A → A) (xs : List A) (d : A) → at < length xs
    → changed_at at change xs ≡ set xs at (change (get_or xs at d))
changed_is at change [] d h = absurd (none at h)
  where
    none : (n : ℕ) → n < 0 → ⊥
    none n h = omega arith
changed_is zero change (x ∷ xs) d h = refl
changed_is (suc at) change (x ∷ xs) d h = ap (λ ys. x ∷ ys) (changed_is at change xs d (less at (length xs) h))
  where
    less : (n m : ℕ) → suc n < suc m → n < m
    less n m h = omega arith

pub changed_none : {A : Type 0} (at : ℕ) (change : A → A) (xs : List A) → length xs ≤ at → changed_at at change xs ≡ xs
changed_none at change [] h = refl
changed_none zero change (x ∷ xs) h = absurd (none (length xs) h)
  where
    none : (n : ℕ) → suc n ≤ 0 → ⊥
    none n h = omega arith
changed_none (suc at) change (x ∷ xs) h = ap (λ ys. x ∷ ys) (changed_none at change xs (less (length xs) at h))
  where
    less : (n m : ℕ) → suc n ≤ suc m → n ≤ m
    less n m h = omega arith

-- ---- what stays true

pub all_removed : {A : Type 0} (P : A → Type 0) (at : ℕ) (xs : List A) → AllByRecursion P xs
    → AllByRecursion P (remove xs at)
all_removed P zero [] h = tt
all_removed P (suc at) [] h = tt
all_removed P zero (x ∷ xs) h = h.1
all_removed P (suc at) (x ∷ xs) h = (h.0, all_removed P at xs h.1)

pub rising_removed : {A : Type 0} (R : A → A → Ordering) (at : ℕ) (xs : List A) → IsRising R xs
    → IsRising R (remove xs at)
rising_removed R zero [] h = tt
rising_removed R (suc at) [] h = tt
rising_removed R zero (x ∷ xs) h = h.1
rising_removed R (suc at) (x ∷ xs) h = (all_removed _ at xs h.0, rising_removed R at xs h.1)

pub rising_without : {A : Type 0} (R : A → A → Ordering) (log : List ℕ) (xs : List A) → IsRising R xs
    → IsRising R (without_all log xs)
rising_without R [] xs h = h
rising_without R (at ∷ log) xs h = rising_removed R at (without_all log xs) (rising_without R log xs h)
