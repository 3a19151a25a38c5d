-- A merge in place: from the last item to the first.
use Rattle.std.proofs.Common.{◌≡◌, ℕ, ◌+◌, ◌≤◌, List, [], ◌∷◌, ◌++◌, map, refl, sym, ap, ◌∙◌, subst, arith}
use Rattle.std.specs.List.{AllByRecursion}
use Rattle.std.specs.declared.cmp.Ordering.{Ordering}
use Rattle.wot_component.specs.Counts.{sum_of}
use Rattle.wot_component.specs.Ranked.{put, united}
use Rattle.wot_component.proofs.Weights.{put_more, united_more}

pub all_front : {A : Type 0} (P : A → Type 0) (xs ys : List A) → AllByRecursion P (xs ++ ys) → AllByRecursion P xs
all_front P [] ys h = tt
all_front P (x ∷ xs) ys h = (h.0, all_front P xs ys h.1)

module _ {A : Type 0} (R : A → A → Ordering) (join : A → A → A) (change : A → A) where
  abbrev U : List A → List A → List A
  U xs ys = united R join xs (map change ys)

  -- the last one first
  united_last : (xs ys : List A) (y : A) → U xs (ys ++ y ∷ []) ≡ U (put R join (change y) xs) ys
  united_last xs [] y = refl
  united_last xs (z ∷ ys) y = ap (put R join (change z)) (united_last xs ys y)

  pub union_on : (now next first left rest all : List A) (y : A) → U now left ≡ U first all → left ≡ rest ++ y ∷ []
      → next ≡ put R join (change y) now → U next rest ≡ U first all
  union_on now next first left rest all y h e f =
      ap (λ (xs : List A). U xs rest) f ∙ sym (united_last now rest y) ∙ ap (U now) (sym e) ∙ h

  -- One further inserted item weighs no more than the whole merged list.
  pub put_within : (m : A → ℕ) → ((x y : A) → m x ≤ m (join x y)) → (now first left rest all : List A) (y : A)
      → U now left ≡ U first all → left ≡ rest ++ y ∷ [] → sum_of m (put R join (change y) now) ≤ sum_of m (U first all)
  put_within m least now first left rest all y h e =
      let w : U (put R join (change y) now) rest ≡ U first all =
      union_on now (put R join (change y) now) first left rest all y h e refl in
      subst (λ (xs : List A). sum_of m (put R join (change y) now) ≤ sum_of m xs) w
      (united_more R join m least (put R join (change y) now) (map change rest))

pub counted_on : (i j a b c : ℕ) → i + a ≡ b → j + b ≡ c → (i + j) + a ≡ c
counted_on i j a b c h k = omega arith

pub counted_up_to : (i j a b c d : ℕ) → i + a ≡ b → j + b ≤ c → c ≤ d → (i + j) + a ≤ d
counted_up_to i j a b c d h k l = omega arith

pub least_sum : (n : ℕ) → n ≤ n
least_sum n = omega arith

module _ {A : Type 0} (R : A → A → Ordering) (join : A → A → A) (m : A → ℕ) (least : (x y : A) → m x ≤ m (join x y))
  where
    chain : (a b c : ℕ) → a ≤ b → b ≤ c → a ≤ c
    chain a b c h k = omega arith

    pub put_then : (x : A) (xs : List A) (d : ℕ) → sum_of m (put R join x xs) ≤ d → sum_of m xs ≤ d
    put_then x xs d h = chain _ _ _ (put_more R join m least x xs) h

pub no_less : (i j a b c d : ℕ) → i + a ≡ b → j + b ≡ c → c ≡ b → b ≤ d → (i + j) + a ≤ d
no_less i j a b c d h k l m = omega arith

zero_more : (n d : ℕ) → n ≤ d → 0 + n ≤ d
zero_more n d h = omega arith

module _ {A : Type 0} (R : A → A → Ordering) (join : A → A → A) (m : A → ℕ) (least : (x y : A) → m x ≤ m (join x y))
  where
    -- asking nothing stays within the bound
    pub none_asked : (x : A) (xs : List A) → 0 + sum_of m xs ≤ sum_of m (put R join x xs)
    none_asked x xs = zero_more _ _ (put_more R join m least x xs)
