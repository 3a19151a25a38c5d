-- What is decidable by trying all elements of finite lists.
use Rattle.std.proofs.Common.{◌≡◌, ◌⊎◌, inl, inr, ℕ, ◌≤◌, Bool, true, false, List, [], ◌∷◌, refl, sym, subst, arith}
use Rattle.std.proofs.lemmas.Bool.{cases_lt}
use Rattle.wot_edge.specs.Record.{Has}

-- it holds, or it doesn't
abbrev pub Dec : Type 0 → Type 0
Dec P = P ⊎ (P → ⊥)

pub record Both (P Q : Type 0) : Type 0 where
  pub one : P
  pub two : Q

pub both : {P Q : Type 0} → Dec P → Dec Q → Dec (Both P Q)
both (inl p) (inl q) = inl (record { one = p; two = q })
both (inl p) (inr n) = inr (λ b. n b.two)
both (inr n) d = inr (λ b. n b.one)

-- one decides the other
pub decided : {P Q : Type 0} → (P → Q) → (Q → P) → Dec P → Dec Q
decided f g (inl p) = inl (f p)
decided f g (inr n) = inr (λ q. n (g q))

pub is_so : (b : Bool) → Dec (b ≡ true)
is_so true = inl refl
is_so false = inr (λ e. absurd cc)

pub at_most : (a b : ℕ) → Dec (a ≤ b)
at_most a b = elim (cases_lt b a) [ inl lt ↦ inr (λ le. omega (arith, le, lt)) | inr le ↦ inl le ]

-- an element of the list for which it holds
pub record Found {X : Type 0} (P : X → Type 0) (xs : List X) : Type 0 where
  pub it : X
  pub there : Has xs it
  pub so : P it

pub find : {X : Type 0} (P : X → Type 0) → ((x : X) → Dec (P x)) → (xs : List X) → Dec (Found P xs)
find P dec [] = inr (λ f. f.there)
find {X} P dec (x ∷ xs) = by (dec x) (find P dec xs)
  where
    by : Dec (P x) → Dec (Found P xs) → Dec (Found P (x ∷ xs))
    by (inl p) d = inl (record { it = x; there = inl refl; so = p })
    by (inr n) (inl f) = inl (record { it = f.it; there = inr f.there; so = f.so })
    by (inr n) (inr m) = inr none
      where
        none : Found P (x ∷ xs) → ⊥
        none f = elim f.there [ inl e ↦ n (subst P e f.so) | inr h ↦ m (record { it = f.it; there = h; so = f.so }) ]

-- it holds for each element
pub all : {X : Type 0} (P : X → Type 0) → ((x : X) → Dec (P x)) → (xs : List X) → Dec ((x : X) → Has xs x → P x)
all P dec [] = inl (λ x h. absurd h)
all {X} P dec (x ∷ xs) = by (dec x) (all P dec xs)
  where
    by : Dec (P x) → Dec ((y : X) → Has xs y → P y) → Dec ((y : X) → Has (x ∷ xs) y → P y)
    by (inl p) (inl f) = inl (λ y h. elim h [ inl e ↦ subst P (sym e) p | inr k ↦ f y k ])
    by (inl p) (inr n) = inr (λ f. n (λ y h. f y (inr h)))
    by (inr n) d = inr (λ f. n (f x (inl refl)))
