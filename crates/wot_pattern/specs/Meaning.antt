-- What a regular expression means: a relation between it, a text and two positions in the text, from and to. Position k
-- is before the text's character k, counted from 0.
use Rattle.std.specs.Prelude.{◌≡◌, ℕ, zero, suc, ◌+◌, ◌≤◌, ◌⊎◌, true, false, List, [], ◌∷◌, length, Some, slice_get}
use Rattle.wot_pattern.specs.declared.item.Item.{Item}
use Rattle.wot_pattern.specs.Reading.{Atom, exactly, any, start, end, range, Reading, nothing, single, sequence, either}
use Rattle.wot_pattern.specs.Reading.{star, plus, optional}

-- n repetitions, one after another
abbrev pub Repeats : (ℕ → ℕ → Type 0) → ℕ → ℕ → ℕ → Type 0
Repeats repeat zero from to = from ≡ to
Repeats repeat (suc n) from to = (mid : ℕ) × repeat from mid × Repeats repeat n mid to

-- the character is in one of the items
abbrev pub InItems : ℕ → List Item → Type 0
InItems c [] = ⊥
InItems c (x ∷ xs) = ((x.from ≤ c) × (c ≤ x.to)) ⊎ InItems c xs

-- The atom takes this character; `^` and `$` take none.
abbrev pub Takes : Atom → ℕ → Type 0
Takes (exactly d) c = c ≡ d
Takes any c = Unit {0}
Takes start c = ⊥
Takes end c = ⊥
Takes (range false items) c = InItems c items
Takes (range true items) c = InItems c items → ⊥

-- the text has a character between these two positions, and the atom takes it
abbrev pub OneTaken : Atom → List ℕ → ℕ → ℕ → Type 0
OneTaken a text from to = (to ≡ from + 1) × ((c : ℕ) × (slice_get text from ≡ Some c) × Takes a c)

abbrev pub AtomHolds : List ℕ → Atom → ℕ → ℕ → Type 0
AtomHolds text start from to = (from ≡ 0) × (to ≡ 0)
AtomHolds text end from to = (from ≡ length text) × (to ≡ length text)
AtomHolds text a from to = OneTaken a text from to

abbrev pub Holds : List ℕ → Reading → ℕ → ℕ → Type 0
Holds text nothing from to = from ≡ to
Holds text (single a) from to = AtomHolds text a from to
Holds text (sequence p q) from to = (mid : ℕ) × Holds text p from mid × Holds text q mid to
Holds text (either p q) from to = Holds text p from to ⊎ Holds text q from to
Holds text (star p) from to = (n : ℕ) × Repeats (Holds text p) n from to
Holds text (plus p) from to = (n : ℕ) × Repeats (Holds text p) (suc n) from to
Holds text (optional p) from to = (from ≡ to) ⊎ Holds text p from to

-- the expression matches between some two positions of the text
abbrev pub Matches : List ℕ → Reading → Type 0
Matches text reading = (from : ℕ) × (to : ℕ) × (from ≤ length text) × (to ≤ length text) × Holds text reading from to
