-- Whether a regular expression matches a text, as a function. It is the meaning (`Meaning.antt`) word by word, with
-- every position and every number of repetitions within its bound. By the law `matching_is_told` it agrees with
-- `Matches`.
use Rattle.std.specs.Prelude.{ℕ, zero, suc, ◌+◌, Bool, true, false, ◌&&◌, ◌||◌, not, ◌==◌, nat_le, List, [], ◌∷◌}
use Rattle.std.specs.Prelude.{length, slice_get}
use Rattle.std.specs.List.{list_any, range_with_len}
use Rattle.std.specs.Option.{option_map_or}
use Rattle.wot_pattern.specs.declared.item.Item.{Item}
use Rattle.wot_pattern.specs.Reading.{Atom, exactly, any, start, end, range, Reading, nothing, single, sequence, either}
use Rattle.wot_pattern.specs.Reading.{star, plus, optional}

-- it holds at some position of the text
abbrev pub at_some_position : List ℕ → (ℕ → Bool) → Bool
at_some_position text test = list_any test (range_with_len 0 (length text + 1))

-- at most n repetitions, one after another
abbrev pub at_most_repeats : List ℕ → (ℕ → ℕ → Bool) → ℕ → ℕ → ℕ → Bool
at_most_repeats text repeat zero from to = from == to
at_most_repeats text repeat (suc n) from to =
    (from == to) || at_some_position text (λ mid. repeat from mid && at_most_repeats text repeat n mid to)

-- any number of repetitions: more of them than the text has characters would stand still
abbrev pub some_repeats : List ℕ → (ℕ → ℕ → Bool) → ℕ → ℕ → Bool
some_repeats text repeat from to = at_most_repeats text repeat (length text) from to

-- the character is in one of the items
abbrev pub in_items : ℕ → List Item → Bool
in_items c [] = false
in_items c (x ∷ xs) = (nat_le x.from c && nat_le c x.to) || in_items c xs

-- the atom takes the character; `^` and `$` take none
abbrev pub takes : Atom → ℕ → Bool
takes (exactly d) c = c == d
takes any c = true
takes start c = false
takes end c = false
takes (range false items) c = in_items c items
takes (range true items) c = not (in_items c items)

-- the text has a character between these two positions, and the atom takes it
abbrev pub one_taken : Atom → List ℕ → ℕ → ℕ → Bool
one_taken a text from to = (to == from + 1) && option_map_or (takes a) (slice_get text from) false

abbrev pub atom_holds : List ℕ → Atom → ℕ → ℕ → Bool
atom_holds text start from to = (from == 0) && (to == 0)
atom_holds text end from to = (from == length text) && (to == length text)
atom_holds text a from to = one_taken a text from to

abbrev pub holds : List ℕ → Reading → ℕ → ℕ → Bool
holds text nothing from to = from == to
holds text (single a) from to = atom_holds text a from to
holds text (sequence p q) from to = at_some_position text (λ mid. holds text p from mid && holds text q mid to)
holds text (either p q) from to = holds text p from to || holds text q from to
holds text (star p) from to = some_repeats text (holds text p) from to
holds text (plus p) from to =
    at_some_position text (λ mid. holds text p from mid && some_repeats text (holds text p) mid to)
holds text (optional p) from to = (from == to) || holds text p from to

-- whether a regular expression matches between some two positions of the text
unfoldable pub matches_in : Reading → List ℕ → Bool
matches_in reading text =
    at_some_position text (λ from. at_some_position text (λ to. holds text reading from to))
