-- What a text says as a regular expression, as a function. By the law `reading_is_told` it agrees with the relation
-- `Says`, so that code can decide what depends on it.
use Rattle.std.specs.Prelude.{ℕ, zero, suc, Bool, true, false, ◌==◌, nat_le, List, [], ◌∷◌, length, Option, Some, None}
use Rattle.std.specs.Prelude.{if◌then◌else◌}
use Rattle.std.specs.Option.{option_map, option_and_then}
use Rattle.wot_pattern.specs.declared.item.Item.{Item}
use Rattle.wot_pattern.specs.declared.mark.Mark.{Mark}
use Rattle.wot_pattern.specs.declared.mark.Mark.TheVariants as m
use Rattle.wot_pattern.specs.Marks.{mark_of}
use Rattle.wot_pattern.specs.Grammar.{item, first_item, closing_bracket, caret}
use Rattle.wot_pattern.specs.Reading.{Reading, exactly, any, start, end, range, single, star, plus, optional}
use Rattle.wot_pattern.specs.Reading as r
use Rattle.wot_pattern.specs.Steps.{Level, Last, none, atom, piece, State, with_atom, entered, left, barred, with_piece}
use Rattle.wot_pattern.specs.Steps.{level_so_far, fresh}

-- ---- ranges

abbrev pub behind_item : Item → Option (List Item × List ℕ) → Option (List Item × List ℕ)
behind_item x rest = option_map (λ (y : List Item × List ℕ). (x ∷ y.0, y.1)) rest

-- the items up to the closing bracket and what follows it, of at most this many characters
abbrev pub items_in : ℕ → List ℕ → Option (List Item × List ℕ)
items_in zero text = None
items_in (suc n) [] = None
items_in (suc n) (c ∷ text) =
    if c == closing_bracket then Some ([], text)
    else option_and_then (λ (x : Item × List ℕ). behind_item x.0 (items_in n x.1)) (item (c ∷ text))

abbrev pub as_range : Bool → List Item × List ℕ → r.Atom × List ℕ
as_range negated items = (range negated items.0, items.1)

abbrev pub range_of_items : Bool → List ℕ → Option (r.Atom × List ℕ)
range_of_items negated text =
    option_and_then
    (λ (x : Item × List ℕ). option_map (as_range negated) (behind_item x.0 (items_in (length x.1) x.1)))
    (first_item text)

-- the range after an opening bracket, and what follows it
abbrev pub range_in : List ℕ → Option (r.Atom × List ℕ)
range_in [] = None
range_in (c ∷ text) = if c == caret then range_of_items true text else range_of_items false (c ∷ text)

-- ---- one step

-- how far a text was read, and the rest
abbrev pub Far : Type 0
Far = State × List ℕ

abbrev pub escaped : State → List ℕ → Option Far
escaped s [] = None
escaped s (d ∷ text) = Some (with_atom s (single (exactly d)), text)

abbrev pub ranged : State → r.Atom × List ℕ → Far
ranged s found = (with_atom s (single found.0), found.1)

abbrev pub opened : ℕ → State → List ℕ → Option Far
opened zero s text = None
opened (suc n) s text = Some (entered s n, text)

abbrev pub closed : List Level → State → List ℕ → Option Far
closed [] s text = None
closed (f ∷ fs) s text = Some (left s f fs, text)

abbrev pub repeated : (Reading → Reading) → Last → State → List ℕ → Option Far
repeated operator none s text = None
repeated operator (atom a) s text = Some (with_piece s (operator a), text)
repeated operator (piece p) s text = None

-- one step from a character with this mark, if there is one
abbrev pub stepped : Mark → State → ℕ → List ℕ → Option Far
stepped m.Escape s c text = escaped s text
stepped m.Bracket s c text = option_map (ranged s) (range_in text)
stepped m.Open s c text = opened s.levels s text
stepped m.Close s c text = closed s.outer s text
stepped m.Bar s c text = Some (barred s, text)
stepped m.Any s c text = Some (with_atom s (single any), text)
stepped m.Start s c text = Some (with_atom s (single start), text)
stepped m.End s c text = Some (with_atom s (single end), text)
stepped m.Star s c text = repeated star s.last s text
stepped m.Plus s c text = repeated plus s.last s text
stepped m.Optional s c text = repeated optional s.last s text
stepped m.Plain s c text = Some (with_atom s (single (exactly c)), text)

-- ---- the whole text

abbrev pub finished : List Level → Reading → Option Reading
finished [] reading = Some reading
finished (f ∷ fs) reading = None

-- what the rest of a text makes of a state, in at most this many steps
abbrev pub run_from : ℕ → State → List ℕ → Option Reading
run_from n s [] = finished s.outer (level_so_far s)
run_from zero s (c ∷ text) = None
run_from (suc n) s (c ∷ text) = option_and_then (λ (far : Far). run_from n far.0 far.1) (stepped (mark_of c) s c text)

-- what a text says, if it is a regular expression
unfoldable pub pattern_of : List ℕ → Option Reading
pattern_of text = if nat_le (length text) 1024 then run_from (length text) (fresh 64 []) text else None
