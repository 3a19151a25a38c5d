-- The matcher's two passes over the nodes at one position of the text. Contracts of its private functions name this,
-- and no definition depends on it: a reader has to believe the meaning alone.
use Rattle.std.specs.Prelude.{ℕ, Bool, true, false, ◌&&◌, ◌||◌, List, [], ◌∷◌, ◌++◌}
use Rattle.wot_pattern.specs.declared.flow.Flow.{Flow}
use Rattle.wot_pattern.specs.MeaningTest.{takes}
use Rattle.wot_pattern.specs.Reading.{Atom, start, end}
use Rattle.wot_pattern.specs.Tokens.{Token, nothing, single, sequence, either, star, plus, optional}

abbrev pub flow : Bool → Bool → Flow
flow empty ended = record { empty = empty; ended = ended }

abbrev pub no_flow : Flow
no_flow = flow false false

-- the top of a stack, or d if the stack is empty, and what is below it
abbrev pub top_or : {A : Type 0} → A → List A → A
top_or d [] = d
top_or d (x ∷ xs) = x

abbrev pub below : {A : Type 0} → List A → List A
below [] = []
below (x ∷ xs) = xs

abbrev pub top : List Flow → Flow
top fs = top_or no_flow fs

abbrev pub top_mark : List Bool → Bool
top_mark bs = top_or false bs

-- the atom matches the empty text at a position, which may be the text's first or its last
abbrev pub holds_empty : Bool → Bool → Atom → Bool
holds_empty first last start = first
holds_empty first last end = last
holds_empty first last a = false

-- A node's slot and the flows of the trees that stand ready, the last one first. Of a sequence and of a loop the slot
-- keeps the flow of the first tree in it, and of an atom, whether it ended here.
abbrev pub settled_one : Bool → Bool → Token → Flow → List Flow → Flow × List Flow
settled_one first last nothing f st = (f, flow true false ∷ st)
settled_one first last (single a) f st = (f, flow (holds_empty first last a) f.ended ∷ st)
settled_one first last sequence f st = (
  top (below st),
  flow ((top (below st)).empty && (top st).empty) ((top st).ended
      || ((top (below st)).ended && (top st).empty)) ∷ below (below st),
)
settled_one first last either f st =
    (f, flow ((top (below st)).empty || (top st).empty) ((top (below st)).ended || (top st).ended) ∷ below (below st))
settled_one first last star f st = (top st, flow true (top st).ended ∷ below st)
settled_one first last plus f st = (top st, top st ∷ below st)
settled_one first last optional f st = (f, flow true (top st).ended ∷ below st)

-- the nodes from the first to the last
abbrev pub settled : Bool → Bool → List Token → List Flow → List Flow → List Flow × List Flow
settled first last [] fs st = ([], st)
settled first last (t ∷ ts) [] st = ([], st)
settled first last (t ∷ ts) (f ∷ fs) st =
    let one = settled_one first last t f st in
    let rest = settled first last ts fs one.1 in
    (one.0 ∷ rest.0, rest.1)

-- A node's slot, and whether the trees that are still to come may begin at this position.
abbrev pub advanced_one : ℕ → Token → Flow → List Bool → Flow × List Bool
advanced_one c nothing f st = (f, below st)
advanced_one c (single a) f st = (flow false (top_mark st && takes a c), below st)
advanced_one c sequence f st = (f, (f.ended || (top_mark st && f.empty)) ∷ top_mark st ∷ below st)
advanced_one c either f st = (f, top_mark st ∷ top_mark st ∷ below st)
advanced_one c star f st = (f, (top_mark st || f.ended) ∷ below st)
advanced_one c plus f st = (f, (top_mark st || f.ended) ∷ below st)
advanced_one c optional f st = (f, top_mark st ∷ below st)

-- the nodes from the last to the first
abbrev pub advanced : ℕ → List Token → List Flow → List Bool → List Flow × List Bool
advanced c [] fs st = ([], st)
advanced c (t ∷ ts) [] st = ([], st)
advanced c (t ∷ ts) (f ∷ fs) st =
    let rest = advanced c ts fs st in
    let one = advanced_one c t f rest.1 in
    (one.0 ∷ rest.0, one.1)

abbrev pub behind : {A : Type 0} → List Flow → List Flow × A → List Flow × A
behind fs r = (fs ++ r.0, r.1)
