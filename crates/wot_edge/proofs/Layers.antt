-- A search that always ends: by layers from the target, and then by amounts. It shows that each question has a next
-- path or none, and answers the worked questions.
use Rattle.std.specs.Prelude.{ℕ, zero, suc, ◌+◌, ◌&&◌, ◌||◌, nat_lt, nat_le, nat_eq, not, Bool, false, cond, List, []}
use Rattle.std.specs.Prelude.{◌∷◌, length, Option, Some, None}
use Rattle.std.specs.Ordering.{is_lt}
use Rattle.wot_types.specs.declared.fpr.Fpr.{Fpr}
use Rattle.wot_types.specs.Fpr.{same_fpr}
use Rattle.wot_edge.specs.declared.path.Step.{Step}
use Rattle.wot_edge.specs.Record.{Row, rows_into, entry_at}
use Rattle.wot_edge.specs.Path.{Question, Use, start, step_left, root_left, path_amount, step_of}
use Rattle.wot_edge.specs.Order.{steps_cmp}

-- a is shorter than b, or as long and less
abbrev pub is_better : List Step → List Step → Bool
is_better a b = nat_lt (length a) (length b) || (nat_eq (length a) (length b) && is_lt (steps_cmp a b))

-- one more trail, in place of a worse one from its issuer
abbrev pub kept : Fpr → List Step → List (List Step) → List (List Step)
kept target p [] = p ∷ []
kept target p (x ∷ xs) =
    cond (same_fpr (start target p) (start target x)) (cond (is_better p x) (p ∷ xs) (x ∷ xs)) (x ∷ kept target p xs)

abbrev pub is_place : Option ℕ → ℕ → Bool
is_place None uid = false
is_place (Some place) uid = nat_eq place uid

abbrev pub reaches : Question → Row → List Step → Bool
reaches q row [] = is_place (entry_at q.network q.target).place row.edge.uid
reaches q row (next ∷ rest) =
    nat_le (length (next ∷ rest)) row.edge.depth && (row.scope && not (same_fpr row.edge.issuer q.target))

abbrev pub serves : Question → Use → ℕ → Row → List Step → Bool
serves q used least row rest = row.usable && (nat_le least (step_left used (step_of row.edge)) && reaches q row rest)

-- each of the edges that serves before rest is kept with it
abbrev pub with_rows : Question → Use → ℕ → List Step → List Row → List (List Step) → List (List Step)
with_rows q used least rest [] found = found
with_rows q used least rest (row ∷ rows) found =
    with_rows q used least rest rows
    (cond (serves q used least row rest) (kept q.target (step_of row.edge ∷ rest) found) found)

abbrev pub grown : Question → Use → ℕ → ℕ → List (List Step) → List (List Step) → List (List Step)
grown q used least size [] found = found
grown q used least size (p ∷ ps) found =
    grown q used least size ps
    (cond (nat_eq (length p) size) (with_rows q used least p (rows_into q.network (start q.target p)) found) found)

abbrev pub better_of : List Step → Option (List Step) → List Step
better_of p None = p
better_of p (Some o) = cond (is_better p o) p o

-- the first of those that begin at a root with this much left
abbrev pub chosen : Question → Use → ℕ → List (List Step) → Option (List Step)
chosen q used least [] = None
chosen q used least (p ∷ ps) =
    cond (nat_le least (root_left q used (start q.target p))) (Some (better_of p (chosen q used least ps)))
    (chosen q used least ps)

abbrev pub first_or : Option (List Step) → Option (List Step) → Option (List Step)
first_or None other = other
first_or (Some steps) other = Some steps

-- the first rooted trail, given the trails found of at most `size` edges, with at most `n` layers more
unfoldable pub first_from : Question → Use → ℕ → ℕ → ℕ → List (List Step) → Option (List Step)
first_from q used least zero size found = chosen q used least found
first_from q used least (suc n) size found =
    first_or (chosen q used least found) (first_from q used least n (suc size) (grown q used least size found found))

abbrev pub first_layer : Question → Use → ℕ → List (List Step)
first_layer q used least = with_rows q used least [] (rows_into q.network q.target) []

abbrev pub first_of : Question → Use → ℕ → Option (List Step)
first_of q used least = first_from q used least 254 1 (first_layer q used least)

-- no root has more
abbrev pub total : List (Fpr × ℕ) → ℕ
total [] = 0
total (e ∷ es) = e.1 + total es

abbrev pub climbed_to : List Step → Option (List Step) → (List Step → List Step) → List Step
climbed_to steps None more = steps
climbed_to steps (Some other) more = cond (nat_le (length other) (length steps)) (more other) steps

-- the greatest amount from this one on, at this number of edges
unfoldable pub climbed : Question → Use → List Step → ℕ → List Step
climbed q used steps zero = steps
climbed q used steps (suc n) =
    climbed_to steps (first_of q used (path_amount q used steps + 1)) (λ more. climbed q used more n)

abbrev pub next_from : Question → Use → ℕ → Option (List Step) → Option (List Step)
next_from q used most None = None
next_from q used most (Some steps) = Some (climbed q used steps most)

-- the next path, if no root has more than `most`
abbrev pub next_of : ℕ → Question → Use → Option (List Step)
next_of most q used = cond (entry_at q.network q.target).in_order (next_from q used most (first_of q used 1)) None
