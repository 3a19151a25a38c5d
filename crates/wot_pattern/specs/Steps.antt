-- How far a regular expression was read, level by level. Contracts of the parser's private functions name this, and
-- `Deciding` depends on it. The public laws relate it to the grammar, so a reader has to believe only the grammar.
use Rattle.std.specs.Prelude.{◌≡◌, ℕ, suc, ◌+◌, Bool, List, [], ◌∷◌, ◌++◌, length, drop, slice_index, Option, Some}
use Rattle.std.specs.Prelude.{None, is_some}
use Rattle.wot_pattern.specs.declared.mark.Mark.{Mark}
use Rattle.wot_pattern.specs.declared.mark.Mark.TheVariants as m
use Rattle.wot_pattern.specs.Marks.{mark_of}
use Rattle.wot_pattern.specs.Reading as r
use Rattle.wot_pattern.specs.Reading.{exactly, any, start, end, Reading, nothing, single, sequence, either, star, plus}
use Rattle.wot_pattern.specs.Reading.{optional}
use Rattle.wot_pattern.specs.Grammar.{Range}
use Rattle.wot_pattern.specs.Tokens.{Token, tokens}
use Rattle.wot_pattern.specs.Nodes.{tokens_of}
use Rattle.wot_pattern.specs.declared.builder.Builder.{Builder}
use Rattle.wot_pattern.specs.declared.builder.LastRead.{LastRead}
use Rattle.wot_pattern.specs.declared.builder.LastRead.TheVariants.{Nothing, Atom, Piece}
use Rattle.wot_pattern.specs.declared.builder.Operator.{Operator}
use Rattle.wot_pattern.specs.declared.builder.Operator.TheVariants as o

-- a level that waits for a closing parenthesis: its branches before the current one, and the current one
pub record Level : Type 0 where
  pub earlier : Option Reading
  pub branch : Reading

-- what was read last: an atom, to which an operator may still apply, or a whole piece
pub data Last : Type 0 where
  none : Last
  atom : Reading → Last
  piece : Reading → Last

pub record State : Type 0 where
  -- how many more levels may be opened
  pub levels : ℕ
  -- the levels around the current one, the innermost first
  pub outer : List Level
  pub earlier : Option Reading
  pub branch : Reading
  pub last : Last

abbrev pub at : ℕ → List Level → Option Reading → Reading → Last → State
at n fs e b l = record { levels = n; outer = fs; earlier = e; branch = b; last = l }

-- the branch with what was read last
abbrev pub flushed : Last → Reading → Reading
flushed none b = b
flushed (atom a) b = sequence b a
flushed (piece a) b = sequence b a

-- the branches, joined
abbrev pub joined : Option Reading → Reading → Reading
joined None b = b
joined (Some p) b = either p b

abbrev pub level_so_far : State → Reading
level_so_far s = joined s.earlier (flushed s.last s.branch)

abbrev pub with_atom : State → Reading → State
with_atom s a = at s.levels s.outer s.earlier (flushed s.last s.branch) (atom a)

abbrev pub entered : State → ℕ → State
entered s n = at n (record { earlier = s.earlier; branch = flushed s.last s.branch } ∷ s.outer) None nothing none

abbrev pub left : State → Level → List Level → State
left s f fs = at (suc s.levels) fs f.earlier f.branch (atom (level_so_far s))

abbrev pub barred : State → State
barred s = at s.levels s.outer (Some (level_so_far s)) nothing none

abbrev pub with_piece : State → Reading → State
with_piece s p = at s.levels s.outer s.earlier s.branch (piece p)

-- one step from a character with this mark
abbrev pub ParserStepBy : Mark → State → ℕ → List ℕ → State → List ℕ → Type 0
ParserStepBy m.Escape s c t s' t' = (d : ℕ) × (t ≡ d ∷ t') × (s' ≡ with_atom s (single (exactly d)))
ParserStepBy m.Bracket s c t s' t' = (a : r.Atom) × Range t a t' × (s' ≡ with_atom s (single a))
ParserStepBy m.Open s c t s' t' = (n : ℕ) × (s.levels ≡ suc n) × (t' ≡ t) × (s' ≡ entered s n)
ParserStepBy m.Close s c t s' t' = (f : Level) × (fs : List Level) × (s.outer ≡ f ∷ fs) × (t' ≡ t) × (s' ≡ left s f fs)
ParserStepBy m.Bar s c t s' t' = (t' ≡ t) × (s' ≡ barred s)
ParserStepBy m.Any s c t s' t' = (t' ≡ t) × (s' ≡ with_atom s (single any))
ParserStepBy m.Start s c t s' t' = (t' ≡ t) × (s' ≡ with_atom s (single start))
ParserStepBy m.End s c t s' t' = (t' ≡ t) × (s' ≡ with_atom s (single end))
ParserStepBy m.Star s c t s' t' = (a : Reading) × (s.last ≡ atom a) × (t' ≡ t) × (s' ≡ with_piece s (star a))
ParserStepBy m.Plus s c t s' t' = (a : Reading) × (s.last ≡ atom a) × (t' ≡ t) × (s' ≡ with_piece s (plus a))
ParserStepBy m.Optional s c t s' t' = (a : Reading) × (s.last ≡ atom a) × (t' ≡ t) × (s' ≡ with_piece s (optional a))
ParserStepBy m.Plain s c t s' t' = (t' ≡ t) × (s' ≡ with_atom s (single (exactly c)))

abbrev pub ParserStep : State → List ℕ → State → List ℕ → Type 0
ParserStep s [] s' t' = ⊥
ParserStep s (c ∷ t) s' t' = ParserStepBy (mark_of c) s c t s' t'

-- From this state the text is read to its end, and the whole says this.
pub data Runs : State → List ℕ → Reading → Type 0 where
  accepted : {s : State} {p : Reading} → s.outer ≡ [] → level_so_far s ≡ p → Runs s [] p
  next : {s s' : State} {t t' : List ℕ} {p : Reading} → ParserStep s t s' t' → Runs s' t' p → Runs s t p

-- the nodes of a level
abbrev pub level_tokens : Option Reading → Reading → List Token
level_tokens None b = tokens b
level_tokens (Some p) b = tokens p ++ tokens b

abbrev pub outer_tokens : List Level → List Token
outer_tokens [] = []
outer_tokens (f ∷ fs) = outer_tokens fs ++ level_tokens f.earlier f.branch

abbrev pub last_tokens : Last → List Token
last_tokens none = []
last_tokens (atom a) = tokens a
last_tokens (piece p) = tokens p

abbrev pub state_tokens : State → List Token
state_tokens s = outer_tokens s.outer ++ (level_tokens s.earlier s.branch ++ last_tokens s.last)

abbrev pub last_read : Last → LastRead
last_read none = Nothing
last_read (atom a) = Atom
last_read (piece p) = Piece

-- whether there is a branch before the current one, the outermost level first
abbrev pub outer_flags : List Level → List Bool
outer_flags [] = []
outer_flags (f ∷ fs) = outer_flags fs ++ is_some f.earlier ∷ []

-- the builder has come this far
pub record Builds (b : Builder) (s : State) : Type 0 where
  pub nodes : tokens_of b.nodes.items ≡ state_tokens s
  pub outer : b.outer.items ≡ outer_flags s.outer
  pub earlier : b.earlier ≡ is_some s.earlier
  pub last : b.last ≡ last_read s.last
  pub levels : s.levels + length s.outer ≡ 64

-- the builder has come this far, with what was read last in the branch
abbrev pub flat : State → State
flat s = at s.levels s.outer s.earlier (flushed s.last s.branch) none

-- what an operator makes of an atom
abbrev pub applied : Operator → Reading → Reading
applied o.Star a = star a
applied o.Plus a = plus a
applied o.Optional a = optional a

abbrev pub fresh : ℕ → List Level → State
fresh n fs = at n fs None nothing none

-- ---- what a builder does, from each state that it has come to

-- the branches of the current level are joined
abbrev pub IsJoined : Builder → Builder → Type 0
IsJoined old new =
    (s : State) → Builds old s → tokens_of new.nodes.items ≡ outer_tokens s.outer ++ tokens (level_so_far s)

-- a level is entered
abbrev pub Enters : Builder → Builder → Type 0
Enters old new = (s : State) → Builds old s → (n : ℕ) × (s.levels ≡ suc n) × Builds new (entered s n)

-- a level is left
abbrev pub Leaves : Builder → Builder → Type 0
Leaves old new =
    (s : State) → Builds old s → (f : Level) × (fs : List Level) × (s.outer ≡ f ∷ fs) × Builds new (left s f fs)

-- an operator is applied to the atom that was read last
abbrev pub Applies : Operator → Builder → Builder → Type 0
Applies operator old new =
    (s : State) → Builds old s → (a : Reading) × (s.last ≡ atom a) × Builds new (with_piece s (applied operator a))

-- a step is taken by the character at i, which has this mark, and the rest of the text begins at j
abbrev pub StepsTo : Mark → List ℕ → ℕ → ℕ → Builder → Builder → Type 0
StepsTo mark text i j old new =
    (s : State) → Builds old s
    → (s' : State) × ParserStepBy mark s (slice_index text i) (drop (i + 1) text) s' (drop j text) × Builds new s'

-- no step can be taken there
abbrev pub NoStep : Mark → List ℕ → ℕ → Builder → Type 0
NoStep mark text i old =
    (s s' : State) (t : List ℕ) → Builds old s
    → ParserStepBy mark s (slice_index text i) (drop (i + 1) text) s' t → ⊥
