-- The grammar of regular expressions (RFC 9580, section 8). A text is the list of its characters' code points. Each
-- form is at the beginning of a text, and leaves a rest.
use Rattle.std.specs.Prelude.{◌≡◌, ◌≢◌, ℕ, suc, ◌≤◌, ◌==◌, Bool, true, false, not, ◌&&◌, nat_le, if◌then◌else◌}
use Rattle.std.specs.Prelude.{List, [], ◌∷◌, ◌++◌, length, Option, Some, None}
use Rattle.wot_pattern.specs.declared.item.Item.{Item}
use Rattle.wot_pattern.specs.declared.mark.Mark.TheVariants.{Escape, Bracket, Open, Close, Bar, Any, Start, End, Star}
use Rattle.wot_pattern.specs.declared.mark.Mark.TheVariants.{Plus, Optional, Plain}
use Rattle.wot_pattern.specs.Marks.{mark_of}
use Rattle.wot_pattern.specs.Reading.{Atom, exactly, any, start, end, range, Reading, nothing, single, sequence, either}
use Rattle.wot_pattern.specs.Reading.{star, plus, optional}

abbrev pub dash : ℕ
dash = 45

abbrev pub caret : ℕ
caret = 94

abbrev pub closing_bracket : ℕ
closing_bracket = 93

-- the code points from one to the other, both included
abbrev pub from_to : ℕ → ℕ → Item
from_to c d = record { from = c; to = d }

-- An item of a range, which begins with any character, and the rest. If a dash follows and then a character other than
-- the closing bracket, the item goes from the one to the other, which isn't less. Otherwise the character stands for
-- itself.
abbrev pub item : List ℕ → Option (Item × List ℕ)
item [] = None
item (c ∷ []) = Some (from_to c c, [])
item (c ∷ h ∷ []) = Some (from_to c c, h ∷ [])
item (c ∷ h ∷ d ∷ rest) =
    if (h == dash) && not (d == closing_bracket)
    then (if nat_le c d then Some (from_to c d, rest) else None)
    else Some (from_to c c, h ∷ d ∷ rest)

-- The first item of a range: a dash there stands for itself.
abbrev pub first_item : List ℕ → Option (Item × List ℕ)
first_item [] = None
first_item (c ∷ rest) = if c == dash then Some (from_to c c, rest) else item (c ∷ rest)

-- The items after the first, up to the closing bracket and with it. None of them begins with that character.
pub data Items : List ℕ → List Item → List ℕ → Type 0 where
  closed : {c : ℕ} {rest : List ℕ} → c ≡ closing_bracket → Items (c ∷ rest) [] rest
  more :
      {c : ℕ} {t u rest : List ℕ} {x : Item} {xs : List Item}
      → c ≢ closing_bracket → item (c ∷ t) ≡ Some (x, u) → Items u xs rest → Items (c ∷ t) (x ∷ xs) rest

-- A range, after its opening bracket: a caret right there negates it.
pub data Range : List ℕ → Atom → List ℕ → Type 0 where
  negated :
      {c : ℕ} {t u rest : List ℕ} {x : Item} {xs : List Item}
      → c ≡ caret → first_item t ≡ Some (x, u) → Items u xs rest → Range (c ∷ t) (range true (x ∷ xs)) rest
  positive :
      {c : ℕ} {t u rest : List ℕ} {x : Item} {xs : List Item}
      → c ≢ caret → first_item (c ∷ t) ≡ Some (x, u) → Items u xs rest → Range (c ∷ t) (range false (x ∷ xs)) rest

-- after the opening bracket and the mark of negation: items, which make this atom, and then this rest
abbrev pub ReadsRange : Bool → List ℕ → Atom → List ℕ → Type 0
ReadsRange turned text atom rest =
    (x : Item) × (u : List ℕ) × (xs : List Item) × (first_item text ≡ Some (x, u)) × Items u xs rest
    × (atom ≡ range turned (x ∷ xs))

-- no items stand there
abbrev pub NoItems : List ℕ → Type 0
NoItems text = (x : Item) (u : List ℕ) (xs : List Item) (r : List ℕ) → first_item text ≡ Some (x, u) → Items u xs r → ⊥

-- the items after the first have been added to these
abbrev pub AddsItems : List Item → List Item → List ℕ → List ℕ → Type 0
AddsItems old new text rest = (xs : List Item) × (new ≡ old ++ xs) × Items text xs rest

pub data Part : Type 0 where
  pattern : Part
  branch : Part
  piece : Part
  atom : Part

-- Reads part levels text reading rest: such a part is at the beginning of the text, with parentheses nested at most
-- this many levels deep, says this, and leaves that rest.
pub data Reads : Part → ℕ → List ℕ → Reading → List ℕ → Type 0 where
  -- pattern = branch { "|" branch }
  first_branch : {n : ℕ} {t r : List ℕ} {b : Reading} → Reads branch n t b r → Reads pattern n t b r
  next_branch :
      {n c : ℕ} {t u r : List ℕ} {p b : Reading}
      → Reads pattern n t p (c ∷ u) → mark_of c ≡ Bar → Reads branch n u b r → Reads pattern n t (either p b) r
  -- branch = { piece }
  no_piece : {n : ℕ} {t : List ℕ} → Reads branch n t nothing t
  next_piece :
      {n : ℕ} {t u r : List ℕ} {b p : Reading}
      → Reads branch n t b u → Reads piece n u p r → Reads branch n t (sequence b p) r
  -- piece = atom [ "*" | "+" | "?" ]
  once : {n : ℕ} {t r : List ℕ} {a : Reading} → Reads atom n t a r → Reads piece n t a r
  starred : {n c : ℕ} {t r : List ℕ} {a : Reading} → Reads atom n t a (c ∷ r) → mark_of c ≡ Star
      → Reads piece n t (star a) r
  repeated : {n c : ℕ} {t r : List ℕ} {a : Reading} → Reads atom n t a (c ∷ r) → mark_of c ≡ Plus
      → Reads piece n t (plus a) r
  optioned : {n c : ℕ} {t r : List ℕ} {a : Reading} → Reads atom n t a (c ∷ r) → mark_of c ≡ Optional
      → Reads piece n t (optional a) r
  -- atom = "(" pattern ")" | range | "." | "^" | "$" | "\" any | plain
  group :
      {n c d : ℕ} {t r : List ℕ} {p : Reading}
      → mark_of c ≡ Open → Reads pattern n t p (d ∷ r) → mark_of d ≡ Close → Reads atom (suc n) (c ∷ t) p r
  ranged : {n c : ℕ} {t r : List ℕ} {a : Atom} → mark_of c ≡ Bracket → Range t a r → Reads atom n (c ∷ t) (single a) r
  dotted : {n c : ℕ} {r : List ℕ} → mark_of c ≡ Any → Reads atom n (c ∷ r) (single any) r
  started : {n c : ℕ} {r : List ℕ} → mark_of c ≡ Start → Reads atom n (c ∷ r) (single start) r
  ended : {n c : ℕ} {r : List ℕ} → mark_of c ≡ End → Reads atom n (c ∷ r) (single end) r
  escaped : {n c d : ℕ} {r : List ℕ} → mark_of c ≡ Escape → Reads atom n (c ∷ d ∷ r) (single (exactly d)) r
  plain : {n c : ℕ} {r : List ℕ} → mark_of c ≡ Plain → Reads atom n (c ∷ r) (single (exactly c)) r

-- The text is a regular expression that says this: it has at most 1,024 characters, and its parentheses are nested at
-- most 64 deep.
pub record Says (text : List ℕ) (reading : Reading) : Type 0 where
  pub short : length text ≤ 1024
  pub whole : Reads pattern 64 text reading []
