-- What a regular expression says, as a tree. Parentheses leave no node: a group means what it encloses.
use Rattle.std.specs.Prelude.{ℕ, Bool, List}
use Rattle.wot_pattern.specs.declared.item.Item.{Item}

pub data Atom : Type 0 where
  -- this character, plain or after a backslash
  exactly : ℕ → Atom
  -- `.`
  any : Atom
  -- `^`
  start : Atom
  -- `$`
  end : Atom
  -- the items of a range; true for a range that is negated by `^`
  range : Bool → List Item → Atom

pub data Reading : Type 0 where
  -- the empty branch
  nothing : Reading
  single : Atom → Reading
  -- the pieces of a branch so far, and its next piece
  sequence : Reading → Reading → Reading
  -- the branches so far, and the next branch
  either : Reading → Reading → Reading
  star : Reading → Reading
  plus : Reading → Reading
  optional : Reading → Reading
