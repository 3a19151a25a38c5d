-- Cursors by name.
use Rattle.std.specs.Prelude.{ℕ, Bool, List, Option, Some, None}
use Rattle.wot_types.specs.declared.place.Place.{Place}
use Rattle.wot_table.specs.Table as tables
use Rattle.wot_table.specs.Table.{Table, with_changed}
use Rattle.wot_cursor.specs.declared.stamps.Stamps.{Stamps}

-- A cursor: the view and the wanted amount of the bindings that it lists, the stamps at its start, and the last binding
-- listed, or none.
pub record Cursor : Type 0 where
  pub view : List ℕ
  pub wanted : ℕ
  pub stamps : Stamps
  pub place : Option Place

-- a cursor at its start
abbrev pub begun : List ℕ → ℕ → Stamps → Cursor
begun view wanted stamps = record { view = view; wanted = wanted; stamps = stamps; place = None }

-- the cursors by name
abbrev pub Cursors : Type 0
Cursors = Table Cursor

-- whether a cursor of this name would exceed the limit of 16 cursors
abbrev pub is_full : Cursors → List ℕ → Bool
is_full cursors name = tables.is_full 16 cursors name

-- the cursors after this one, which is there, listed this binding
abbrev pub with_place : Cursors → List ℕ → Place → Cursors
with_place cursors name place = with_changed (λ cursor. record cursor { place = Some place }) cursors name
