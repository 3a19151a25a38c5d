-- Tables by name: what is at a name, and what a change makes of the table.
use Rattle.std.specs.Prelude.{ℕ, ◌&&◌, Bool, nat_le, List, length, Option, is_none}
use Rattle.std.specs.BTreeMap.{insert_entry, is_at}
use Rattle.std.specs.Map.{lookup, set_value, remove_entry}
use Rattle.std.specs.Option.{option_map_or}
use Rattle.wot_types.specs.ViewName.{view_name_cmp}

-- values in the order of their names, which are seen as octets
abbrev pub Table : Type 0 → Type 0
Table T = List (List ℕ × T)

-- whether this is the name
abbrev pub is_name : List ℕ → List ℕ → Bool
is_name name = is_at (view_name_cmp name)

-- the value of a name; none if it isn't there
abbrev pub entry_at : {T : Type 0} → Table T → List ℕ → Option T
entry_at table name = lookup (is_name name) table

-- whether a value of this name would exceed the limit: the name is new, and the limit is reached
abbrev pub is_full : {T : Type 0} → ℕ → Table T → List ℕ → Bool
is_full most table name = is_none (entry_at table name) && nat_le most (length table)

-- with this value, in place of an earlier one of the name
abbrev pub with_entry : {T : Type 0} → Table T → List ℕ → T → Table T
with_entry table name value = insert_entry view_name_cmp table name value

-- with the value of this name changed, if it is there
abbrev pub with_changed : {T : Type 0} → (T → T) → Table T → List ℕ → Table T
with_changed change table name =
    option_map_or (λ value. set_value (is_name name) table (change value)) (entry_at table name) table

-- without the value of this name
abbrev pub without_entry : {T : Type 0} → Table T → List ℕ → Table T
without_entry table name = remove_entry (is_name name) table
