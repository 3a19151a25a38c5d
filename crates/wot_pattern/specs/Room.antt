-- The room that matching takes.
use Rattle.std.specs.Prelude.{◌≡◌, ◌+◌, ◌≤◌, ℕ}

-- For this many nodes: a slot for each, room for as many flows, and for one more mark of where trees may begin.
abbrev pub HasRoom : ℕ → ℕ → ℕ → ℕ → Type 0
HasRoom nodes slots ready begins = (slots ≡ nodes) × (nodes ≤ ready) × (nodes + 1 ≤ begins)
