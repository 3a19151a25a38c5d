-- One step of the reading of a user ID.
use Rattle.std.specs.Prelude.{◌≡◌, ℕ, List, ◌++◌, Option, Some, None}
use Rattle.wot_fields.specs.declared.uid.Place.{Place}

-- The octets of this step were appended, and the reading continues in this state; None if the step fails.
abbrev pub Turned : List ℕ → List ℕ → Option (List ℕ × Place) → Option Place → Type 0
Turned old new None next = next ≡ None
Turned old new (Some read) next = (new ≡ old ++ read.0) × (next ≡ Some read.1)
