-- The result of a call that appends a text to `out`.
use Rattle.std.specs.Prelude.{◌≡◌, ◌<◌, ◌≤◌, ◌+◌, ◌++◌, ℕ, List, length, Result, OnOk, OnErr}
use Rattle.std.specs.Prelude.{Vec, vec_len, vec_capacity}
use Rattle.std.specs.declared.alloc.Global.{Global}
use Rattle.wot_types.specs.declared.memory.Memory.{Memory}

-- The text was appended; or memory ran out, `out` is unchanged, and its capacity was too small for the text. The
-- capacity never shrinks.
pub record Appends (text : List ℕ) (old new : Vec ℕ Global) (result : Result (Unit {0}) Memory) : Type 0 where
  pub appended : OnOk result (new.items ≡ old.items ++ text)
  pub kept : OnErr result (new.items ≡ old.items)
  pub full : OnErr result (vec_capacity old < vec_len old + length text)
  pub grows : vec_capacity old ≤ vec_capacity new
