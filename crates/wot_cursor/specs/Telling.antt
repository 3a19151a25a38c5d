-- What starting a cursor returns.
use Rattle.std.specs.Prelude.{◌≡◌, Bool, true, false, Result, Ok, Err}
use Rattle.wot_cursor.specs.declared.cursors.BeginFault.{BeginFault}
use Rattle.wot_cursor.specs.declared.cursors.BeginFault.TheVariants as faults

-- `Full` is returned if and only if the limit would be exceeded. The only other refusal is "out of memory".
abbrev pub TellsFull : {T : Type 0} → Result T BeginFault → Bool → Type 0
TellsFull (Ok done) full = full ≡ false
TellsFull (Err faults.Full) full = full ≡ true
TellsFull (Err faults.Memory) full = full ≡ false
