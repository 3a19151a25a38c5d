-- What a call does to the world of a certificate directory, and what it returns.
use Rattle.std.specs.Prelude.{◌≡◌, ◌≢◌, ◌≤◌, ◌⊎◌, ℕ, Bool, true, false, List, length, Option, Some, None, Result, Ok}
use Rattle.std.specs.Prelude.{Err}
use Rattle.wot_types.specs.declared.name.Name.{Name}
use Rattle.wot_certd.specs.declared.shelf.Given.{Given}
use Rattle.wot_certd.specs.declared.shelf.Given.TheVariants.{Bytes, Absent, Long}
use Rattle.wot_certd.specs.declared.shelf.ShelfFault.{ShelfFault}
use Rattle.wot_certd.specs.declared.shelf.ShelfFault.TheVariants.{Failed, Memory}
use Rattle.wot_certd.specs.World.{World, called, Answer, fault, absent, long, entry, put_by_call, after_replace}

-- An entry that was read isn't too long.
abbrev pub FitsEntry : Given → Type 0
FitsEntry (Bytes bytes) = length bytes.items ≤ 8388608
FitsEntry Absent = Unit {0}
FitsEntry Long = Unit {0}

-- What was read is this answer.
abbrev pub IsReadAs : Given → Answer → Type 0
IsReadAs (Bytes bytes) answer = answer ≡ entry bytes.items
IsReadAs Absent answer = answer ≡ absent
IsReadAs Long answer = answer ≡ long

-- A read returns the answer or is out of memory. A read that fails isn't out of memory.
abbrev pub ReadReturns : Result Given ShelfFault → Answer → Type 0
ReadReturns (Ok given) answer = IsReadAs given answer
ReadReturns (Err Failed) answer = answer ≡ fault
ReadReturns (Err Memory) answer = answer ≢ fault

-- A replace is out of memory, or fails if and only if its number says so.
abbrev pub ReplaceReturns : Result Unit ShelfFault → Bool → Type 0
ReplaceReturns (Ok done) fails = fails ≡ false
ReplaceReturns (Err Failed) fails = fails ≡ true
ReplaceReturns (Err Memory) fails = Unit {0}

-- If the old world is known, the new one is this.
abbrev pub Becomes : Option World → (World → World) → Option World → Type 0
Becomes None next new = Unit {0}
Becomes (Some old) next new = new ≡ Some (next old)

-- If the call was out of memory, the entry is the old or the new one.
abbrev pub ReplacesOf : World → Name → List ℕ → Result Unit ShelfFault → Option World → Type 0
ReplacesOf old name octets (Ok done) new = new ≡ Some (after_replace old name octets)
ReplacesOf old name octets (Err Failed) new = new ≡ Some (after_replace old name octets)
ReplacesOf old name octets (Err Memory) new = (new ≡ Some (called old)) ⊎ (new ≡ Some (put_by_call old name octets))

-- If the old world is known, the entry was replaced so.
abbrev pub Replaces : Option World → Name → List ℕ → Result Unit ShelfFault → Option World → Type 0
Replaces None name octets result new = Unit {0}
Replaces (Some old) name octets result new = ReplacesOf old name octets result new
