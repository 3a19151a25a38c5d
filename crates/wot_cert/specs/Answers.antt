-- When two certificates clash, and which fault of a list of packets is returned.
use Rattle.std.specs.Prelude.{◌≡◌, ◌≢◌, ◌⊎◌, ℕ, true, false, List, Option, Some, None, Result, Ok, Err}
use Rattle.wot_key.specs.Key.{is_readable}
use Rattle.wot_packet.specs.Spelling.{Spelled}
use Rattle.wot_cert.specs.declared.fault.MergeFault.{MergeFault}
use Rattle.wot_cert.specs.declared.fault.MergeFault.TheVariants.{Clash, Memory}
use Rattle.wot_cert.specs.declared.fault.CertFault.{CertFault}
use Rattle.wot_cert.specs.declared.fault.CertFault.TheVariants as faults
use Rattle.wot_component.specs.Certificate.{Certificate}
use Rattle.wot_cert.specs.Fault.{first_fault}

-- `Clash` is returned if and only if the key bodies differ.
abbrev pub ClashesExactly : {T : Type 0} → Certificate → Certificate → Result T MergeFault → Type 0
ClashesExactly a b (Ok done) = a.key ≡ b.key
ClashesExactly a b (Err Clash) = a.key ≢ b.key
ClashesExactly a b (Err Memory) = a.key ≡ b.key

-- A fault is returned if and only if it is the first one in the order of the packets; out of memory is returned only if
-- there is none.
abbrev pub TellsFirstFault : {T : Type 0} → List Spelled → Result T CertFault → Type 0
TellsFirstFault packets (Ok done) = first_fault packets ≡ None
TellsFirstFault packets (Err fault) =
    (first_fault packets ≡ Some fault) ⊎ ((fault ≡ faults.Memory) × (first_fault packets ≡ None))

-- This certificate is found if and only if the key can be parsed.
abbrev pub IsWhereReadable : List ℕ → Certificate → Option Certificate → Type 0
IsWhereReadable key wanted None = is_readable key ≡ false
IsWhereReadable key wanted (Some c) = (c ≡ wanted) × (is_readable key ≡ true)
