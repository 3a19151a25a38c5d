-- Subpackets as the code borrows them.
use Rattle.std.specs.Prelude.{◌≡◌, ℕ, List, Result, Ok, Err}
use Rattle.std.specs.Borrow.{Bor}
use Rattle.wot_subpacket.specs.declared.fault.AreaFault.{AreaFault}
use Rattle.wot_subpacket.specs.declared.sub.Sub.{Sub}
use Rattle.wot_subpacket.specs.Subpacket.{Subpacket}

-- the borrowed subpacket
abbrev pub seen : Sub → Subpacket
seen sub = record { critical = sub.critical; kind = sub.kind; body = sub.body.now }

-- The first subpacket and what follows it, or its fault.
abbrev pub GivesFirst : Result (Sub × Bor (List ℕ)) AreaFault → Result (Subpacket × List ℕ) AreaFault → Type 0
GivesFirst (Ok found) first = first ≡ Ok (seen found.0, found.1.now)
GivesFirst (Err fault) first = first ≡ Err fault
