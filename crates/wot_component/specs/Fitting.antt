-- Bodies that a packet can hold.
use Rattle.std.specs.Prelude.{◌<◌, ◌^◌, length}
use Rattle.std.specs.List.{AllByRecursion}
use Rattle.wot_component.specs.Certificate.{Signature, Component}

abbrev pub SigFits : Signature → Type 0
SigFits s = length s.body < 2 ^ 32

abbrev pub PartFits : Component → Type 0
PartFits p = (length p.body < 2 ^ 32) × AllByRecursion SigFits p.sigs
