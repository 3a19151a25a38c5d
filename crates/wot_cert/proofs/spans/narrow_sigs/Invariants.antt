use Rattle.std.proofs.Common.{take}
use Rattle.std.specs.List.{flat_map}
use Rattle.wot_cert.specs.Narrowed.{Narrowed}
use Rattle.wot_cert.specs.Span.{sig_moments}
use Rattle.wot_cert.proofs.spans.narrow_sigs.Given as goal

abbrev pub invariant-loop-sig : goal.invariant-loop-sig
invariant-loop-sig l = Narrowed l.fn.bounds l.bounds (flat_map (sig_moments l.created) (take l.sig-index l.sigs)) l.t
