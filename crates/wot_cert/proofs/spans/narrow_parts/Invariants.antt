use Rattle.std.proofs.Common.{take}
use Rattle.std.specs.List.{flat_map}
use Rattle.wot_cert.specs.Narrowed.{Narrowed}
use Rattle.wot_cert.specs.Span.{sig_moments}
use Rattle.wot_cert.proofs.spans.narrow_parts.Given as goal

abbrev pub invariant-loop-part : goal.invariant-loop-part
invariant-loop-part l =
    Narrowed l.fn.bounds l.bounds
    (flat_map (sig_moments l.created) (flat_map (λ p. p.sigs) (take l.part-index l.parts))) l.t
