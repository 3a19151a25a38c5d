use Rattle.std.proofs.Common.{◌≡◌, ◌≤◌, ◌++◌, map}
use Rattle.std.specs.List.{AllByRecursion}
use Rattle.wot_types.specs.Limits.{standard_limits}
use Rattle.wot_component.specs.Certificate.{Certificate}
use Rattle.wot_component.specs.Text.{size_of}
use Rattle.wot_plain.specs.Outcome.{key_line_of}
use Rattle.wot_command.proofs.listing.key_lines.Given as goal

abbrev pub invariant-certs : goal.invariant-certs
invariant-certs l =
    (goal.iterator-certs).can_next l.cert-iterator
    × (goal.iterator-certs).is_finite l.cert-iterator
    × (l.lines ++ map key_line_of l.cert-iterator ≡ map key_line_of l.fn.certs)
    × AllByRecursion (λ (c : Certificate). size_of c ≤ standard_limits.certificate) l.cert-iterator
