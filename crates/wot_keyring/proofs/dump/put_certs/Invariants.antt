use Rattle.std.proofs.Common.{◌≤◌, map}
use Rattle.std.specs.List.{AllByRecursion}
use Rattle.wot_types.specs.Limits.{standard_limits}
use Rattle.wot_component.specs.Certificate.{Certificate}
use Rattle.wot_component.specs.Text.{size_of}
use Rattle.wot_keyring.specs.Dump.{text_import}
use Rattle.wot_keyring.proofs.Lines.{PutSoFar}
use Rattle.wot_keyring.proofs.dump.put_certs.Given as goal

abbrev pub invariant-certs : goal.invariant-certs
invariant-certs l =
    (goal.iterator-certs).can_next l.cert-iterator
    × (goal.iterator-certs).is_finite l.cert-iterator
    × PutSoFar l.fn.out.items l.out.items (map text_import l.fn.certs) (map text_import l.cert-iterator)
    × AllByRecursion (λ (c : Certificate). size_of c ≤ standard_limits.certificate) l.cert-iterator
