use Rattle.std.proofs.Common.{◌≡◌, ◌≤◌, List, ◌∷◌, map, subst}
use Rattle.std.specs.List.{AllByRecursion}
use Rattle.wot_types.specs.Limits.{standard_limits}
use Rattle.wot_component.specs.Certificate.{Certificate}
use Rattle.wot_component.specs.Text.{size_of}
use Rattle.wot_keyring.specs.Dump.{text_import}
use Rattle.wot_keyring.proofs.Lines.{PutSoFar, one_put}
use Rattle.wot_keyring.proofs.dump.put_certs.Goals as goal

pub certs-preserved : goal.certs-preserved
certs-preserved c =
    let Left : List Certificate → Type 0 = λ rest. PutSoFar c.args.out.now.items c.certs.out.items
    (map text_import c.args.certs) (map text_import rest) in
    let Sized : List Certificate → Type 0 =
    λ rest. AllByRecursion (λ (c : Certificate). size_of c ≤ standard_limits.certificate) rest in
    let next : c.certs.cert-iterator ≡ c.in-Some.cert.now ∷ c.next.new.self = c.in-Some.ensures.steps in (
      tt,
      tt,
      one_put c.args.out.now.items c.certs.out.items c.put_cert.new.out.items (map text_import c.args.certs)
          (text_import c.in-Some.cert.now)
          (map text_import c.next.new.self) (subst Left next c.certs.invariant.2) c.in_default.ensures.appended
          c.in_default.ensures.line,
      (subst Sized next c.certs.invariant.3).1,
    )
