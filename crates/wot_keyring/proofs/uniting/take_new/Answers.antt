use Rattle.std.proofs.Common.{sym, ap, ◌∙◌}
use Rattle.std.specs.Map.{lookup}
use Rattle.wot_types.specs.declared.fpr.Fpr.{Fpr}
use Rattle.wot_keyring_spec.specs.Keyring.{is_fpr}
use Rattle.wot_keyring.proofs.Adopted.{only_popped, only_absent}
use Rattle.wot_keyring.proofs.uniting.take_new.Goals as goal

pub returns-in-None-clause-only : goal.returns-in-None-clause-only
returns-in-None-clause-only c =
    only_popped c.args.list.now.items c.pop.new.self.items c.in-Some.cert.now c.pop.result
    (sym c.as_slice.ensures.value ∙ c.in-Some.ensures) c.pop.ensures.items

pub returns-in-None-clause-absent : goal.returns-in-None-clause-absent
returns-in-None-clause-absent c =
    only_absent c.args.certs.now.entries c.args.list.now.items c.in-Some.cert.now c.pop.result
    (sym c.as_slice.ensures.value ∙ c.in-Some.ensures)
    (ap (λ (f : Fpr). lookup (is_fpr f) c.args.certs.now.entries) (sym c.fpr-fpr.ensures.fpr)
    ∙ sym c.in-None.ensures.found)
    (returns-in-None-clause-only c)
