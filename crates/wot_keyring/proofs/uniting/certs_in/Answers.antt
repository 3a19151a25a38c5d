use Rattle.std.proofs.Common.{sym, ap, ◌∙◌}
use Rattle.wot_keyring.specs.Uniting.{certs_in, found_alone}
use Rattle.wot_keyring.proofs.uniting.certs_in.Goals as goal

pub returns-in-Some : goal.returns-in-Some
returns-in-Some c = c.from_ref.ensures.value ∙ ap found_alone c.in-Some.ensures.found
    ∙ ap (certs_in c.args.certs.now.entries) (sym c.in-New.is)

pub returns-in-None : goal.returns-in-None
returns-in-None c = ap found_alone c.in-None.ensures.found ∙ ap (certs_in c.args.certs.now.entries) (sym c.in-New.is)
