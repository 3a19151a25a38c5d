use Rattle.std.proofs.Common.{◌≤◌, List, length, ap, subst, sym}
use Rattle.std.specs.List.{AllByRecursion}
use Rattle.wot_types.specs.Limits.{standard_limits}
use Rattle.wot_component.specs.Certificate.{Certificate}
use Rattle.wot_component.specs.Text.{size_of}
use Rattle.wot_keyring.specs.Dump.{AreLines, commands_of, lines_of, most_dumped}
use Rattle.wot_keyring_spec.specs.Held.{held_of}
use Rattle.wot_keyring_spec.specs.Keyring.{Keyring}
use Rattle.wot_keyring.proofs.DumpSize.{dump_fits}
use Rattle.wot_keyring.proofs.Lines.{dumped, dumped_lines, sizes_of}
use Rattle.wot_keyring.proofs.keyring.Keyring.dump.Goals as goal

pub put_certs-requires : goal.put_certs-requires
put_certs-requires c =
    let Sized : List Certificate → Type 0 =
    λ certs. AllByRecursion (λ (c : Certificate). size_of c ≤ standard_limits.certificate) certs in
    subst Sized (sym c.certs.ensures.certs) (sizes_of standard_limits.certificate c.args.self.now.certs
    c.certs.ensures.sizes)

pub returns-in-Ok-clause-lines : goal.returns-in-Ok-clause-lines
returns-in-Ok-clause-lines c =
    dumped c.args.self.now c.certs.result c.self.inside.index.verdicts.entries c.certs.ensures.certs
    (ap (λ (k : Keyring). k.verdicts) c.self.view_is)
    c.args.out.now.items c.put_certs.new.out.items c.put_verdicts.new.out.items c.in_ok-put_certs.ensures.appended
    c.in-Ok.ensures.appended

pub returns-in-Ok-clause-read_back : goal.returns-in-Ok-clause-read_back
returns-in-Ok-clause-read_back c =
    dumped_lines c.args.self.now c.certs.result c.self.inside.index.verdicts.entries c.certs.ensures.certs
    (ap (λ (k : Keyring). k.verdicts) c.self.view_is)
    c.in_ok-put_certs.ensures.lines c.in-Ok.ensures.lines

pub returns-in-Ok-clause-size : goal.returns-in-Ok-clause-size
returns-in-Ok-clause-size c =
    subst (λ (k : Keyring). AreLines (commands_of (held_of k))
    → length (lines_of (commands_of (held_of k))) ≤ most_dumped k.limits)
    c.self.view_is (dump_fits _ c.self.invariant.0) (returns-in-Ok-clause-read_back c)
