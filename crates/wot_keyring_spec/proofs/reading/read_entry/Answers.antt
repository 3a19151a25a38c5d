use Rattle.std.proofs.Common.{sym, ◌∙◌}
use Rattle.wot_keyring_spec.proofs.Entry.{entry_taken}
use Rattle.wot_keyring_spec.proofs.reading.read_entry.Goals as goal

pub returns-in-Some : goal.returns-in-Some
returns-in-Some c = record {
  entry = entry_taken c.args.name.now c.args.octets.now c.in-Ok.found.certs c.pop.new.self.items c.in-Ok.found.skipped
      c.in-Some.cert c.in-Ok.ensures.parts
      (sym c.is_entry.ensures ∙ c.if-not-is_entry.false) (sym c.into_vec-certs.ensures.items ∙ c.in-Some.ensures.items);
}
