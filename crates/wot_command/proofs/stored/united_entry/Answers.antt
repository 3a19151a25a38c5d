use Rattle.wot_types.specs.declared.name.Name.TheVariants.{Cert}
use Rattle.wot_command.proofs.StoredOrRefused.{tells_entry, tells_refused}
use Rattle.wot_command.proofs.stored.united_entry.Goals as goal

pub returns-in-Ok : goal.returns-in-Ok
returns-in-Ok c = record {
  union = tells_entry c.args.kept.now c.in-Ok.entry (Cert c.args.fpr.now) c.args.octets.now c.united.result
      c.in-Ok.ensures.entry c.united.ensures.union;
}

pub returns-in-Err : goal.returns-in-Err
returns-in-Err c = record {
  union = tells_refused c.args.kept.now (Cert c.args.fpr.now) c.args.octets.now
      c.in-Err.refusal c.in-Err.ensures.entry;
}
