use Rattle.std.proofs.Common.{ap, ◌∙◌}
use Rattle.wot_component.specs.Certificate.{Certificate, unite, unmarked}
use Rattle.wot_command.proofs.StoredOrRefused.{tells_clash, tells_union}
use Rattle.wot_command.proofs.stored.united.Goals as goal

pub returns-in-Ok-unite : goal.returns-in-Ok-unite
returns-in-Ok-unite c = record {
  union = tells_union c.marks_weigh_nothing.ensures.text c.args.kept.now c.args.entry.now c.unite.new.self
      c.unless_full.result
      (rw c.in-Ok.ensures.equal at c.in-Ok-unite.ensures.clash)
      (c.in-Ok-unite.ensures.union ∙ ap (λ (k : Certificate). unmarked (unite k c.args.entry.now))
      c.in-Ok.ensures.equal) c.unless_full.ensures.full;
}

pub returns-in-Err-Clash : goal.returns-in-Err-Clash
returns-in-Err-Clash c = record {
  union = tells_clash c.args.kept.now c.args.entry.now
      (rw c.in-Ok.ensures.equal at (rw c.in-Err-Clash.field-0-is at c.in-Err-Clash.ensures.clash));
}
