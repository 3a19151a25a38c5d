use Rattle.std.proofs.Common.{sym, ◌∙◌}
use Rattle.wot_slots.proofs.Rows.{near_first}
use Rattle.wot_slots.proofs.near.near_from.Goals as goal

pub returns : goal.returns
returns g c = record {
  found = sym (near_first c.args.row.now.items c.args.number.now _ c.in-Some-find.ensures.first
      ∙ c.in-Some-find.ensures.value);
}
