use Rattle.std.proofs.Common.{sym, ap, ◌∙◌, is_some}
use Rattle.wot_slots.specs.Near.{near_in}
use Rattle.wot_slots.proofs.Moved.{brought, none_of}
use Rattle.wot_slots.proofs.moving.bring.Goals as goal

pub returns-then-keep_near : goal.returns-then-keep_near
returns-then-keep_near g c = record {
  same =
      brought c.args.longer.now.items c.keep_near.new.row.items c.args.rest.now.entries c.remove.new.self.entries
      c.args.number.now c.in-Some.value (sym c.get.ensures.value ∙ sym c.copied.ensures ∙ c.in-Some.is)
      (none_of (near_in c.args.longer.now.items c.args.number.now)
      (ap is_some (sym c.near_at.ensures.found) ∙ sym c.is_some.ensures ∙ c.if-is_some.false))
      c.if-keep_near.ensures.kept c.remove.ensures.updates.0;
}
