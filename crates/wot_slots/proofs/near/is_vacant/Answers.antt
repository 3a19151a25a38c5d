use Rattle.std.proofs.Common.{sym, ap, ◌∙◌}
use Rattle.std.specs.Option.{option_copied}
use Rattle.wot_slots.proofs.Rows.{empty_slot}
use Rattle.wot_slots.proofs.near.is_vacant.Goals as goal

pub returns : goal.returns
returns g c = record {
  vacant = λ empty.
      sym c.slot.ensures.slot
      ∙ ap option_copied (empty_slot c.slot.result c.is_none.result c.is_none.ensures empty);
}
