use Rattle.std.proofs.Common.{◌∙◌, sym}
use Rattle.wot_fields.proofs.Escapes.{end_inside, end_outside, none_turned, turn_fails, turn_kept}
use Rattle.wot_fields.proofs.uid.read_octets.Goals as goal

pub loop-octet-init : goal.loop-octet-init
loop-octet-init c = none_turned c.new-octets.result.items c.args.text.now c.new-octets.ensures.items

pub returns-in_default : goal.returns-in_default
returns-in_default c =
    sym (turn_fails c.loop-octet.octets.items c.take_turn.new.octets.items c.args.text.now c.loop-octet.octet-index
    c.loop-octet.place c.loop-octet-test.true (rw c.in_default.is at c.in_ok-next.ensures))
    ∙ c.loop-octet.invariant

pub loop-octet-preserved : goal.loop-octet-preserved
loop-octet-preserved c =
    turn_kept c.loop-octet.octets.items c.take_turn.new.octets.items c.args.text.now c.loop-octet.octet-index
    c.loop-octet.place c.in-Some.next c.loop-octet-test.true (rw c.in-Some.is at c.in_ok-next.ensures)
    ∙ c.loop-octet.invariant

pub returns-in-Outside : goal.returns-in-Outside
returns-in-Outside c =
    sym (end_outside c.loop-octet.octets.items c.args.text.now c.loop-octet.octet-index c.loop-octet.place
    c.loop-octet-test.false c.in-Outside.is)
    ∙ c.loop-octet.invariant

pub returns-in_default-place : goal.returns-in_default-place
returns-in_default-place c =
    sym (end_inside c.loop-octet.octets.items c.args.text.now c.loop-octet.octet-index c.loop-octet.place
    c.loop-octet-test.false c.in_default-place.not-Outside)
    ∙ c.loop-octet.invariant
