use Rattle.std.proofs.Common.{sym, ◌∙◌, arith}
use Rattle.wot_fields.proofs.FirstSeparator.{cut_short}
use Rattle.wot_reply_lines.proofs.Items.{last_read, none_read, none_read_last, one_read}
use Rattle.wot_reply_lines.proofs.claims.read_items.Goals as goal

pub returns-in_default-2 : goal.returns-in_default-2
returns-in_default-2 g c =
    rw (none_read g.T.Item.item_of c.args.separator c.parts.rest.now c.in-Some.parts.field.now c.in-Some.parts.rest.now
    (sym c.in-Some.ensures) (cc (c.in_ok-item.ensures, c.in_default-2.is))) at c.parts.invariant

pub parts-smaller : goal.parts-smaller
parts-smaller g c =
    omega (
      arith,
      cut_short c.args.separator c.parts.rest.now (c.in-Some.parts.field.now, c.in-Some.parts.rest.now)
          (sym c.in-Some.ensures),
    )

pub parts-preserved : goal.parts-preserved
parts-preserved g c =
    rw c.in_ok-push.ensures.items
    (one_read g.T.Item.item_of c.args.separator c.parts.rest.now c.in-Some.parts.field.now c.in-Some.parts.rest.now
    c.parts.items.items c.in-Some-2.item (sym c.in-Some.ensures) (cc (c.in_ok-item.ensures, c.in-Some-2.is))
    ∙ c.parts.invariant)

pub returns-in_default-3 : goal.returns-in_default-3
returns-in_default-3 g c =
    rw (none_read_last g.T.Item.item_of c.args.separator c.parts.rest.now (sym c.in_default.ensures)
    (cc (c.in_ok-item-2.ensures, c.in_default-3.is))) at c.parts.invariant

pub returns : goal.returns
returns g c =
    rw c.in_ok-push-2.ensures.items
    (last_read g.T.Item.item_of c.args.separator c.parts.rest.now c.parts.items.items c.in-Some-3.item
    (sym c.in_default.ensures) (cc (c.in_ok-item-2.ensures, c.in-Some-3.is)) ∙ c.parts.invariant)
