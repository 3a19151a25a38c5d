use Rattle.std.proofs.Common.{◌≡◌, length}
use Rattle.wot_reply_lines.specs.Claims.{items_of}
use Rattle.wot_reply_lines.proofs.Items.{with_read}
use Rattle.wot_reply_lines.proofs.claims.read_items.Given as goal

abbrev pub invariant-parts : goal.invariant-parts
invariant-parts g l =
    with_read g.T.Item.item_of l.items.items (items_of l.separator g.T.Item.item_of l.rest) ≡ items_of l.separator
    g.T.Item.item_of l.text

abbrev pub decreases-parts : goal.decreases-parts
decreases-parts g l = length l.rest
