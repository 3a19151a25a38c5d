use Rattle.std.proofs.Common.{sym}
use Rattle.wot_subpacket.specs.Seen.{seen}
use Rattle.wot_subpacket.proofs.ReadFromStart.{decided_more, decided_at_end, subpackets-err, behind_is_shorter}
use Rattle.wot_subpacket.proofs.area.check.Goals as goal

pub walk-preserved : goal.walk-preserved
walk-preserved c =
    decided_more _ c.walk.rest.now (seen c.in-Ok.field-0-0) c.in-Ok.behind.now c.walk.invariant c.in-Ok.ensures

pub walk-smaller : goal.walk-smaller
walk-smaller c = behind_is_shorter c.walk.rest.now (seen c.in-Ok.field-0-0) c.in-Ok.behind.now c.in-Ok.ensures

pub returns-in-Err : goal.returns-in-Err
returns-in-Err c =
    c.walk.invariant.fails c.in-Err.fault
    (subpackets-err c.walk.rest.now c.in-Err.fault (sym c.walk-test.ensures) c.in-Err.ensures)

pub returns : goal.returns
returns c = decided_at_end _ c.walk.rest.now c.walk.invariant (sym c.walk-test.ensures)
