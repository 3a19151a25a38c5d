use Rattle.std.proofs.Common.{ap, sym}
use Rattle.wot_plain.specs.Listing.{explained}
use Rattle.wot_plain.proofs.Faults.{on_any, unexplained}
use Rattle.wot_command.proofs.reasons.explain_from.Goals as goal

pub returns-in_ok-lines-in-Ok-clause-edges : goal.returns-in_ok-lines-in-Ok-clause-edges
returns-in_ok-lines-in-Ok-clause-edges c = rw c.in-Ok.ensures.explained c.in-Ok.ensures.edges

pub returns-in-Err-clause-explains : goal.returns-in-Err-clause-explains
returns-in-Err-clause-explains c =
    unexplained c.reply_to.result c.from.result c.in-Err.fault _ c.from.ensures c.reply_to.ensures.reply (λ e.
    sym (ap explained (rw e at c.in-Err.ensures.explained)))

pub returns-in-Err-clause-edges : goal.returns-in-Err-clause-edges
returns-in-Err-clause-edges c =
    on_any c.reply_to.result c.from.result c.in-Err.fault _ c.from.ensures c.reply_to.ensures.reply (λ e.
    rw (rw e at c.in-Err.ensures.explained) tt)
