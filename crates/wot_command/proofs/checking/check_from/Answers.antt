use Rattle.wot_plain.proofs.Absences.{spelled_table}
use Rattle.wot_command.proofs.checking.check_from.Goals as goal

pub claimed_table-requires : goal.claimed_table-requires
claimed_table-requires c =
    let claim = c.args.claim.now in
    record { table = rw c.items.ensures.whole (spelled_table claim.claims.now claim.labels.now c.requires.spelled) }
