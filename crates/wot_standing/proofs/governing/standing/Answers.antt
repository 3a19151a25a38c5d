use Rattle.std.proofs.Common.{◌∙◌, sym}
use Rattle.wot_standing.proofs.SpanLaw.{standing_same}
use Rattle.wot_standing.proofs.governing.standing.Goals as goal

pub returns-clause-throughout : goal.returns-clause-throughout
returns-clause-throughout c =
    λ u h. standing_same c.args.verdicts.now.entries c.args.cert.now c.args.t u (c.span.ensures.alike u h)
    ∙ sym c.standing_at.ensures.standing
