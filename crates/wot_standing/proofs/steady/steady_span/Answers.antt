use Rattle.wot_standing.proofs.SpanLaw.{same_on, certifications_same, standing_same}
use Rattle.wot_standing.proofs.steady.steady_span.Goals as goal

pub returns-clause-steady : goal.returns-clause-steady
returns-clause-steady c = λ u h. same_on c.args.cert.now c.args.t u (c.span.ensures.alike u h)

pub returns-clause-standings : goal.returns-clause-standings
returns-clause-standings c =
    λ u h verdicts. standing_same verdicts c.args.cert.now c.args.t u (c.span.ensures.alike u h)

pub returns-clause-certifications : goal.returns-clause-certifications
returns-clause-certifications c = λ u h. certifications_same c.args.cert.now c.args.t u (c.span.ensures.alike u h)
