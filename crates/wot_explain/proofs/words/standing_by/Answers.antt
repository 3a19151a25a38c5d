use Rattle.std.proofs.Common.{◌∙◌, ap}
use Rattle.wot_verdict.specs.Verdicts.{Entries}
use Rattle.wot_standing.specs.Standing.{standing_of}
use Rattle.wot_explain.proofs.Places.{standing_some, standing_none}
use Rattle.wot_explain.proofs.words.standing_by.Goals as goal

pub returns-in-Some : goal.returns-in-Some
returns-in-Some c =
    standing_some c.args.keyring.now c.args.t c.args.fpr.now c.in-Some.cert.now c.standing_at.result
    c.in-Some.ensures.found
    (c.standing_at.ensures ∙ ap (λ (v : Entries). standing_of v c.in-Some.cert.now c.args.t)
    c.verdicts.ensures.verdicts)

pub returns-in-None : goal.returns-in-None
returns-in-None c = standing_none c.args.keyring.now c.args.t c.args.fpr.now c.in-None.ensures.found
