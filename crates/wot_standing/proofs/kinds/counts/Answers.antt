use Rattle.std.proofs.Common.{sym}
use Rattle.wot_component.specs.Certificate.{said_by}
use Rattle.wot_verdict.specs.Verdicts.{verdict_at}
use Rattle.wot_cert.specs.Issuer.{good_by}
use Rattle.wot_standing.proofs.OtherIssuerNamed.{not_by}
use Rattle.wot_standing.proofs.kinds.counts.Goals as goal

pub returns-then-not-may_be_by : goal.returns-then-not-may_be_by
returns-then-not-may_be_by c =
    let s = c.args.sig.now in
    sym (not_by (said_by s) s.admitted (good_by (verdict_at c.args.verdicts.now.entries s.number)) c.args.fpr.now
    (sym c.if-not-may_be_by.ensures))
