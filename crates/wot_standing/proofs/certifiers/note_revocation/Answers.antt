use Rattle.std.proofs.Common.{◌∙◌, ℕ, Option, Some, sym}
use Rattle.wot_types.specs.declared.fpr.Fpr.{Fpr}
use Rattle.wot_standing.specs.Certifiers.{later_by, number_for}
use Rattle.wot_standing.proofs.NumbersByIssuer.{changed, none_later, others_later, is_later}
use Rattle.wot_standing.proofs.certifiers.note_revocation.Goals as goal

pub returns-in_default : goal.returns-in_default
returns-in_default c q =
    let a = c.args in
    let nobody = sym c.in_default.is ∙ c.revoker-by.ensures in
    sym (none_later a.verdicts.now.entries a.t a.sig.now nobody q (number_for a.latest.now.entries q))

pub returns : goal.returns
returns c =
    let a = c.args in
    let old : Fpr → Option ℕ = λ q. number_for a.latest.now.entries q in
    let issuer = c.in-Some.issuer in
    let whose = sym c.in-Some.is ∙ c.revoker-by.ensures in
    changed issuer old (λ q best. later_by a.verdicts.now.entries q a.t a.sig.now best)
    (others_later a.verdicts.now.entries a.t a.sig.now issuer whose)
    (λ q. number_for c.keep.new.numbers.entries q) (Some c.later-best.result) c.in_ok-keep.ensures
    (is_later a.verdicts.now.entries issuer a.t a.sig.now (old issuer) c.number.result c.made.result c.later-best.result
    whose c.made.ensures c.number.ensures c.later-best.ensures)
