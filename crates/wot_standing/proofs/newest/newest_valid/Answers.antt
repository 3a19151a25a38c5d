use Rattle.std.proofs.Common.{◌∙◌, ap}
use Rattle.std.specs.Prelude.{filter}
use Rattle.wot_component.specs.Ranked.{greatest}
use Rattle.wot_cert.specs.Time.{newness}
use Rattle.wot_standing.specs.Latest.{is_valid_after}
use Rattle.wot_standing.proofs.RevokedByNumber.{newest-latest}
use Rattle.wot_standing.proofs.newest.newest_valid.Goals as goal

pub returns : goal.returns
returns c =
    let a = c.args in
    c.newest_after.ensures
    ∙ ap (λ r. greatest newness (filter (is_valid_after a.verdicts.now.entries a.fpr.now a.t a.binding r) a.sigs.now))
    c.latest_revocation-revoked.ensures
    ∙ newest-latest a.verdicts.now.entries a.fpr.now a.t a.binding a.sigs.now
