use Rattle.std.proofs.Common.{◌∙◌, sym, ap, subst, ℕ, List, length, ◌<◌, ◌^◌}
use Rattle.wot_component.specs.Certificate.{Component}
use Rattle.wot_edge.specs.Record.{Entry}
use Rattle.wot_standing.specs.Standing.{standing_of}
use Rattle.wot_standing.specs.Usable.{is_in_order}
use Rattle.wot_keyring_spec.specs.Keyring.{certificates_in}
use Rattle.wot_live.specs.Rows.{revoked_of}
use Rattle.wot_network.specs.Records.{is_user_id}
use Rattle.wot_network.proofs.Few.{user_ids_few}
use Rattle.wot_network.proofs.Fprs.{named_certs}
use Rattle.wot_network.proofs.LookupsAgree.{present, absent_line, absent_cert, standing_here, revoked_here}
use Rattle.wot_network.proofs.roads.NetRoadsRoads.in_order.Goals as goal

pub is_in_order-requires : goal.is_in_order-requires
is_in_order-requires c = record {
  few = subst (λ (uids : List Component). length uids < 2 ^ 32) (sym c.user_ids.ensures.user_ids)
      (user_ids_few c.in-Some-get.cert.now c.in-Some-get.ensures.size);
}

pub returns-in-Some-get-clause-in_order : goal.returns-in-Some-get-clause-in_order
returns-in-Some-get-clause-in_order c =
    let n = c.args.self.now.network.now in
    let k = c.args.self.now.keyring.now in
    let cert = c.in-Some-get.cert.now in
    let line = sym c.in-Some.ensures.found in
    let found = sym c.in-Some-get.ensures.found in
    c.is_in_order.ensures.in_order k.verdicts cert
    (c.standing.ensures.standing ∙ standing_here n k c.args.self.now.right c.args.target.now c.in-Some.line.now cert
    line found ∙ ap (standing_of k.verdicts cert) (sym c.time-t.ensures.time))
    (c.revoked.ensures.revoked ∙ revoked_here n k c.args.self.now.right c.args.target.now c.in-Some.line.now cert line
    found ∙ ap (revoked_of k.verdicts cert) (sym c.time-t.ensures.time))
    c.user_ids.ensures.user_ids
    ∙ ap (λ (t : ℕ). is_in_order k.verdicts cert t (is_user_id c.args.uid.now)) c.time-t.ensures.time
    ∙ ap (λ (e : Entry). e.in_order) (present n k c.args.self.now.right c.args.uid.now c.args.target.now cert found)

pub returns-in-Some-get-clause-lawful : goal.returns-in-Some-get-clause-lawful
returns-in-Some-get-clause-lawful c uid =
    c.record_is_lawful.ensures.lawful (certificates_in c.args.self.now.keyring.now) c.args.self.now.keyring.now.verdicts
    c.args.self.now.network.now.time uid (named_certs c.args.self.now.keyring.now.certs c.ordered.ensures.named)

pub returns-in-None-get-clause-in_order : goal.returns-in-None-get-clause-in_order
returns-in-None-get-clause-in_order c =
    ap (λ (e : Entry). e.in_order) (absent_cert c.args.self.now.network.now c.args.self.now.keyring.now
    c.args.self.now.right c.args.uid.now c.args.target.now (sym c.in-None-get.ensures.found))

pub returns-in-None-get-clause-lawful : goal.returns-in-None-get-clause-lawful
returns-in-None-get-clause-lawful c uid =
    c.record_is_lawful.ensures.lawful (certificates_in c.args.self.now.keyring.now) c.args.self.now.keyring.now.verdicts
    c.args.self.now.network.now.time uid (named_certs c.args.self.now.keyring.now.certs c.ordered.ensures.named)

pub returns-in-None-clause-in_order : goal.returns-in-None-clause-in_order
returns-in-None-clause-in_order c =
    ap (λ (e : Entry). e.in_order) (absent_line c.args.self.now.network.now c.args.self.now.keyring.now
    c.args.self.now.right c.args.uid.now c.args.target.now (sym c.in-None.ensures.found))

pub returns-in-None-clause-lawful : goal.returns-in-None-clause-lawful
returns-in-None-clause-lawful c uid =
    c.record_is_lawful.ensures.lawful (certificates_in c.args.self.now.keyring.now) c.args.self.now.keyring.now.verdicts
    c.args.self.now.network.now.time uid (named_certs c.args.self.now.keyring.now.certs c.ordered.ensures.named)
