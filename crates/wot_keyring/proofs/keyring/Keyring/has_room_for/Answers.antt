use Rattle.wot_keyring.proofs.SpareRoom.{may_unite_now}
use Rattle.wot_keyring.proofs.keyring.Keyring.has_room_for.Goals as goal

pub returns-in-Some : goal.returns-in-Some
returns-in-Some c = λ room.
    may_unite_now c.united_grows.ensures.together c.united_grows.ensures.signed
    c.marks_weigh_nothing.ensures.judged_text c.marks_weigh_nothing.ensures.judged_signatures
    (record {
      limits = c.self.inside.limits;
      certs = c.self.inside.certs.entries;
      verdicts = c.self.inside.index.verdicts.entries;
      changes = c.self.inside.changes;
    }) c.args.self.now c.total.result c.in-Some.cert.now c.args.list.now
    c.self.view_is (c.has_room.ensures room) c.total.ensures.keyring c.total.ensures.total c.total.ensures.none_long
    c.in-Some.ensures
