use Rattle.std.proofs.Common.{◌∙◌, sym, ap, subst, List, length, ◌<◌, ◌^◌}
use Rattle.wot_component.specs.Certificate.{Component}
use Rattle.wot_edge.specs.Record.{Entry}
use Rattle.wot_network.specs.Records.{user_id_place}
use Rattle.wot_network.proofs.Few.{user_ids_few}
use Rattle.wot_network.proofs.LookupsAgree.{present, absent_cert}
use Rattle.wot_network.proofs.roads.NetRoadsRoads.place.Goals as goal

pub place_of-requires : goal.place_of-requires
place_of-requires c = record {
  few = subst (λ (uids : List Component). length uids < 2 ^ 32) (sym c.user_ids.ensures.user_ids)
      (user_ids_few c.in-Some.cert.now c.in-Some.ensures.size);
}

pub returns-in-Some : goal.returns-in-Some
returns-in-Some c = record {
  place = c.place_of.ensures.place
      ∙ ap (λ (uids : List Component). user_id_place c.args.uid.now uids) c.user_ids.ensures.user_ids
      ∙ ap (λ (e : Entry). e.place) (present c.args.self.now.network.now c.args.self.now.keyring.now
      c.args.self.now.right c.args.uid.now c.args.target.now c.in-Some.cert.now (sym c.in-Some.ensures.found));
}

pub returns-in-None : goal.returns-in-None
returns-in-None c = record {
  place = ap (λ (e : Entry). e.place) (absent_cert c.args.self.now.network.now c.args.self.now.keyring.now
      c.args.self.now.right c.args.uid.now c.args.target.now (sym c.in-None.ensures.found));
}
