use Rattle.wot_component.specs.Certificate.{unite}
use Rattle.wot_component.proofs.AddingParts.{brings_same, brings_same_parts}
use Rattle.wot_component.proofs.Fits.{parts_fit}
use Rattle.wot_cert.proofs.Totals.{Brought, rooms, named_few, others_few, all_few, all_items, all_signatures}
use Rattle.wot_cert.proofs.Totals.{all_octets}
use Rattle.wot_cert.proofs.adds.added.Goals as goal

pub added_sigs-direct-requires-clause-few : goal.added_sigs-direct-requires-clause-few
added_sigs-direct-requires-clause-few c =
    rw (c.direct.ensures.direct, c.direct-2.ensures.direct) (rooms (unite c.args.a.now c.args.b.now) c.requires).direct

pub added_parts-user_ids-requires-clause-few : goal.added_parts-user_ids-requires-clause-few
added_parts-user_ids-requires-clause-few c =
    rw (c.user_ids.ensures.user_ids, c.user_ids-2.ensures.user_ids)
    (rooms (unite c.args.a.now c.args.b.now) c.requires).user_ids

pub added_parts-user_ids-requires-clause-fit : goal.added_parts-user_ids-requires-clause-fit
added_parts-user_ids-requires-clause-fit c =
    rw c.user_ids-2.ensures.user_ids (parts_fit _ _ _ c.user_ids-2.ensures.set.1)

pub added_parts-attributes-requires-clause-few : goal.added_parts-attributes-requires-clause-few
added_parts-attributes-requires-clause-few c =
    rw (c.attributes.ensures.attributes, c.attributes-2.ensures.attributes)
    (rooms (unite c.args.a.now c.args.b.now) c.requires).attributes

pub added_parts-attributes-requires-clause-fit : goal.added_parts-attributes-requires-clause-fit
added_parts-attributes-requires-clause-fit c =
    rw c.attributes-2.ensures.attributes (parts_fit _ _ _ c.attributes-2.ensures.set.1)

pub added_parts-subkeys-requires-clause-few : goal.added_parts-subkeys-requires-clause-few
added_parts-subkeys-requires-clause-few c =
    rw (c.subkeys.ensures.subkeys, c.subkeys-2.ensures.subkeys)
    (rooms (unite c.args.a.now c.args.b.now) c.requires).subkeys

pub added_parts-subkeys-requires-clause-fit : goal.added_parts-subkeys-requires-clause-fit
added_parts-subkeys-requires-clause-fit c = rw c.subkeys-2.ensures.subkeys (parts_fit _ _ _ c.subkeys-2.ensures.set.1)

pub plus-named-requires : goal.plus-named-requires
plus-named-requires c =
    let brought : Brought c.args.a.now (unite c.args.a.now c.args.b.now) c.added_sigs-direct.result
    c.added_parts-user_ids.result c.added_parts-attributes.result c.added_parts-subkeys.result = (record {
      direct = brings_same _ _ _ _ _ c.direct.ensures.direct c.direct-2.ensures.direct c.added_sigs-direct.ensures;
      user_ids = brings_same_parts _ _ _ _ _ c.user_ids.ensures.user_ids c.user_ids-2.ensures.user_ids
          c.added_parts-user_ids.ensures;
      attributes = brings_same_parts _ _ _ _ _ c.attributes.ensures.attributes c.attributes-2.ensures.attributes
          c.added_parts-attributes.ensures;
      subkeys = brings_same_parts _ _ _ _ _ c.subkeys.ensures.subkeys c.subkeys-2.ensures.subkeys
          c.added_parts-subkeys.ensures;
    }) in
    named_few _ _ _ _ _ _ brought (rooms (unite c.args.a.now c.args.b.now) c.requires)

pub plus-others-requires : goal.plus-others-requires
plus-others-requires c =
    let brought : Brought c.args.a.now (unite c.args.a.now c.args.b.now) c.added_sigs-direct.result
    c.added_parts-user_ids.result c.added_parts-attributes.result c.added_parts-subkeys.result = (record {
      direct = brings_same _ _ _ _ _ c.direct.ensures.direct c.direct-2.ensures.direct c.added_sigs-direct.ensures;
      user_ids = brings_same_parts _ _ _ _ _ c.user_ids.ensures.user_ids c.user_ids-2.ensures.user_ids
          c.added_parts-user_ids.ensures;
      attributes = brings_same_parts _ _ _ _ _ c.attributes.ensures.attributes c.attributes-2.ensures.attributes
          c.added_parts-attributes.ensures;
      subkeys = brings_same_parts _ _ _ _ _ c.subkeys.ensures.subkeys c.subkeys-2.ensures.subkeys
          c.added_parts-subkeys.ensures;
    }) in
    others_few _ _ _ _ _ _ brought (rooms (unite c.args.a.now c.args.b.now) c.requires)

pub plus-requires : goal.plus-requires
plus-requires c =
    let brought : Brought c.args.a.now (unite c.args.a.now c.args.b.now) c.added_sigs-direct.result
    c.added_parts-user_ids.result c.added_parts-attributes.result c.added_parts-subkeys.result = (record {
      direct = brings_same _ _ _ _ _ c.direct.ensures.direct c.direct-2.ensures.direct c.added_sigs-direct.ensures;
      user_ids = brings_same_parts _ _ _ _ _ c.user_ids.ensures.user_ids c.user_ids-2.ensures.user_ids
          c.added_parts-user_ids.ensures;
      attributes = brings_same_parts _ _ _ _ _ c.attributes.ensures.attributes c.attributes-2.ensures.attributes
          c.added_parts-attributes.ensures;
      subkeys = brings_same_parts _ _ _ _ _ c.subkeys.ensures.subkeys c.subkeys-2.ensures.subkeys
          c.added_parts-subkeys.ensures;
    }) in
    all_few _ _ _ _ _ _ brought (rooms (unite c.args.a.now c.args.b.now) c.requires) _ _ c.plus-named.ensures
    c.plus-others.ensures

pub returns : goal.returns
returns c =
    let brought : Brought c.args.a.now (unite c.args.a.now c.args.b.now) c.added_sigs-direct.result
    c.added_parts-user_ids.result c.added_parts-attributes.result c.added_parts-subkeys.result = (record {
      direct = brings_same _ _ _ _ _ c.direct.ensures.direct c.direct-2.ensures.direct c.added_sigs-direct.ensures;
      user_ids = brings_same_parts _ _ _ _ _ c.user_ids.ensures.user_ids c.user_ids-2.ensures.user_ids
          c.added_parts-user_ids.ensures;
      attributes = brings_same_parts _ _ _ _ _ c.attributes.ensures.attributes c.attributes-2.ensures.attributes
          c.added_parts-attributes.ensures;
      subkeys = brings_same_parts _ _ _ _ _ c.subkeys.ensures.subkeys c.subkeys-2.ensures.subkeys
          c.added_parts-subkeys.ensures;
    }) in
    record {
      items = all_items c.args.a.now c.args.b.now _ _ _ _ _ _ _ brought c.plus-named.ensures c.plus-others.ensures
          c.plus.ensures;
      signatures = all_signatures c.args.a.now c.args.b.now _ _ _ _ _ _ _ brought c.plus-named.ensures
          c.plus-others.ensures c.plus.ensures;
      octets = all_octets c.args.a.now c.args.b.now _ _ _ _ _ _ _ brought c.plus-named.ensures c.plus-others.ensures
          c.plus.ensures;
    }
