use Rattle.wot_cert.specs.Drafting.{seen}
use Rattle.wot_cert.proofs.CertificateWithKey.{made-whole}
use Rattle.wot_cert.proofs.cert.Cert.drafted.Goals as goal

pub whole-requires : goal.whole-requires
whole-requires c =
    let places = c.put_drafted.new.self in
    let drafted = c.in_ok-put_drafted.ensures.drafted in
    made-whole c.in-Some.key c.in-Some-fingerprint.fpr c.args.body.now (seen c.args.draft.now) c.in_ok-body.body.items
    places.direct.items places.user_ids.items places.attributes.items places.subkeys.items
    (record {
      key_is = c.in-Some.ensures.read;
      fpr_is = c.in-Some-fingerprint.ensures.digest;
      sketch_is = c.requires.whole;
      octets_are = c.in_ok-body.ensures.items;
      direct_are = drafted.direct;
      user_ids_are = drafted.user_ids;
      attributes_are = drafted.attributes;
      subkeys_are = drafted.subkeys;
    })
