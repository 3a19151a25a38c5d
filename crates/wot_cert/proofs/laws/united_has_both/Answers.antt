use Rattle.wot_cert.proofs.OfBoth.{parts_of_both, signed_of_both, sigs_of_both}
use Rattle.wot_cert.proofs.laws.united_has_both.Goals as goal

pub returns : goal.returns
returns c = record {
  direct = λ body a b. sigs_of_both body a.direct b.direct;
  user_ids = record {
    bodies = λ body a b. parts_of_both body a.user_ids b.user_ids;
    sigs = λ on body a b. signed_of_both on body a.user_ids b.user_ids;
  };
  attributes = record {
    bodies = λ body a b. parts_of_both body a.attributes b.attributes;
    sigs = λ on body a b. signed_of_both on body a.attributes b.attributes;
  };
  subkeys = record {
    bodies = λ body a b. parts_of_both body a.subkeys b.subkeys;
    sigs = λ on body a b. signed_of_both on body a.subkeys b.subkeys;
  };
}
