use Rattle.std.proofs.Common.{List, ap, ◌∙◌}
use Rattle.wot_component.specs.Certificate.{Certificate}
use Rattle.wot_keyring_spec.specs.Keyring.{certificates_in}
use Rattle.wot_network.specs.Records.{record_of}
use Rattle.wot_explain.specs.Listing.{pairs_in, pairs_of_all}
use Rattle.wot_explain.proofs.Listed.{listed_here, the_list_same, pairs_named}
use Rattle.wot_explain.proofs.listing.list.Goals as goal

pub returns-clause-listed : goal.returns-clause-listed
returns-clause-listed g c =
    let network = g.R.Roads.network c.args.roads.now in
    let pairs = ap (λ (cs : List Certificate). pairs_of_all cs) c.certs-2.ensures.certs
    ∙ pairs_named c.args.keyring.now.certs c.certs-2.ensures.named in
    listed_here network c.args.roots.now c.args.wanted (pairs_of_all c.certs-2.result)
    (pairs_in (certificates_in c.args.keyring.now)) _ _ pairs c.new-binds.ensures.items c.in_ok-list_certs.ensures

pub returns-clause-list : goal.returns-clause-list
returns-clause-list g c t present =
    let network = g.R.Roads.network c.args.roads.now in
    let pairs = ap (λ (cs : List Certificate). pairs_of_all cs) c.certs-2.ensures.certs
    ∙ pairs_named c.args.keyring.now.certs c.certs-2.ensures.named in
    the_list_same network (record_of (certificates_in c.args.keyring.now) c.args.keyring.now.verdicts t) c.args.roots.now
    c.args.wanted present (pairs_in (certificates_in c.args.keyring.now)) _
    (listed_here network c.args.roots.now c.args.wanted (pairs_of_all c.certs-2.result)
    (pairs_in (certificates_in c.args.keyring.now)) _ _ pairs c.new-binds.ensures.items c.in_ok-list_certs.ensures)
