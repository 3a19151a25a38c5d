use Rattle.std.proofs.Common.{Option, map, sym, ap, ◌∙◌}
use Rattle.std.specs.Option.{option_copied}
use Rattle.wot_types.specs.declared.fpr.Fpr.{Fpr}
use Rattle.wot_keyring_spec.specs.From.{entries_from}
use Rattle.wot_keyring_spec.specs.Keyring.{certificates_in}
use Rattle.wot_keyring_spec.specs.declared.kept.Kept.{Kept}
use Rattle.wot_network.specs.Records.{record_of}
use Rattle.wot_explain.specs.Listing.{pairs_in}
use Rattle.wot_explain.proofs.Listed.{listed_same}
use Rattle.wot_explain.proofs.Pieces.{the_piece}
use Rattle.wot_explain.proofs.piece.list_page.Goals as goal

pub returns-clause-piece : goal.returns-clause-piece
returns-clause-piece g c =
    let entries = c.args.keyring.now.certs in
    let there = c.certs_from-certs.ensures.certs ∙ ap (λ (from : Option Fpr). map (λ (e : Fpr × Kept). e.1.cert)
    (entries_from from entries)) c.start.ensures in
    let page = c.args.page.now in
    the_piece (g.R.Roads.network c.args.roads.now) page.sought.roots.now page.sought.wanted (option_copied page.after)
    page.count entries c.certs_from-certs.ensures.named c.certs_from-certs.result
    there c.new-binds.result.items c.piece_certs.new.out.items c.new-binds.ensures.items c.in_ok-piece_certs.ensures

pub returns-clause-list : goal.returns-clause-list
returns-clause-list g c t present all h =
    let network = g.R.Roads.network c.args.roads.now in
    let entries = c.args.keyring.now.certs in
    let there = c.certs_from-certs.ensures.certs ∙ ap (λ (from : Option Fpr). map (λ (e : Fpr × Kept). e.1.cert)
    (entries_from from entries)) c.start.ensures in
    let same = listed_same (record_of (certificates_in c.args.keyring.now) c.args.keyring.now.verdicts t) network
    c.args.page.now.sought.roots.now c.args.page.now.sought.wanted (λ u. sym (present u))
    (pairs_in (certificates_in c.args.keyring.now)) all h in
    let page = c.args.page.now in
    the_piece network page.sought.roots.now page.sought.wanted (option_copied page.after) page.count entries
    c.certs_from-certs.ensures.named c.certs_from-certs.result
    there c.new-binds.result.items c.piece_certs.new.out.items c.new-binds.ensures.items c.in_ok-piece_certs.ensures all
    same
