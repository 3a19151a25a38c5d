use Rattle.std.proofs.Common.{Some, ap, sym, ◌∙◌}
use Rattle.std.specs.List.{slice_get}
use Rattle.std.proofs.lemmas.Option.{slice_get-get_or}
use Rattle.wot_live.proofs.Places.{terms_at}
use Rattle.wot_live.proofs.found.edge_at_place.Goals as goal

pub returns : goal.returns
returns c =
    let a = c.args in
    terms_at a.issuer a.target a.uid a.place a.part.now c.in_ok-sig.sig.now c.in_ok-said.said c.edge_with.result
    c.sigs.ensures.rises (ap (λ ss. slice_get ss a.place) (sym c.sigs.ensures.sigs)
    ∙ slice_get-get_or c.sigs.result.now a.place c.in_ok-sig.sig.now c.in_ok-sig.ensures.lookup.3.0
    ∙ ap Some (sym c.in_ok-sig.ensures.lookup.1)) c.in_ok-said.ensures.terms c.edge_with.ensures
