use Rattle.std.proofs.Common.{sym, subst, ◌∙◌}
use Rattle.std.specs.List.Sorted.{IsStrictlySortedBy}
use Rattle.wot_edge.specs.Order.{edge_cmp}
use Rattle.wot_standing.specs.Standing.{own}
use Rattle.wot_live.specs.Rows.{AreInto, AreRows}
use Rattle.wot_live.proofs.EdgesBounded.{few_user_ids, has_few}
use Rattle.wot_live.proofs.Through.{edges_same, revoked_same}
use Rattle.wot_live.proofs.making.rows.Goals as goal

pub find-requires-clause-few : goal.find-requires-clause-few
find-requires-clause-few c = has_few c.args.cert.now c.requires.size

pub find-requires-clause-count : goal.find-requires-clause-count
find-requires-clause-count c = few_user_ids c.args.cert.now c.requires.size

pub revoked_places-requires : goal.revoked_places-requires
revoked_places-requires c = record { count = few_user_ids c.args.cert.now c.requires.size }

pub returns-clause-edges : goal.returns-clause-edges
returns-clause-edges c =
    let a = c.args in
    c.in_ok-edges.ensures.edges
    ∙ c.found_are_edges.ensures.all a.verdicts.now.entries a.cert.now a.t c.in_ok-found.found
    c.in_ok-found.ensures.found

pub returns-clause-exact : goal.returns-clause-exact
returns-clause-exact c =
    let a = c.args in
    subst (AreRows a.verdicts.now.entries a.cert.now a.t) (sym (returns-clause-edges c))
    (c.edges_are_rows.ensures.rows a.verdicts.now.entries a.cert.now a.t)

pub returns-clause-order : goal.returns-clause-order
returns-clause-order c =
    let a = c.args in
    subst (IsStrictlySortedBy edge_cmp) (sym (returns-clause-edges c))
    (c.edges_are_rows.ensures.rows a.verdicts.now.entries a.cert.now a.t).sorted

pub returns-clause-into : goal.returns-clause-into
returns-clause-into c =
    let a = c.args in
    subst (AreInto (own a.cert.now)) (sym (returns-clause-edges c))
    (c.edges_are_rows.ensures.into a.verdicts.now.entries a.cert.now a.t)

pub returns-clause-throughout : goal.returns-clause-throughout
returns-clause-throughout c =
    let a = c.args in
    λ u h. sym (edges_same a.verdicts.now.entries a.cert.now a.t u
    (c.steady_span.ensures.certifications u h a.verdicts.now.entries)) ∙ sym (returns-clause-edges c)

pub returns-clause-revoked_throughout : goal.returns-clause-revoked_throughout
returns-clause-revoked_throughout c =
    let a = c.args in
    λ u h. sym (revoked_same a.verdicts.now.entries a.cert.now a.t u
    (c.steady_span.ensures.certifications u h a.verdicts.now.entries (own a.cert.now))) ∙ sym c.in_ok-revoked.ensures

pub returns-clause-standing : goal.returns-clause-standing
returns-clause-standing c = λ u h. c.steady_span.ensures.standings u h c.args.verdicts.now.entries
