use Rattle.std.proofs.Common.{◌∙◌, Option, length, sym, ap, subst}
use Rattle.std.proofs.lemmas.Bool.{eqb-true, eq-eqb, false≢true}
use Rattle.wot_edge.specs.Path.{asks}
use Rattle.wot_edge.specs.Sums.{Sums}
use Rattle.wot_check.specs.Trace.{AreUsedBy}
use Rattle.wot_check.proofs.CheckResults.{accepted, rejected, disordered_bad, disordered_yes}
use Rattle.wot_check.proofs.ShownPaths.{none_is}
use Rattle.wot_check.proofs.checking.check_claims.Goals as goal

pub returns-then-is_empty-clause-checked : goal.returns-then-is_empty-clause-checked
returns-then-is_empty-clause-checked g c =
    let q = asks (g.R.Roads.network c.args.roads.now c.args.uid.now) c.args.roots.now c.args.target.now in
    let claims = c.args.claims.now.paths.now in
    let empty = none_is claims (eqb-true (length claims) 0 (sym c.if-is_empty.ensures)) in
    disordered_yes q claims c.args.claims.now.table.now (sym c.if-not-in_order.ensures.in_order) empty

pub returns-then-is_empty-clause-lawful : goal.returns-then-is_empty-clause-lawful
returns-then-is_empty-clause-lawful g c = c.in_order.ensures.lawful c.args.uid.now

pub returns-then-not-in_order-clause-checked : goal.returns-then-not-in_order-clause-checked
returns-then-not-in_order-clause-checked g c =
    let q = asks (g.R.Roads.network c.args.roads.now c.args.uid.now) c.args.roots.now c.args.target.now in
    let claims = c.args.claims.now.paths.now in
    disordered_bad q claims (sym c.if-not-in_order.ensures.in_order)
    (λ e. false≢true (c.if-is_empty.ensures ∙ eq-eqb (length claims) 0 (ap length e)))

pub returns-in-None-clause-checked : goal.returns-in-None-clause-checked
returns-in-None-clause-checked g c =
    let q = asks (g.R.Roads.network c.args.roads.now c.args.uid.now) c.args.roots.now c.args.target.now in
    let claims = c.args.claims.now.paths.now in
    subst (λ (found : Option Sums). AreUsedBy q claims found) c.in-None.is c.in_ok-show_all.ensures.used

pub returns-then-branch-clause-checked : goal.returns-then-branch-clause-checked
returns-then-branch-clause-checked g c =
    let q = asks (g.R.Roads.network c.args.roads.now c.args.uid.now) c.args.roots.now c.args.target.now in
    let claims = c.args.claims.now.paths.now in
    let u = subst (λ (found : Option Sums). AreUsedBy q claims found) c.in-Some.is c.in_ok-show_all.ensures.used in
    accepted q claims c.in-Some.used c.args.claims.now.table.now u
    (c.in_ok-excludes-in-Some.ensures.0 c.if-branch.true)

pub returns-clause-checked : goal.returns-clause-checked
returns-clause-checked g c =
    let q = asks (g.R.Roads.network c.args.roads.now c.args.uid.now) c.args.roots.now c.args.target.now in
    let claims = c.args.claims.now.paths.now in
    let u = subst (λ (found : Option Sums). AreUsedBy q claims found) c.in-Some.is c.in_ok-show_all.ensures.used in
    rejected q claims c.in-Some.used c.args.claims.now.table.now u (sym c.if-not-in_order.ensures.in_order)
    (λ x. false≢true (sym c.if-branch.false ∙ c.in_ok-excludes-in-Some.ensures.1 x))
