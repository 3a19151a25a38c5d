use Rattle.std.proofs.Common.{inl, inr, [], Some, refl, sym, subst, arith}
use Rattle.wot_edge.specs.Path.{Use, asks, use_of}
use Rattle.wot_check.specs.Absence.{RootsSpent}
use Rattle.wot_check.specs.Growth.{IsSettled, IsRooted}
use Rattle.wot_check.proofs.AfterALayer.{made_disordered, made_spent, made_none, rooted_left, each_next_shows}
use Rattle.wot_check.proofs.making.absence.Goals as goal

pub returns-then-not-in_order-clause-made : goal.returns-then-not-in_order-clause-made
returns-then-not-in_order-clause-made g c =
    let q = asks (g.R.Roads.network c.args.roads.now c.args.uid.now) c.args.roots.now c.args.target.now in
    made_disordered q (use_of c.args.paths.now) c.new-empty.result (sym c.if-not-in_order.ensures.in_order)
    c.iter-labels.ensures.table c.new-empty.ensures.none

pub returns-then-not-in_order-clause-none : goal.returns-then-not-in_order-clause-none
returns-then-not-in_order-clause-none g c =
    let q = asks (g.R.Roads.network c.args.roads.now c.args.uid.now) c.args.roots.now c.args.target.now in
    let used = use_of c.args.paths.now in
    made_none q used (Some c.new-empty.result)
    (made_disordered q used c.new-empty.result (sym c.if-not-in_order.ensures.in_order) c.iter-labels.ensures.table
    c.new-empty.ensures.none)

pub returns-then-not-in_order-clause-accepted : goal.returns-then-not-in_order-clause-accepted
returns-then-not-in_order-clause-accepted g c wanted a lt =
    let q = asks (g.R.Roads.network c.args.roads.now c.args.uid.now) c.args.roots.now c.args.target.now in
    (c.args.paths.now, each_next_shows q [] c.args.paths.now a.each, inl (sym c.if-not-in_order.ensures.in_order))

pub returns-then-roots_spent-clause-made : goal.returns-then-roots_spent-clause-made
returns-then-roots_spent-clause-made g c =
    let network = g.R.Roads.network c.args.roads.now in
    let q = asks (network c.args.uid.now) c.args.roots.now c.args.target.now in
    let used = use_of c.args.paths.now in
    let table = c.in_ok-table.table in
    let settled = subst (λ (u : Use). IsSettled q u table) c.in_ok-used.ensures.used c.in_ok-table.ensures.settled in
    let roots = subst (λ (u : Use). RootsSpent q u table) c.in_ok-used.ensures.used (c.if-roots_spent.ensures network) in
    made_spent q used table (sym c.if-not-in_order.ensures.in_order) c.iter-labels-2.ensures.table settled roots

pub returns-then-roots_spent-clause-none : goal.returns-then-roots_spent-clause-none
returns-then-roots_spent-clause-none g c =
    let network = g.R.Roads.network c.args.roads.now in
    let q = asks (network c.args.uid.now) c.args.roots.now c.args.target.now in
    let used = use_of c.args.paths.now in
    let table = c.in_ok-table.table in
    let settled = subst (λ (u : Use). IsSettled q u table) c.in_ok-used.ensures.used c.in_ok-table.ensures.settled in
    let roots = subst (λ (u : Use). RootsSpent q u table) c.in_ok-used.ensures.used (c.if-roots_spent.ensures network) in
    made_none q used (Some table)
    (made_spent q used table (sym c.if-not-in_order.ensures.in_order) c.iter-labels-2.ensures.table settled roots)

pub returns-then-roots_spent-clause-accepted : goal.returns-then-roots_spent-clause-accepted
returns-then-roots_spent-clause-accepted g c wanted a lt =
    let network = g.R.Roads.network c.args.roads.now in
    let q = asks (network c.args.uid.now) c.args.roots.now c.args.target.now in
    let table = c.in_ok-table.table in
    let settled = subst (λ (u : Use). IsSettled q u table) c.in_ok-used.ensures.used c.in_ok-table.ensures.settled in
    let roots = subst (λ (u : Use). RootsSpent q u table) c.in_ok-used.ensures.used (c.if-roots_spent.ensures network) in (
      c.args.paths.now,
      each_next_shows q [] c.args.paths.now a.each,
      inr (record { closes = settled.closes; roots = roots }),
    )

pub returns-clause-made : goal.returns-clause-made
returns-clause-made g c =
    let network = g.R.Roads.network c.args.roads.now in
    let q = asks (network c.args.uid.now) c.args.roots.now c.args.target.now in
    let table = c.in_ok-table.table in
    let settled = subst (λ (u : Use). IsSettled q u table) c.in_ok-used.ensures.used c.in_ok-table.ensures.settled in
    let rooted = subst (λ (u : Use). IsRooted q u table) c.in_ok-used.ensures.used (c.if-roots_spent.ensures network) in
    rooted_left q (use_of c.args.paths.now) table (sym c.if-not-in_order.ensures.in_order) settled rooted

pub returns-clause-none : goal.returns-clause-none
returns-clause-none g c =
    let network = g.R.Roads.network c.args.roads.now in
    let q = asks (network c.args.uid.now) c.args.roots.now c.args.target.now in
    let table = c.in_ok-table.table in
    let settled = subst (λ (u : Use). IsSettled q u table) c.in_ok-used.ensures.used c.in_ok-table.ensures.settled in
    let rooted = subst (λ (u : Use). IsRooted q u table) c.in_ok-used.ensures.used (c.if-roots_spent.ensures network) in (
      λ e. rooted_left q (use_of c.args.paths.now) table (sym c.if-not-in_order.ensures.in_order) settled rooted,
      λ left. refl,
    )

pub returns-clause-accepted : goal.returns-clause-accepted
returns-clause-accepted g c wanted a lt =
    let network = g.R.Roads.network c.args.roads.now in
    let q = asks (network c.args.uid.now) c.args.roots.now c.args.target.now in
    let table = c.in_ok-table.table in
    let settled = subst (λ (u : Use). IsSettled q u table) c.in_ok-used.ensures.used c.in_ok-table.ensures.settled in
    let rooted = subst (λ (u : Use). IsRooted q u table) c.in_ok-used.ensures.used (c.if-roots_spent.ensures network) in
    let left = rooted_left q (use_of c.args.paths.now) table (sym c.if-not-in_order.ensures.in_order) settled rooted in
    elim a.ends [ inl le ↦ omega (arith, le, lt) | inr spent ↦ spent left.0 left.1 ]
