use Rattle.std.proofs.Common.{refl, sym, subst}
use Rattle.wot_edge.specs.Lawful.{AreRows}
use Rattle.wot_edge.specs.Plain.{AreLines}
use Rattle.wot_edge.proofs.PlainTold.{lines_put}
use Rattle.wot_edge.proofs.plain.PlainRoads.put.Goals as goal

pub invariant_of-self-2 : goal.invariant_of-self-2
invariant_of-self-2 c =
    let rows = subst (AreRows c.args.fpr) c.deref.ensures.value (c.if-not-are_rows.ensures.rows.0 refl) in
    subst AreLines (sym c.in_ok-put.ensures.entries)
    (lines_put c.self.inside.lines.entries c.args.fpr
    (record { edges = c.args.edges.items; in_order = c.args.in_order }) c.self.invariant rows)
