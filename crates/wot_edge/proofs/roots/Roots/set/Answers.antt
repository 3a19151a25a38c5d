use Rattle.std.proofs.Common.{◌<◌, ◌≤◌, arith, sym, subst}
use Rattle.wot_types.specs.Fpr.{fpr_cmp}
use Rattle.wot_edge.specs.Roots.{AreAmounts}
use Rattle.wot_edge.proofs.Amounts.{all-insert_entry, all-remove_entry}
use Rattle.wot_edge.proofs.roots.Roots.set.Goals as goal

pub invariant_of-self : goal.invariant_of-self
invariant_of-self c =
    rw c.take_out.ensures.entries
    (all-remove_entry (λ amount. (0 < amount) × (amount ≤ 255)) _ c.self.inside.amounts.entries c.self.invariant)

pub invariant_of-self-2 : goal.invariant_of-self-2
invariant_of-self-2 c =
    let pos : 0 < c.args.amount = (let n = c.if-amount-eq0.false in omega arith) in
    let small : c.args.amount ≤ 255 = (let n = c.ranges.amount in omega arith) in
    subst AreAmounts (sym c.in_ok-put.ensures.entries)
    (all-insert_entry (λ amount. (0 < amount) × (amount ≤ 255)) fpr_cmp c.self.inside.amounts.entries c.args.fpr
    c.args.amount c.self.invariant (pos, small))
