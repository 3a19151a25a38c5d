use Rattle.std.proofs.Common.{◌≡◌, ◌<◌, ◌≤◌, cond, Some, Ordering, arith, sym, subst}
use Rattle.std.specs.BTreeMap.{insert_entry, is_at}
use Rattle.std.specs.Map.{lookup}
use Rattle.wot_types.specs.declared.fpr.Fpr.{Fpr}
use Rattle.wot_types.specs.Fpr.{same_fpr}
use Rattle.wot_types.specs.FprLaws.{same_cmp}
use Rattle.wot_check.specs.Table.{AreLabels, Labels, label_at}
use Rattle.wot_check.proofs.Entries.{labels_insert}
use Rattle.wot_check.proofs.table.Table.set.Goals as goal

pub invariant_of-self-2 : goal.invariant_of-self-2
invariant_of-self-2 c =
    let P : (Fpr → Fpr → Ordering) → Type 0 =
    λ cmp. c.insert.new.self.entries ≡ insert_entry cmp c.self.inside.labels.entries c.args.fpr c.args.label in
    let some : 0 < c.args.label = (let n = c.requires.some in omega (arith, n)) in
    let small : c.args.label ≤ 255 = (let n = c.ranges.label in omega arith) in
    subst AreLabels (sym (subst P same_cmp c.in_ok-insert.ensures.entries))
    (labels_insert c.self.inside.labels.entries c.args.fpr c.args.label c.self.invariant (some, small))

pub returns-clause-gets : goal.returns-clause-gets
returns-clause-gets c other =
    let P : (Fpr → Fpr → Ordering) → Type 0 =
    λ cmp. lookup (is_at (cmp other)) c.insert.new.self.entries ≡ cond (is_at (cmp c.args.fpr) other)
    (Some c.args.label) (lookup (is_at (cmp other)) c.self.inside.labels.entries) in
    subst (λ (table : Labels). label_at c.insert.new.self.entries other ≡ cond (same_fpr c.args.fpr other)
    (Some c.args.label) (label_at table other)) c.self.view_is
    (subst P same_cmp (c.in_ok-insert.ensures.updates.0 other))
