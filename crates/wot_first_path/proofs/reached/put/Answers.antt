use Rattle.std.proofs.Common.{◌≡◌, cond, subst, Ordering, Some}
use Rattle.std.specs.BTreeMap.{is_at}
use Rattle.std.specs.Map.{lookup}
use Rattle.wot_types.specs.declared.fpr.Fpr.{Fpr}
use Rattle.wot_types.specs.FprLaws.{same_cmp}
use Rattle.wot_first_path.proofs.reached.put.Goals as goal

pub returns-in_ok-push-2-clause-nodes : goal.returns-in_ok-push-2-clause-nodes
returns-in_ok-push-2-clause-nodes c fpr =
    let P : (Fpr → Fpr → Ordering) → Type 0 =
    λ cmp. lookup (is_at (cmp fpr)) c.insert.new.self.entries ≡ cond (is_at (cmp c.args.node.step.issuer) fpr)
    (Some c.args.node) (lookup (is_at (cmp fpr)) c.args.reached.now.nodes.entries) in
    subst P same_cmp (c.in_ok-before.ensures.updates.0 fpr)

pub returns-else-is_none-clause-nodes : goal.returns-else-is_none-clause-nodes
returns-else-is_none-clause-nodes c fpr =
    let P : (Fpr → Fpr → Ordering) → Type 0 =
    λ cmp. lookup (is_at (cmp fpr)) c.insert.new.self.entries ≡ cond (is_at (cmp c.args.node.step.issuer) fpr)
    (Some c.args.node) (lookup (is_at (cmp fpr)) c.args.reached.now.nodes.entries) in
    subst P same_cmp (c.in_ok-before.ensures.updates.0 fpr)
