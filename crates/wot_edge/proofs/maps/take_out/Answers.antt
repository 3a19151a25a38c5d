use Rattle.std.proofs.Common.{◌≡◌, cond, None, Ordering, subst}
use Rattle.std.specs.BTreeMap.{is_at}
use Rattle.std.specs.Map.{lookup}
use Rattle.wot_types.specs.declared.fpr.Fpr.{Fpr}
use Rattle.wot_types.specs.FprLaws.{same_cmp}
use Rattle.wot_edge.proofs.maps.take_out.Goals as goal

pub returns-clause-gets : goal.returns-clause-gets
returns-clause-gets g c q =
    let P : (Fpr → Fpr → Ordering) → Type 0 =
    λ cmp. lookup (is_at (cmp q)) c.remove.new.self.entries ≡ cond (is_at (cmp c.args.fpr.now) q) None
    (lookup (is_at (cmp q)) c.args.map.now.entries) in
    subst P same_cmp (c.remove.ensures.updates.0 q)
