use Rattle.std.proofs.Common.{◌≡◌, cond, Some, Ordering, subst}
use Rattle.std.specs.BTreeMap.{is_at}
use Rattle.std.specs.Map.{lookup}
use Rattle.wot_types.specs.declared.fpr.Fpr.{Fpr}
use Rattle.wot_types.specs.FprLaws.{same_cmp}
use Rattle.wot_standing.proofs.certifiers.keep.Goals as goal

pub returns : goal.returns
returns c q =
    let P : (Fpr → Fpr → Ordering) → Type 0 =
    λ cmp. lookup (is_at (cmp q)) c.insert.new.self.entries ≡ cond (is_at (cmp c.args.issuer) q)
    (Some c.args.number) (lookup (is_at (cmp q)) c.args.numbers.now.entries) in
    subst P same_cmp (c.in_ok-insert.ensures.updates.0 q)
