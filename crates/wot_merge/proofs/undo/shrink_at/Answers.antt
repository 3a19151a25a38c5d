use Rattle.std.proofs.Common.{◌≡◌, Some, sym, subst}
use Rattle.std.specs.BTreeMap.{is_at}
use Rattle.std.specs.Map.{lookup}
use Rattle.std.specs.declared.cmp.Ordering.{Ordering}
use Rattle.wot_types.specs.declared.fpr.Fpr.{Fpr}
use Rattle.wot_types.specs.FprLaws.{same_cmp}
use Rattle.wot_merge.specs.Staging.{MayShrink}
use Rattle.wot_merge.proofs.undo.shrink_at.Goals as goal

pub shrink-requires : goal.shrink-requires
shrink-requires c =
    let found = subst (λ (cmp : Fpr → Fpr → Ordering). Some c.in-Some.kept.now ≡ lookup (is_at (cmp c.args.fpr.now))
    c.args.certs.now.entries) same_cmp c.in-Some.ensures.value in
    record { leads = subst (MayShrink c.args.growth) (sym found) c.requires.may }
