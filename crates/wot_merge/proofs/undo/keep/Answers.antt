use Rattle.std.proofs.Common.{◌≡◌, subst}
use Rattle.std.specs.BTreeMap.{is_at}
use Rattle.std.specs.Map.{lookup}
use Rattle.std.specs.declared.cmp.Ordering.{Ordering}
use Rattle.wot_types.specs.declared.fpr.Fpr.{Fpr}
use Rattle.wot_types.specs.FprLaws.{same_cmp}
use Rattle.wot_merge.proofs.undo.keep.Goals as goal

pub returns-in-Ok-clause-was : goal.returns-in-Ok-clause-was
returns-in-Ok-clause-was c = subst (λ (cmp : Fpr → Fpr → Ordering). c.in-Ok.was ≡ lookup (is_at (cmp c.args.fpr))
    c.args.certs.now.entries) same_cmp c.in-Ok.ensures.old
