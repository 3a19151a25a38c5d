use Rattle.std.proofs.Common.{◌≡◌, subst, Ordering}
use Rattle.std.specs.BTreeMap.{is_at}
use Rattle.std.specs.List.{list_any}
use Rattle.wot_types.specs.declared.fpr.Fpr.{Fpr}
use Rattle.wot_types.specs.FprLaws.{same_cmp}
use Rattle.wot_cache.proofs.basis.has.Goals as goal

pub returns : goal.returns
returns c =
    let P : (Fpr → Fpr → Ordering) → Type 0 = λ cmp. c.contains.result ≡ list_any (is_at (cmp c.args.fpr.now))
    c.args.set.now.keys in
    record { has = subst P same_cmp c.contains.ensures }
