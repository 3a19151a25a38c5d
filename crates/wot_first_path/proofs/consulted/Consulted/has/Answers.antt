use Rattle.std.proofs.Common.{◌≡◌, sym, subst, ◌∙◌, List, Ordering}
use Rattle.std.specs.BTreeMap.{is_at}
use Rattle.std.specs.List.{list_any}
use Rattle.wot_types.specs.declared.fpr.Fpr.{Fpr}
use Rattle.wot_types.specs.FprLaws.{same_cmp}
use Rattle.wot_edge.specs.Record.{Has}
use Rattle.wot_first_path.proofs.Members.{any_has, has_any}
use Rattle.wot_first_path.proofs.consulted.Consulted.has.Goals as goal

pub returns : goal.returns
returns c =
    let P : (Fpr → Fpr → Ordering) → Type 0 =
    λ cmp. c.contains.result ≡ list_any (is_at (cmp c.args.fpr.now)) c.self.inside.fprs.keys in
    let any = subst P same_cmp c.contains.ensures in
    record {
      has = (
        λ e. subst (λ (xs : List Fpr). Has xs c.args.fpr.now) c.self.view_is
            (any_has c.self.inside.fprs.keys c.args.fpr.now (sym any ∙ e)),
        λ h. any ∙ has_any c.self.inside.fprs.keys c.args.fpr.now
            (subst (λ (xs : List Fpr). Has xs c.args.fpr.now) (sym c.self.view_is) h),
      );
    }
