use Rattle.std.proofs.Common.{◌≡◌, ◌+◌, Ordering, Bool, cond, subst, ap, ◌∙◌}
use Rattle.std.specs.Ordering.{is_eq}
use Rattle.wot_types.specs.declared.fpr.Fpr.{Fpr}
use Rattle.wot_types.specs.Fpr.{fpr_cmp}
use Rattle.wot_types.specs.FprLaws.{same_cmp, same_fpr-sym}
use Rattle.wot_edge.specs.Sums.{sum_at}
use Rattle.wot_edge.proofs.maps.raise_root.Goals as goal

pub returns : goal.returns
returns c =
    let old = c.args.sums.now.entries in
    let P : (Fpr → Fpr → Ordering) → Type 0 =
    λ cmp. (q : Fpr)
    → sum_at cmp c.raise.new.sums.entries q ≡ sum_at cmp old q + cond (is_eq (cmp c.args.fpr q)) c.args.amount 0 in
    record {
      raised = λ q. subst P same_cmp c.raise.ensures.raised q
          ∙ ap (λ (b : Bool). sum_at fpr_cmp old q + cond b c.args.amount 0) (same_fpr-sym c.args.fpr q);
    }
