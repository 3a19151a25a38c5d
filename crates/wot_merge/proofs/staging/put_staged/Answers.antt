use Rattle.std.proofs.Common.{ap, ◌∙◌}
use Rattle.std.specs.BTreeMap.{insert_entry}
use Rattle.wot_types.specs.declared.fpr.Fpr.{Fpr}
use Rattle.wot_types.specs.Fpr.{fpr_cmp}
use Rattle.wot_merge.proofs.staging.put_staged.Goals as goal

pub returns-in-Ok-clause-put : goal.returns-in-Ok-clause-put
returns-in-Ok-clause-put c rows terms cert one step =
    let kept = c.args.staged.kept in
    record {
      kept = kept;
      put = c.in-Ok.ensures.entries ∙ ap (λ (f : Fpr). insert_entry fpr_cmp c.args.certs.now.entries f kept) one;
      staged = record {
        kept = step.kept;
        before = step.before;
        after = step.after;
        items = step.items;
        judged = step.judged;
      };
    }
