use Rattle.std.proofs.Common.{ℕ, List, sym, subst}
use Rattle.wot_types.specs.declared.fpr.Fpr.{Fpr}
use Rattle.wot_reach.specs.Making.{HaveEnoughBut}
use Rattle.wot_reach.specs.Reach.{number_at, number_of}
use Rattle.wot_reach.proofs.Checked.{none_checked}
use Rattle.wot_reach.proofs.Within.{none_onward}
use Rattle.wot_reach.proofs.checking.Checking.new.Goals as goal

pub returns : goal.returns
returns c =
    let numbers = c.args.table.entries in
    let fprs = c.args.fprs.items in
    record {
      checking = λ network roots. record {
        onward = none_onward network (number_at c.of.result) c.of.result.onward c.of.ensures.onward;
        enough = subst (λ (ns : List (Fpr × ℕ)). HaveEnoughBut network roots (number_of ns) fprs)
            (sym c.of.ensures.numbers) (none_checked network roots numbers fprs c.requires.keys);
      };
    }
