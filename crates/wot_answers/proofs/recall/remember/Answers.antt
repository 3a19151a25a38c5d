use Rattle.std.proofs.Common.{sym, subst, ◌∙◌}
use Rattle.wot_answers.specs.Answers.{IsFound}
use Rattle.wot_answers.specs.Looked.{Amounts}
use Rattle.wot_answers.specs.Asked.{IsFoundOver}
use Rattle.wot_answers.proofs.WereKept.{kept_as, over_carries}
use Rattle.wot_answers.proofs.recall.remember.Goals as goal

pub returns-in-Ok : goal.returns-in-Ok
returns-in-Ok c =
    let k = c.args.parts.now.keyring.now in
    let roots = c.requires.settled.roots in
    record {
      settled = record {
        right = c.keep.ensures.right k c.requires.settled.right c.in-Ok.ensures.right
            (subst (λ (roots : Amounts). IsFound k roots c.in-Ok.kept) (sym roots) c.in-Ok.ensures.found);
        roots = c.keep.ensures.roots ∙ roots;
      };
      kept = kept_as (IsFoundOver c.args.parts.now c.args.asked.now) (over_carries c.args.parts.now c.args.asked.now)
          c.args.of_view.now.entries c.keep.new.self.entries c.in-Ok.kept c.in-Ok.ensures.by c.keep.ensures.kept;
    }
