use Rattle.std.specs.Prelude.{◌≡◌, Some, OnOk}
use Rattle.std.specs.Map.{lookup}
use Rattle.std.proofs.Common.{ℕ, List, subst}
use Rattle.wot_answers.specs.Answers.{OthersKept}
use Rattle.wot_answers.specs.Names.{is_name}
use Rattle.wot_answers.proofs.recall.begin.Goals as goal

pub returns-in-Ok : goal.returns-in-Ok
returns-in-Ok c =
    let new = c.put.new.answers.entries in
    record {
      right = λ k all right. c.put.ensures.right k all right;
      put = subst (λ (name : List ℕ). OnOk c.put.result (lookup (is_name name) new ≡ Some c.args.of_view))
          c.in-Ok.ensures.equal c.put.ensures.put;
      kept = c.put.ensures.kept;
      others = subst (λ (name : List ℕ). OthersKept name c.args.answers.now.entries new)
          c.in-Ok.ensures.equal c.put.ensures.others;
    }
