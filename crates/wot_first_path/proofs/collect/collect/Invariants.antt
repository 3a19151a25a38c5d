use Rattle.std.proofs.Common.{◌≡◌, List, length}
use Rattle.wot_edge.specs.declared.path.Step.{Step}
use Rattle.wot_edge.specs.Record.{IsRecord}
use Rattle.wot_edge.specs.Path.{start}
use Rattle.wot_first_path.specs.Quest.{Quest}
use Rattle.wot_first_path.specs.Suffix.{Kept}
use Rattle.wot_first_path.specs.Reached.{look}
use Rattle.wot_first_path.proofs.SuffixByEdges.{IsLeft}
use Rattle.wot_first_path.proofs.collect.collect.Given as goal

abbrev pub invariant-edges : goal.invariant-edges
invariant-edges l =
    (quest : Quest) → IsRecord quest.question.network → (steps : List Step) → Kept quest (look l.nodes) steps
    → length steps ≡ l.size → start quest.question.target steps ≡ l.fn.from
    → IsLeft quest (look l.nodes) l.steps.items l.at l._i steps
