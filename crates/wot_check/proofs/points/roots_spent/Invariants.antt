use Rattle.std.proofs.Common.{◌≡◌, ◌⊎◌, ℕ, List}
use Rattle.wot_types.specs.declared.fpr.Fpr.{Fpr}
use Rattle.wot_edge.specs.Record.{Has, Record}
use Rattle.wot_edge.specs.Path.{root_left}
use Rattle.wot_check.specs.Asked.{question_of, used_in}
use Rattle.wot_check.proofs.Rows.{Within}
use Rattle.wot_check.proofs.points.roots_spent.Given as goal

abbrev pub invariant-rest : goal.invariant-rest
invariant-rest l =
    (goal.iterator-rest).can_next l.rest
    × (goal.iterator-rest).is_finite l.rest
    × record {
      within : Within l.rest l.table;
      spent : (network : List ℕ → Record) (fpr : Fpr) (label : ℕ) → Has l.table (fpr, label)
          → (root_left (question_of network l.asked) (used_in l.asked) fpr ≡ 0) ⊎ Has l.rest (fpr, label);
    }
