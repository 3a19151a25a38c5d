-- What a search for the greatest amount found, of the search's own clauses.
use Rattle.std.proofs.Common.{◌≡◌, ℕ, true, List, Option, Some, None}
use Rattle.wot_types.specs.declared.fpr.Fpr.{Fpr}
use Rattle.wot_edge.specs.declared.path.Path.{Path}
use Rattle.wot_edge.specs.Record.{Record, Has, entry_at}
use Rattle.wot_edge.specs.Sums.{Sums, use_in}
use Rattle.wot_first_path.specs.Growth.{IsResult, IsLookedBy}
use Rattle.wot_first_path.proofs.Layers.{looked_grows}
use Rattle.wot_reach.specs.Reach.{number_at}
use Rattle.wot_reach.proofs.Within.{Holds}
use Rattle.wot_first_path.specs.declared.asked.Asked.{Asked}
use Rattle.wot_search.specs.Asked.{question_of}
use Rattle.wot_search.specs.Widest.{widest_of, IsWidestNoted, IsWidestOrSpent}
use Rattle.wot_search.proofs.NextOfTwo.{spent_next, spent_local}

module _ (network : List ℕ → Record) (asked : Asked) (used : Sums)
    (holds : Holds (number_at asked.reach.now) (question_of network asked) (use_in used)) where
  pub widest_is : (entry_at (network asked.uid.now) asked.target.now).in_order ≡ true → (found : Option Path)
      → IsResult (widest_of network asked used) found → IsWidestOrSpent network asked used found
  widest_is ok None f = spent_next (number_at asked.reach.now) (question_of network asked) (use_in used) holds f
  widest_is ok (Some path) f = record { in_order = ok; result = f }

  pub widest_noted : (noted : Fpr → Type 0) (found : Option Path) → IsResult (widest_of network asked used) found
      → IsLookedBy (widest_of network asked used) noted found → IsWidestNoted network asked used noted found
  widest_noted noted None f looked = λ all set has other a.
      spent_local (number_at asked.reach.now) all (question_of network asked) (use_in used) holds set f
      (looked_grows (widest_of network asked used) 255 noted (Has set) has looked) other a
  widest_noted noted (Some path) f looked = looked
