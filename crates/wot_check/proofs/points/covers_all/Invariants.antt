use Rattle.wot_check.specs.Asked.{question_of, used_in}
use Rattle.wot_check.proofs.ThreePoints.{LabelsSoFar}
use Rattle.wot_check.proofs.Rows.{Within}
use Rattle.wot_check.proofs.points.covers_all.Given as goal

abbrev pub invariant-rest : goal.invariant-rest
invariant-rest g l =
    (goal.iterator-rest g).can_next l.rest
    × (goal.iterator-rest g).is_finite l.rest
    × record {
      within : Within l.rest l.table;
      covered : LabelsSoFar (question_of (g.R.Roads.network l.roads) l.asked) (used_in l.asked) l.table l.rest;
    }
