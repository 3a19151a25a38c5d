-- The orders of edges, of steps, and of lists of steps.
use Rattle.std.specs.Prelude.{List}
use Rattle.std.specs.declared.cmp.Ordering.{Ordering}
use Rattle.std.specs.Ordering.{nat_cmp, on, then_cmp}
use Rattle.std.specs.Cmp.Lexicographic.{slice_cmp}
use Rattle.wot_types.specs.Fpr.{fpr_cmp}
use Rattle.wot_edge.specs.declared.edge.EdgeFacts.{EdgeFacts}
use Rattle.wot_edge.specs.declared.path.Step.{Step}

-- Edges into one target are ordered by issuer and user ID.
abbrev pub edge_cmp : EdgeFacts → EdgeFacts → Ordering
edge_cmp = then_cmp (on (λ edge. edge.issuer) fpr_cmp) (on (λ edge. edge.uid) nat_cmp)

-- Steps are ordered by issuer, target and user ID.
abbrev pub step_cmp : Step → Step → Ordering
step_cmp =
    then_cmp (on (λ step. step.issuer) fpr_cmp)
    (then_cmp (on (λ step. step.target) fpr_cmp) (on (λ step. step.uid) nat_cmp))

-- Lists are compared step by step.
abbrev pub steps_cmp : List Step → List Step → Ordering
steps_cmp a b = slice_cmp step_cmp a b
