-- Paths use no more than there is.
use Rattle.std.specs.Prelude.{◌+◌, ◌≤◌, List, [], ◌∷◌, ◌++◌}
use Rattle.wot_edge.specs.declared.path.Path.{Path}
use Rattle.wot_edge.specs.declared.path.Step.{Step}
use Rattle.wot_edge.specs.Record.{Has}
use Rattle.wot_edge.specs.Path.{Use, use_of}

-- Each step's amount is enough for this path's amount and what earlier paths used of its pair.
abbrev pub Fits : Use → Path → Type 0
Fits used path = (step : Step) → Has path.steps step → path.amount + used.pair step.issuer step.target ≤ step.amount

-- Each path fits after the earlier ones and those before it.
abbrev pub AllFit : List Path → List Path → Type 0
AllFit earlier [] = Unit {0}
AllFit earlier (path ∷ paths) = Fits (use_of earlier) path × AllFit (earlier ++ path ∷ []) paths
