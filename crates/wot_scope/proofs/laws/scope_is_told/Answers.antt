use Rattle.wot_scope.proofs.ScopeDecided.{scope_told}
use Rattle.wot_scope.proofs.laws.scope_is_told.Goals as goal

pub returns : goal.returns
returns c = record { reported = scope_told c.reading_is_told.ensures.reported c.matching_is_told.ensures.reported }
