use Rattle.std.specs.Prelude.{◌↔◌}
use Rattle.wot_scope.specs.Scope.{OneMatches}
use Rattle.wot_scope.proofs.scope.one_matches.Given as goal

abbrev pub invariant-loop-text : goal.invariant-loop-text
invariant-loop-text l = OneMatches l.text-iterator l.uid ↔ OneMatches l.fn.others l.uid
