use Rattle.std.proofs.Common.{◌≡◌, vec_len}
use Rattle.wot_component.specs.Growing.{parts_back}
use Rattle.wot_component.proofs.shrinking.take_parts_back.Given as goal

abbrev pub invariant-log : goal.invariant-log
invariant-log l = parts_back l.log.items l.parts.items ≡ parts_back l.initial.log.items l.initial.parts.items

abbrev pub decreases-log : goal.decreases-log
decreases-log l = vec_len l.log
