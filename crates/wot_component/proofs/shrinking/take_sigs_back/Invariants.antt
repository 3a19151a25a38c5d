use Rattle.std.proofs.Common.{◌≡◌, vec_len}
use Rattle.wot_component.specs.Growing.{without_all}
use Rattle.wot_component.proofs.shrinking.take_sigs_back.Given as goal

abbrev pub invariant-log : goal.invariant-log
invariant-log l = without_all l.log.items l.sigs.items ≡ without_all l.initial.log.items l.initial.sigs.items

abbrev pub decreases-log : goal.decreases-log
decreases-log l = vec_len l.log
