use Rattle.std.proofs.Common.{[], subst}
use Rattle.wot_cache.specs.State.{state_of}
use Rattle.wot_machine.specs.Machine.{Machine}
use Rattle.wot_plain.specs.Watching.{AreLines}
use Rattle.wot_machine.proofs.machine.Machine.is_settled.Goals as goal

pub returns-clause-settled : goal.returns-clause-settled
returns-clause-settled c = λ quiet.
    subst (λ (m : Machine). AreLines (state_of m.engine) m.watches []) c.self.view_is
    (c.are_settled.ensures.quiet quiet)
