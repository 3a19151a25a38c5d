use Rattle.std.proofs.Common.{ap, ◌∙◌}
use Rattle.wot_index.specs.Index.{holder_of, unless}
use Rattle.wot_slots.proofs.Numbers.{turned}
use Rattle.wot_index.proofs.forgetting.forget.Goals as goal

pub returns-clause-forgotten : goal.returns-clause-forgotten
returns-clause-forgotten c = λ n. c.let_go.ensures.gone n
    ∙ ap (λ b. unless b (holder_of c.args.verdicts.now n)) (turned c.args.number.now n)
