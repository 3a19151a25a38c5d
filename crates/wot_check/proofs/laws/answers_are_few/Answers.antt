use Rattle.wot_check.proofs.Few.{few_paths}
use Rattle.wot_check.proofs.laws.answers_are_few.Goals as goal

pub returns : goal.returns
returns c = record
    { few = λ q paths each roots most. few_paths q paths each roots most (c.paths_fit.ensures.sum q paths each) }
