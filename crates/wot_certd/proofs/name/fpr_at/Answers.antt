use Rattle.std.proofs.Common.{arith}
use Rattle.std.proofs.lemmas.Grind.{common_steps}
use Rattle.wot_certd.proofs.Places.{length_there, slash_there}
use Rattle.wot_certd.proofs.name.fpr_at.Goals as goal

pub returns-then-not-is_split-clause-again : goal.returns-then-not-is_split-clause-again
returns-then-not-is_split-clause-again c = λ fpr f e.
    let yes = c.is_split.ensures.only (length_there c.args.place.now fpr f e) (slash_there c.args.place.now fpr f e) in
    grind (arith, common_steps, yes)
