use Rattle.std.proofs.Common.{arith}
use Rattle.std.proofs.lemmas.Grind.{common_steps}
use Rattle.wot_certd.proofs.Places.{digits_there, read_there}
use Rattle.wot_certd.proofs.name.fpr_of_split.Goals as goal

pub returns-in-Some-clause-again : goal.returns-in-Some-clause-again
returns-in-Some-clause-again g c = λ fpr f e.
    grind (arith, common_steps, digits_there c.args.place.now fpr f e, read_there c.args.place.now fpr f e)

pub returns-in-None-clause-again : goal.returns-in-None-clause-again
returns-in-None-clause-again g c = λ fpr f e.
    grind (arith, common_steps, digits_there c.args.place.now fpr f e, read_there c.args.place.now fpr f e)
