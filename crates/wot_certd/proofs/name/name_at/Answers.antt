use Rattle.std.proofs.Common.{arith, refl, Some}
use Rattle.std.proofs.lemmas.Grind.{common_steps}
use Rattle.wot_types.specs.declared.name.Name.TheVariants.{TrustRoot}
use Rattle.wot_certd.proofs.Places.{each_name, length_there}
use Rattle.wot_certd.proofs.name.name_at.Goals as goal

pub returns-then-is_same-clause-again : goal.returns-then-is_same-clause-again
returns-then-is_same-clause-again c = each_name c.args.place.now (Some TrustRoot) (λ e. refl)
    (λ fpr f e. grind (arith, common_steps, length_there c.args.place.now fpr f e))

pub returns-else-is_same-clause-again : goal.returns-else-is_same-clause-again
returns-else-is_same-clause-again c = each_name c.args.place.now c.certificate_at.result
    (λ e. grind (arith, common_steps, c.is_same.ensures.1 e)) c.certificate_at.ensures.again
