use Rattle.std.proofs.Common.{sym, subst}
use Rattle.std.specs.List.{AllByRecursion}
use Rattle.wot_component.specs.Whole.{IsCertificate}
use Rattle.wot_merge.proofs.gather.is_alone.Goals as goal

pub returns-in-Some : goal.returns-in-Some
returns-in-Some c = λ alone. subst (AllByRecursion IsCertificate) (sym c.in-Some.ensures) (c.fpr.ensures.whole, tt)
