use Rattle.std.proofs.Common.{sym, subst}
use Rattle.std.specs.List.{AllByRecursion}
use Rattle.wot_component.specs.Whole.{IsCertificate}
use Rattle.wot_merge.proofs.GatheredMerges.{values_whole}
use Rattle.wot_merge.proofs.gather.gathered_anew.Goals as goal

pub returns-in-Ok-listed-clause-whole : goal.returns-in-Ok-listed-clause-whole
returns-in-Ok-listed-clause-whole c = subst (AllByRecursion IsCertificate) (sym c.in-Ok-listed.ensures.listed)
    (values_whole c.in-Ok.certs.entries c.in-Ok.ensures.own)
