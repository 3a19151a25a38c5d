use Rattle.std.proofs.Common.{List, IfOk, subst, refl}
use Rattle.std.specs.List.{AllByRecursion}
use Rattle.wot_component.specs.Certificate.{Certificate}
use Rattle.wot_component.specs.Whole.{IsCertificate}
use Rattle.wot_merge.specs.Gather.{DoTheSame, TellsNothing}
use Rattle.wot_merge.proofs.gather.gathered.Goals as goal

pub returns-then-is_alone-clause-whole : goal.returns-then-is_alone-clause-whole
returns-then-is_alone-clause-whole c =
    subst (AllByRecursion IsCertificate) c.as_slice.ensures.value (c.is_alone.ensures c.if-is_alone.true)

pub returns-then-is_alone-clause-same : goal.returns-then-is_alone-clause-same
returns-then-is_alone-clause-same c rows kept whole = refl

pub returns-clause-same : goal.returns-clause-same
returns-clause-same c =
    subst (λ (list : List Certificate). IfOk c.gathered_anew.result (λ gathered. DoTheSame list gathered.items))
    c.as_slice-2.ensures.value c.gathered_anew.ensures.same

pub returns-clause-clash : goal.returns-clause-clash
returns-clause-clash c =
    subst (TellsNothing c.gathered_anew.result) c.as_slice-2.ensures.value c.gathered_anew.ensures.clash
