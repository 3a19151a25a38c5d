use Rattle.std.proofs.Common.{List, refl, subst}
use Rattle.wot_answers.specs.declared.looked.Looked.{Looked}
use Rattle.wot_answers.specs.Looked.{AreStill}
use Rattle.wot_cache.specs.Basis.{AllIn}
use Rattle.wot_cache.proofs.BasisStaysTrue.{sum_rests}
use Rattle.wot_cache.proofs.basis.sum_of.Goals as goal

pub returns-clause-rests : goal.returns-clause-rests
returns-clause-rests c =
    sum_rests c.args.keyring.now c.rest_on.new.self.fprs c.args.seen_from.now c.args.asked.now.target.now
    c.args.asked.now.wanted c.args.asked.now.uid.now c.args.kept.now c.in-Some.looked
    c.in-Some.is c.requires.right (c.if-not-is_of.ensures.same refl)
    (subst (λ (ls : List Looked). AreStill c.args.keyring.now c.args.seen_from.now.roots ls) c.as_slice.ensures.value
    (c.if-not-are_still.ensures.still refl))
    (subst (λ (ls : List Looked). AllIn c.rest_on.new.self.fprs ls) c.as_slice-else-not-are_still.ensures.value
    (c.if-not-rest_on.ensures.all refl))
