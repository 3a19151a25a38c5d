use Rattle.std.proofs.Common.{List, map, sym, subst}
use Rattle.wot_policy.specs.Kept.{rows_of}
use Rattle.wot_component.specs.Certificate.{Signature, sig_cmp, kept}
use Rattle.wot_component.specs.Judged.{judged_sig}
use Rattle.wot_component.specs.Ranked.{IsRising}
use Rattle.wot_component.proofs.Rank.{united_rises}
use Rattle.wot_component.proofs.Walk.{sigs_total, kept_same}
use Rattle.wot_component.proofs.part.Part.grow.Goals as goal

pub invariant_of-self : goal.invariant_of-self
invariant_of-self g c =
    subst (λ (xs : List Signature). IsRising sig_cmp xs) (sym c.in-Ok.ensures.union)
    (united_rises sig_cmp kept sigs_total kept_same c.self.inside.sigs.items
    (map (judged_sig (rows_of c.args.policy.now)) c.sigs.result.now) c.self.invariant)
