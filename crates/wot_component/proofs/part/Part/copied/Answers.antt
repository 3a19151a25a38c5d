use Rattle.std.proofs.Common.{◌≡◌, map, ap, ◌∙◌}
use Rattle.wot_component.specs.Copied.{copied, mark_under}
use Rattle.wot_component.proofs.Wholes.{marked_rises}
use Rattle.wot_component.proofs.part.Part.copied.Goals as goal

pub invariant_of-result : goal.invariant_of-result
invariant_of-result c =
    let e : c.in_ok-sigs.sigs.items ≡ map (copied c.args.marks) c.self.inside.sigs.items =
    c.in_ok-sigs.ensures ∙ ap (map (copied c.args.marks)) c.deref-2.ensures.value in
    rw e (marked_rises (λ s. mark_under c.args.marks s.admitted) c.self.inside.sigs.items c.self.invariant)
