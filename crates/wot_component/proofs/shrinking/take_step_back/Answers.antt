use Rattle.std.proofs.Common.{set, sym, ap, ◌∙◌, arith}
use Rattle.wot_component.specs.declared.growth.PartStep.{PartStep}
use Rattle.wot_component.specs.Certificate.{Component}
use Rattle.wot_component.specs.Growing.{shrunk_part, step_back}
use Rattle.wot_component.proofs.Backs.{changed_is, changed_none}
use Rattle.wot_component.proofs.shrinking.take_step_back.Goals as goal

pub returns-then-at-len : goal.returns-then-at-len
returns-then-at-len c =
    let ps = c.args.parts.now.items in
    let at = c.in-Grown.at in
    ap (λ (p : Component). set ps at p)
    (c.take_back.ensures ∙ ap (shrunk_part c.in-Grown.log.items) c.index_mut-part.ensures.value)
    ∙ sym (changed_is at (shrunk_part c.in-Grown.log.items) ps _ (omega (arith, c.if-at-len.true, c.len.ensures)))
    ∙ ap (λ (s : PartStep). step_back s ps) (sym c.in-Grown.is)

pub returns-else-at-len : goal.returns-else-at-len
returns-else-at-len c =
    sym (changed_none c.in-Grown.at (shrunk_part c.in-Grown.log.items) c.args.parts.now.items
    (omega (arith, c.if-at-len.false, c.len.ensures)))
    ∙ ap (λ (s : PartStep). step_back s c.args.parts.now.items) (sym c.in-Grown.is)
