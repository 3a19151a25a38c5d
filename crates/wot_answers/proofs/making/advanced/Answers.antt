use Rattle.std.specs.Prelude.{IfOk, IfSome}
use Rattle.std.proofs.Common.{Option, sym, subst}
use Rattle.wot_reach.specs.declared.making.Making.{Making}
use Rattle.wot_reach.specs.Making.{IsMaking}
use Rattle.wot_network.specs.Net.{Present, network_for}
use Rattle.wot_answers.specs.Question.{present_in}
use Rattle.wot_answers.proofs.making.advanced.Goals as goal

pub advanced-requires : goal.advanced-requires
advanced-requires c =
    let roots = c.args.parts.now.roots.now in
    let taken = subst (λ (o : Option Making). IfSome o (IsMaking (network_for (present_in c.args.parts.now)) roots))
    c.in-Some.is c.requires.taken in
    record {
      making = subst (λ (present : Present). IsMaking (network_for present) roots c.in-Some.making)
          (sym c.requires.present) taken;
    }

pub returns-in-Some : goal.returns-in-Some
returns-in-Some c = record {
  making = subst (λ (present : Present). IfOk c.advanced.result (IsMaking (network_for present) c.args.parts.now.roots.now))
      c.requires.present c.advanced.ensures.making;
}
