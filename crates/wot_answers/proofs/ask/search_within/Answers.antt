use Rattle.std.proofs.Common.{sym, subst}
use Rattle.wot_reach.specs.Reach.{IsReach}
use Rattle.wot_network.specs.Net.{Present, network_for}
use Rattle.wot_answers.proofs.Told.{answered_over}
use Rattle.wot_answers.specs.CaseLaws.{both_ok}
use Rattle.wot_answers.proofs.ask.search_within.Goals as goal

pub authenticate_within-requires : goal.authenticate_within-requires
authenticate_within-requires c = record {
  wanted = c.requires.askable.wanted;
  few = c.requires.askable.few;
  reach = subst (λ (present : Present). IsReach (network_for present) c.args.parts.now.roots.now c.args.reach.now)
      (sym c.requires.askable.present) c.requires.reach;
}

pub returns : goal.returns
returns c = record {
  answered = both_ok c.authenticate_within.result _ _ _ (λ a is sum.
      answered_over c.args.parts.now c.args.asked.now a c.requires.askable.present is sum)
      c.authenticate_within.ensures.answer c.authenticate_within.ensures.sum;
}
