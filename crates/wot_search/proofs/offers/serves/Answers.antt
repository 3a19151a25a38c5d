use Rattle.std.proofs.Common.{sym, ◌∙◌}
use Rattle.wot_search.proofs.OneSearch.{all_wide}
use Rattle.wot_search.proofs.offers.serves.Goals as goal

pub returns : goal.returns
returns c = record {
  most = λ yes. c.is_most.ensures.most c.if-not-is_most.false;
  wide = λ yes. all_wide c.args.amount c.args.nodes.now.entries (sym c.are_wide.ensures.wide ∙ yes);
}
