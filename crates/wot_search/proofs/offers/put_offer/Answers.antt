use Rattle.std.proofs.Common.{None, Some, Option, sym, subst}
use Rattle.std.proofs.lemmas.List.{append-nil}
use Rattle.wot_edge.specs.declared.path.Path.{Path}
use Rattle.wot_search.specs.Offers.{IsOfferIf}
use Rattle.wot_first_path.specs.Quest.{quest_of}
use Rattle.wot_first_path.specs.Reached.{look}
use Rattle.wot_search.proofs.offers.put_offer.Goals as goal

pub returns-in-None : goal.returns-in-None
returns-in-None c network = record {
  offer = None;
  is = subst (λ (o : Option Path). IsOfferIf (quest_of network c.args.quest.now) (look c.args.nodes.now) c.args.size
      c.args.fpr.now o) c.in-None.is (c.in_ok-offer_of.ensures network);
  whole = sym (append-nil c.args.paths.now.items);
}

pub returns-in_ok-push-in-Some : goal.returns-in_ok-push-in-Some
returns-in_ok-push-in-Some c network = record {
  offer = Some c.in-Some.path;
  is = subst (λ (o : Option Path). IsOfferIf (quest_of network c.args.quest.now) (look c.args.nodes.now) c.args.size
      c.args.fpr.now o) c.in-Some.is (c.in_ok-offer_of.ensures network);
  whole = c.in_ok-push-in-Some.ensures.items;
}
