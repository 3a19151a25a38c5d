use Rattle.wot_reach.specs.Reach.{number_of}
use Rattle.wot_reach.proofs.EdgesThatLead.{onward_added}
use Rattle.wot_reach.proofs.onward.put_onward.Goals as goal

pub returns : goal.returns
returns g c = record {
  onward =
      onward_added (g.R.Roads.network c.args.roads.now) (number_of c.args.numbers.now.entries) c.args.onward.now.items
      c.push.new.self.items c.in_ok-one.one
      c.requires.onward c.in_ok-one.ensures.leads c.in_ok-push.ensures.items;
}
