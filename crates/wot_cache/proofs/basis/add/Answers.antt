use Rattle.wot_cache.proofs.BasisStaysTrue.{updated_more}
use Rattle.wot_cache.proofs.basis.add.Goals as goal

pub returns-in-Ok : goal.returns-in-Ok
returns-in-Ok c = record {
  has = λ network. c.in-Ok.ensures.updates.1;
  grows = updated_more c.args.fpr c.args.set.now.keys c.insert.new.self.keys c.in-Ok.ensures.updates.0;
}
