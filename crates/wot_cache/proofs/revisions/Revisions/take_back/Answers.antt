use Rattle.std.proofs.Common.{◌∙◌}
use Rattle.wot_cache.proofs.RevisionsOfViews.{taken_back}
use Rattle.wot_cache.proofs.revisions.Revisions.take_back.Goals as goal

pub returns : goal.returns
returns c = record {
  back = λ before none was. taken_back c.args.view.now before c.self.inside.count c.self.inside.each.entries
      c.remove.new.self.entries none (c.self.view_is ∙ was) c.remove.ensures.entries;
}
