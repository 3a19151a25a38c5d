use Rattle.std.proofs.Common.{◌∙◌}
use Rattle.wot_cache.proofs.BasisStaysTrue.{carried_on, moved_now, stands_now, still_now}
use Rattle.wot_cache.proofs.engine.Engine.still_current.Goals as goal

pub returns : goal.returns
returns c =
    let k = c.self.inside.networked.keyring in
    let views = c.self.inside.networked.views.entries in
    let networks = c.self.inside.networked.networks.entries in
    let revisions = c.self.inside.revisions in
    let old = c.args.basis.now in
    let new = c.still_current.new.self in
    record {
      current = λ is.
          stands_now c.args.self.now k views networks revisions c.self.view_is old new (c.still_current.ensures.revisions is
          ∙ c.count.ensures.count)
          (c.still_current.ensures.calm is) (c.still_current.ensures.whole is);
      present = λ is.
          moved_now c.args.self.now k views networks revisions c.self.view_is old new (c.still_current.ensures.revisions is
          ∙ c.count.ensures.count) (c.still_current.ensures.moved is);
      still = still_now c.args.self.now k views networks revisions c.self.view_is old new c.still_current.result c.count.result
          c.still_current.ensures.still c.count.ensures.count;
      carries_on = carried_on c.args.self.now k views networks revisions c.self.view_is old new c.still_current.result
          c.still_current.ensures.calm c.still_current.ensures.whole
          c.still_current.ensures.moved c.still_current.ensures.kept;
      kept = c.still_current.ensures.kept;
    }
