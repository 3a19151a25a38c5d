use Rattle.std.proofs.Common.{◌∷◌, [], length, subst}
use Rattle.std.specs.List.{AllByRecursion}
use Rattle.wot_types.specs.PlainLaws.{all_prefix, seam}
use Rattle.wot_live.specs.Found.{HasFew}
use Rattle.wot_live.proofs.EdgesBounded.{count_more}
use Rattle.wot_live.proofs.Finding.{newest_more, none_more}
use Rattle.wot_live.proofs.found.find.Goals as goal

pub back-preserved : goal.back-preserved
back-preserved c =
    let a = c.args in
    let part = c.in-Some.part.now in
    let prefix = c.in-Some.prefix.now in
    let before = c.back.invariant in
    let added = c.in_ok-next.ensures in
    record {
      seen = part ∷ before.seen;
      all = seam a.cert.now.user_ids c.back.rest.now prefix before.seen part before.all c.in-Some.ensures.cases.0;
      few = all_prefix HasFew prefix (part ∷ []) (subst (AllByRecursion HasFew) c.in-Some.ensures.cases.0 before.few);
      none = none_more (length prefix) (length c.back.rest.now) c.back.found c.add.new.self c.in-Some.ensures.cases.1
          added.elsewhere before.none;
      newest = newest_more a.verdicts.now.entries a.t (length prefix) (length c.back.rest.now) part before.seen
          c.back.found c.add.new.self c.in-Some.ensures.cases.1 added.newest added.elsewhere before.newest;
      count = count_more part before.seen (length c.back.found) (length c.add.new.self) before.count added.count;
    }
