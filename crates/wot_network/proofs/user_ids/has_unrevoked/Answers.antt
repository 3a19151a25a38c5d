use Rattle.std.proofs.Common.{◌+◌, not, ap, sym, arith}
use Rattle.wot_network.specs.Places.{is_first}
use Rattle.wot_network.specs.Records.{is_user_id}
use Rattle.wot_network.proofs.Places.{found_on, first_false, second_false}
use Rattle.wot_network.proofs.user_ids.has_unrevoked.Goals.{else-not-is_first-via-then-not-is_first+else-is_user_id}
use Rattle.wot_network.proofs.user_ids.has_unrevoked.Goals.{else-not-is_first-via-else-not-is_first}
use Rattle.wot_network.proofs.user_ids.has_unrevoked.Goals as goal

pub rest-preserved : goal.rest-preserved
rest-preserved c =
    let first = is_first c.rest.place c.rest.left.now in
    let is = is_user_id c.args.u.now c.in-Some.uid.now in
    record {
      count = let step = c.in-Some.ensures.cases.1 in let before = c.rest.invariant.count in
          omega (arith, step, before);
      found =
          found_on c.args.u.now c.args.user_ids.now c.args.revoked.now c.rest.place c.rest.left.now c.rest.rest.now
          c.in-Some.others.now c.in-Some.uid.now c.in-Some.ensures.cases.0 c.rest.invariant.found
          c.behind_first-left.result.now c.behind_first-left.ensures.behind
          (elim c.else-not-is_first.branch [
            | else-not-is_first-via-then-not-is_first+else-is_user_id w ↦
                second_false (not first) is (sym w.if-is_user_id.ensures.is)
            | else-not-is_first-via-else-not-is_first w ↦
                first_false (not first) is (ap not (sym w.if-not-is_first.ensures.first))
          ]);
    }
