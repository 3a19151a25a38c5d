use Rattle.std.proofs.Common.{◌++◌, ◌∷◌, ◌*◌, [], length}
use Rattle.wot_check.proofs.Sums.{used_more}
use Rattle.wot_check.proofs.using.used_by.Goals as goal

pub rest-preserved : goal.rest-preserved
rest-preserved c =
    let done = c.rest.invariant.0 in
    let u = c.rest.invariant.1 in
    let path = c.in-Some.path.now in (
      done ++ path ∷ [],
      used_more c.rest.used c.add.new.used c.args.paths.now done c.rest.rest.now c.in-Some.later.now path
          c.in-Some.ensures.cases.0 u (c.in_ok-add.ensures.used done u.used)
          (c.in_ok-add.ensures.below (255 * length done) u.below),
    )
