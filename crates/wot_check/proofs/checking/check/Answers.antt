use Rattle.wot_edge.specs.Path.{asks}
use Rattle.wot_check.proofs.CheckResults.{checked_yes, checked_bad_paths, checked_bad_table, accepts_spent}
use Rattle.wot_check.proofs.checking.check.Goals as goal

pub returns-clause-yes : goal.returns-clause-yes
returns-clause-yes g c =
    let q = asks (g.R.Roads.network c.args.roads.now c.args.uid.now) c.args.roots.now c.args.target.now in
    checked_yes q c.in_ok-checked.ensures.lawful c.args.paths.now c.args.table.now c.in_ok-checked.checked
    c.in_ok-checked.ensures.checked

pub returns-clause-bad_paths : goal.returns-clause-bad_paths
returns-clause-bad_paths g c =
    let q = asks (g.R.Roads.network c.args.roads.now c.args.uid.now) c.args.roots.now c.args.target.now in
    checked_bad_paths q c.in_ok-checked.ensures.lawful c.args.paths.now c.args.table.now c.in_ok-checked.checked
    c.in_ok-checked.ensures.checked

pub returns-clause-rejects : goal.returns-clause-rejects
returns-clause-rejects g c =
    let q = asks (g.R.Roads.network c.args.roads.now c.args.uid.now) c.args.roots.now c.args.target.now in
    checked_bad_table q c.in_ok-checked.ensures.lawful c.args.paths.now c.args.table.now c.in_ok-checked.checked
    c.in_ok-checked.ensures.checked

pub returns-clause-spent : goal.returns-clause-spent
returns-clause-spent g c e =
    let q = asks (g.R.Roads.network c.args.roads.now c.args.uid.now) c.args.roots.now c.args.target.now in
    let good = c.in_ok-checked.ensures.lawful in
    accepts_spent q good c.args.paths.now c.args.table.now
    ((checked_yes q good c.args.paths.now c.args.table.now c.in_ok-checked.checked c.in_ok-checked.ensures.checked).0 e)
