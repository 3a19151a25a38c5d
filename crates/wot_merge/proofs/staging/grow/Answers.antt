use Rattle.wot_policy.specs.Kept.{rows_of}
use Rattle.wot_component.specs.Judged.{judged}
use Rattle.wot_merge.proofs.Unions.{union_few}
use Rattle.wot_merge.proofs.staging.grow.Goals as goal

pub weigh_cert-requires : goal.weigh_cert-requires
weigh_cert-requires g c =
    let j = judged (rows_of c.args.policy.now) c.args.cert.now in
    union_few c.merge.new.self c.args.start.now c.args.cert.now j c.in-Ok.ensures.union
    (c.united_grows.ensures.together c.args.start.now j) (c.marks_weigh_nothing.ensures.judged_text
    (rows_of c.args.policy.now) c.args.cert.now) (c.are_held.ensures.held c.if-not-are_held.false)
