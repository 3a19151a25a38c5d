use Rattle.std.proofs.Common.{Some, refl}
use Rattle.wot_policy.specs.Kept.{rows_of}
use Rattle.wot_component.specs.Certificate.{unite}
use Rattle.wot_component.specs.Judged.{judged}
use Rattle.wot_merge.proofs.InPlace.{none_asked}
use Rattle.wot_merge.proofs.ImportSteps.{not_asked}
use Rattle.wot_merge.proofs.Unions.{step_on, union_few}
use Rattle.wot_merge.proofs.in_place.grow_kept.Goals as goal

pub returns-then-not-are_held-clause-asked : goal.returns-then-not-are_held-clause-asked
returns-then-not-are_held-clause-asked g c =
    let a = c.args.kept.now.cert in
    let j = judged (rows_of c.args.policy.now) c.args.cert.now in
    (0, not_asked c.args.policy.now, none_asked a (unite a j) (c.united_grows.ensures.sound a j))

pub weigh_cert-requires : goal.weigh_cert-requires
weigh_cert-requires g c =
    let j = judged (rows_of c.args.policy.now) c.args.cert.now in
    union_few c.grow.new.self c.args.kept.now.cert c.args.cert.now j c.in-Ok.ensures.union
    (c.united_grows.ensures.together c.args.kept.now.cert j) (c.marks_weigh_nothing.ensures.judged_text
    (rows_of c.args.policy.now) c.args.cert.now) (c.are_held.ensures.held c.if-not-are_held.false)

pub returns-in-Ok-clause-grows : goal.returns-in-Ok-clause-grows
returns-in-Ok-clause-grows g c =
    let old = c.args.kept.now in
    record {
      staged = step_on (rows_of c.args.policy.now) c.args.terms.now.stamp c.args.terms.now.limit c.args.cert.now
          old.cert c.grow.new.self c.weigh_cert-before.result c.weigh_cert.result c.in-Ok.growth.items
          c.stamp_of-kept.result
          c.in-Ok.ensures.union c.weigh_cert-before.ensures.weighs c.weigh_cert.ensures.weighs c.in-Ok.ensures.items
          c.in-Ok.ensures.judged (Some old) old.stamp refl refl c.stamp_of-kept.ensures;
      back = c.in-Ok.ensures.back;
      was = refl;
    }
