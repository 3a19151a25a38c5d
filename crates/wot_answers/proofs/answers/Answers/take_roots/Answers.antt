use Rattle.std.proofs.Common.{◌<◌, sym, subst, arith}
use Rattle.wot_answers.specs.Answers.{AreRightIn, OfView}
use Rattle.wot_answers.proofs.Grounds.{reaching_turned, right_turned}
use Rattle.wot_answers.proofs.answers.Answers.take_roots.Goals as goal

pub returns-clause-right : goal.returns-clause-right
returns-clause-right c k all =
    let more : c.self.inside.revision < c.in-Some.revision = omega (arith, c.in-Some.ensures) in
    let before = subst (λ (v : OfView). AreRightIn k v) (sym c.self.view_is) all in
    record {
      each = right_turned k c.self.inside.roots.items c.in-Ok.roots.items c.self.inside.revision c.in-Some.revision
          c.self.inside.table.entries more before.each;
      reach = reaching_turned k c.self.inside.roots.items c.in-Ok.roots.items c.self.inside.revision c.in-Some.revision
          c.self.inside.reach more before.reach;
    }
