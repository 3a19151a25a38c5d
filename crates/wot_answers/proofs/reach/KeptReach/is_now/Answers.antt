use Rattle.std.proofs.Common.{refl, ◌∙◌}
use Rattle.std.proofs.lemmas.Bool.{eqb-true}
use Rattle.wot_answers.proofs.Grounds.{reaching_now}
use Rattle.wot_answers.proofs.reach.KeptReach.is_now.Goals as goal

pub returns : goal.returns
returns c =
    let p = c.args.parts.now in
    record {
      now = λ yes. reaching_now p.keyring.now p.roots.now p.roots.now c.args.revision p.t c.args.self.now
          c.requires.reaching (c.if-self-changes.false ∙ c.changes.ensures.changes)
          c.if-self-revision.false (eqb-true c.args.self.now.time p.t yes) refl;
    }
