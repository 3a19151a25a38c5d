use Rattle.std.proofs.Common.{refl}
use Rattle.wot_answers.specs.declared.reach.KeptReach.{KeptReach}
use Rattle.wot_answers.proofs.Grounds.{reaching_made}
use Rattle.wot_answers.proofs.reach.KeptReach.new.Goals as goal

pub returns : goal.returns
returns c =
    let p = c.args.parts.now in
    let made : KeptReach = record {
      count = c.changes.result;
      revision = c.args.revision;
      time = p.t;
      making =
          c.args.making;
    } in
    record {
      reaching = reaching_made p.keyring.now p.roots.now c.args.revision made c.changes.ensures.changes refl
          c.requires.making;
    }
