use Rattle.std.proofs.Common.{ap}
use Rattle.wot_cache.specs.Basis.{Basis}
use Rattle.wot_cache.proofs.BasisStaysTrue.{grown_whole, present_on, sum_of_answer, whole_rests}
use Rattle.wot_cache.proofs.engine.Engine.rested.Goals as goal

pub returns-in-None : goal.returns-in-None
returns-in-None c =
    let new = c.rest_on_all.new.self in
    let grown = grown_whole c.args.basis.now c.rest.new.basis new c.rest.ensures.grown c.rest_on_all.ensures.whole in
    let asked = c.args.asked.now in
    let sum = sum_of_answer c.args.self.now c.args.view.now asked.target.now asked.wanted asked.uid.now
    c.args.answer.now c.requires.answer c.requires.sum in
    record {
      rested = record {
        sum = sum;
        rests = whole_rests c.args.self.now new c.args.view.now asked.target.now asked.wanted asked.uid.now
            c.args.answer.now.sum (present_on c.args.self.now c.args.basis.now new grown c.requires.present)
            (ap (λ (b : Basis). b.whole) c.rest_on_all.ensures.whole) sum;
      };
      grown = grown;
    }
