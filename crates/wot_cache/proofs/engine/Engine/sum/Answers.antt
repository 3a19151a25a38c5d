use Rattle.std.proofs.Common.{ℕ, Ok, Err, refl}
use Rattle.wot_auth.specs.declared.answer.Answer.{Answer}
use Rattle.wot_edge.specs.Answer.{IsAnswer}
use Rattle.wot_cache.specs.Basis.{HasAmount}
use Rattle.wot_cache.specs.Views.{view_at}
use Rattle.wot_cache.proofs.BasisStaysTrue.{grown_itself, open_as, present_still, question_before, refreshed_as, rests_before}
use Rattle.wot_cache.proofs.BasisStaysTrue.{stays_back}
use Rattle.wot_cache.proofs.engine.Engine.sum.Goals as goal

pub rested-requires : goal.rested-requires
rested-requires c =
    let old = c.args.self.now in
    let mid = c.ask.new.self in
    let asked = c.args.asked.now in
    record {
      present = present_still old mid c.args.basis.now c.ask.ensures.refreshed.stays c.requires.present;
      answer = question_before (λ q. IsAnswer q asked.wanted c.in-Ok.answer.paths) mid old c.args.view.now
          asked.target.now asked.uid.now (stays_back old mid c.ask.ensures.refreshed.stays) c.in-Ok.ensures.answer;
      sum = c.in-Ok.ensures.sum;
    }

pub returns-in-Ok-clause-rested : goal.returns-in-Ok-clause-rested
returns-in-Ok-clause-rested c =
    let old = c.args.self.now in
    let mid = c.ask.new.self in
    let asked = c.args.asked.now in
    let rested = c.rested.ensures.rested in
    record {
      sum = question_before (HasAmount asked.wanted c.rested.result) old mid c.args.view.now asked.target.now
          asked.uid.now c.ask.ensures.refreshed.stays rested.sum;
      rests = rests_before old mid c.rested.new.basis c.args.view.now asked.target.now asked.wanted asked.uid.now
          c.rested.result c.ask.ensures.refreshed.stays rested.rests;
    }

pub returns-in-Ok-clause-refreshed : goal.returns-in-Ok-clause-refreshed
returns-in-Ok-clause-refreshed c =
    refreshed_as (Ok c.in-Ok.answer) (Ok c.rested.result) c.args.view.now c.args.self.now c.ask.new.self
    c.args.steps.now.made c.ask.new.steps.made (λ ok. refl)
    c.in-Ok.ensures.refreshed

pub returns-in-Err-clause-refreshed : goal.returns-in-Err-clause-refreshed
returns-in-Err-clause-refreshed c =
    refreshed_as (Err c.in-Err.fault) (Err c.in-Err.fault) c.args.view.now c.args.self.now c.ask.new.self
    c.args.steps.now.made c.ask.new.steps.made (λ ok. ok)
    c.in-Err.ensures.refreshed

pub returns-in-Err-clause-open : goal.returns-in-Err-clause-open
returns-in-Err-clause-open c = open_as Answer ℕ c.in-Err.fault (view_at c.args.self.now.views c.args.view.now)
    c.in-Err.ensures.open

pub returns-in-Err-clause-grown : goal.returns-in-Err-clause-grown
returns-in-Err-clause-grown c = grown_itself c.args.basis.now
