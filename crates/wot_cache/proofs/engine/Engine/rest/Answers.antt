use Rattle.wot_answers.specs.CaseLaws.{both_some}
use Rattle.wot_cache.proofs.BasisStaysTrue.{found_now, found_rests}
use Rattle.wot_cache.proofs.engine.Engine.rest.Goals as goal

pub returns-in-Some-clause-rested : goal.returns-in-Some-clause-rested
returns-in-Some-clause-rested c =
    let k = c.self.inside.networked.keyring in
    let views = c.self.inside.networked.views.entries in
    let networks = c.self.inside.networked.networks.entries in
    let asked = c.args.asked.now in
    let now = found_now c.args.self.now k views networks c.self.inside.revisions c.self.view_is c.args.view.now
    asked.target.now asked.wanted asked.uid.now c.in-Some.from.now c.in-Some.ensures.found c.kept_sum.result
    c.kept_sum.new.basis c.len-count.ensures.stamped c.kept_sum.ensures.rests in
    let rests = found_rests c.args.self.now k views networks c.self.inside.revisions c.self.view_is c.args.view.now
    asked.target.now asked.wanted asked.uid.now c.in-Some.from.now c.in-Some.ensures.found c.kept_sum.result
    c.args.basis.now c.kept_sum.new.basis c.kept_sum.ensures.grown c.requires.present c.kept_sum.ensures.rests in
    both_some c.kept_sum.result _ _ _ (λ n sum rests. record { sum = sum; rests = rests }) now rests
