use Rattle.std.proofs.Common.{List, inl, inr, subst}
use Rattle.wot_types.specs.declared.fpr.Fpr.{Fpr}
use Rattle.wot_edge.specs.Leads.{Leads}
use Rattle.wot_edge.specs.Record.{Has}
use Rattle.wot_network.specs.Net.{Present, network_for}
use Rattle.wot_answers.specs.Question.{IsAnswerAround, asked_over}
use Rattle.wot_answers.proofs.Told.{answered_over}
use Rattle.wot_answers.proofs.ask.search_near.Goals as goal

pub authenticate_metered-requires : goal.authenticate_metered-requires
authenticate_metered-requires c = record { wanted = c.requires.askable.wanted; few = c.requires.askable.few }

pub remember-requires : goal.remember-requires
remember-requires c =
    let p = c.args.parts.now in
    let asked = c.args.asked.now in
    let a = c.in-Ok.answer in
    let set = c.authenticate_metered.new.metered.consulted in record {
      answered = answered_over p asked a c.requires.askable.present c.in-Ok.ensures.answer c.in-Ok.ensures.sum;
      consulted = record {
        local = subst (λ (present : Present). IsAnswerAround (asked_over present p.roots.now asked.target.now
            asked.uid.now) asked.wanted a.paths set) c.requires.askable.present c.in-Ok.ensures.local;
        leads = λ fpr has.
            subst (λ (present : Present). Leads (network_for present asked.uid.now) asked.target.now fpr)
            c.requires.askable.present
            (elim (c.authenticate_metered.ensures.leads fpr has) [
              | inl before ↦ absurd (subst (λ (set : List Fpr). Has set fpr) c.new-metered.ensures.none before)
              | inr leads ↦ leads
            ]);
      };
      settled = c.requires.settled;
    }

pub returns-in-Ok-clause-answered : goal.returns-in-Ok-clause-answered
returns-in-Ok-clause-answered c =
    answered_over c.args.parts.now c.args.asked.now c.in-Ok.answer c.requires.askable.present c.in-Ok.ensures.answer
    c.in-Ok.ensures.sum
