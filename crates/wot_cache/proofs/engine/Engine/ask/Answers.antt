use Rattle.std.proofs.Common.{Ok, refl, sym, subst}
use Rattle.std.proofs.lemmas.Result.{err_from_is_err_and}
use Rattle.wot_keyring_spec.specs.Keyring.{Keyring}
use Rattle.wot_answers.specs.Answers.{AreAllRight, answers_for}
use Rattle.wot_cache.specs.Marks.{end_in}
use Rattle.wot_cache.specs.Views.{view_at}
use Rattle.wot_cache.proofs.PartsAnswer.{few_seen, present_seen, right_kept, right_seen, seen_after}
use Rattle.wot_answers.specs.CaseLaws.{if_ok, if_some}
use Rattle.wot_cache.proofs.PartsAnswer.{told_seen}
use Rattle.wot_cache.proofs.ConsultsLeads.{consulted, found_seen, kept_all, others_themselves}
use Rattle.wot_cache.proofs.OpenViewsMarks.{answered_open, engine_after, err_less, left, made_as}
use Rattle.wot_cache.proofs.engine.Engine.ask.Goals as goal

pub answer-requires : goal.answer-requires
answer-requires c =
    let name = c.args.view.now in
    let k = c.self.inside.networked.keyring in
    let views = c.self.inside.networked.views.entries in
    let p = c.parts-parts.result in
    let seen = seen_after c.args.self.now k c.refresh.new.self.keyring views c.refresh.new.self.views.entries name p
    c.self.view_is c.refresh.ensures.keyring
    c.refresh.ensures.views c.parts-parts.ensures.parts in
    record {
      askable = record {
        wanted = c.requires.wanted;
        few = few_seen c.args.self.now k views c.self.inside.networked.networks.entries c.self.inside.answers.entries
            name p c.self.view_is c.self.invariant seen;
        present = present_seen c.args.self.now name p seen;
      };
      lawful = c.parts-parts.ensures.lawful;
      right = right_seen c.args.self.now k views name p c.self.inside.answers.entries c.self.view_is seen
          c.self.invariant.right;
    }

pub returns-clause-answer : goal.returns-clause-answer
returns-clause-answer c =
    let name = c.args.view.now in
    let p = c.parts-parts.result in
    let seen = seen_after c.args.self.now c.self.inside.networked.keyring c.refresh.new.self.keyring
    c.self.inside.networked.views.entries
    c.refresh.new.self.views.entries name p c.self.view_is c.refresh.ensures.keyring c.refresh.ensures.views
    c.parts-parts.ensures.parts in
    if_ok c.answer.result _ _ (λ a network. if_some (view_at c.args.self.now.views name) _ _ (λ v t. t.answer)
    (told_seen c.args.self.now name p c.args.target.now c.args.uid.now c.args.wanted a seen network)) c.answer.ensures.reported

pub returns-clause-one : goal.returns-clause-one
returns-clause-one c =
    let name = c.args.view.now in
    let p = c.parts-parts.result in
    let seen = seen_after c.args.self.now c.self.inside.networked.keyring c.refresh.new.self.keyring
    c.self.inside.networked.views.entries
    c.refresh.new.self.views.entries name p c.self.view_is c.refresh.ensures.keyring c.refresh.ensures.views
    c.parts-parts.ensures.parts in
    if_ok c.answer.result _ _ (λ a network. if_some (view_at c.args.self.now.views name) _ _ (λ v t. t.one)
    (told_seen c.args.self.now name p c.args.target.now c.args.uid.now c.args.wanted a seen network)) c.answer.ensures.reported

pub returns-clause-zero : goal.returns-clause-zero
returns-clause-zero c =
    let name = c.args.view.now in
    let p = c.parts-parts.result in
    let seen = seen_after c.args.self.now c.self.inside.networked.keyring c.refresh.new.self.keyring
    c.self.inside.networked.views.entries
    c.refresh.new.self.views.entries name p c.self.view_is c.refresh.ensures.keyring c.refresh.ensures.views
    c.parts-parts.ensures.parts in
    if_ok c.answer.result _ _ (λ a network. if_some (view_at c.args.self.now.views name) _ _ (λ v t. t.zero)
    (told_seen c.args.self.now name p c.args.target.now c.args.uid.now c.args.wanted a seen network)) c.answer.ensures.reported

pub returns-clause-roots : goal.returns-clause-roots
returns-clause-roots c =
    let name = c.args.view.now in
    let p = c.parts-parts.result in
    let seen = seen_after c.args.self.now c.self.inside.networked.keyring c.refresh.new.self.keyring
    c.self.inside.networked.views.entries
    c.refresh.new.self.views.entries name p c.self.view_is c.refresh.ensures.keyring c.refresh.ensures.views
    c.parts-parts.ensures.parts in
    if_ok c.answer.result _ _ (λ a network. if_some (view_at c.args.self.now.views name) _ _ (λ v t. t.roots)
    (told_seen c.args.self.now name p c.args.target.now c.args.uid.now c.args.wanted a seen network)) c.answer.ensures.reported

pub returns-clause-sum : goal.returns-clause-sum
returns-clause-sum c = if_ok c.answer.result _ _ (λ a t. t.sum) c.answer.ensures.reported

pub returns-clause-pairs : goal.returns-clause-pairs
returns-clause-pairs c = if_ok c.answer.result _ _ (λ a t. t.pairs) c.answer.ensures.reported

pub returns-clause-refreshed : goal.returns-clause-refreshed
returns-clause-refreshed c =
    let name = c.args.view.now in
    let made = made_as (view_at c.self.inside.networked.views.entries name) (Ok tt) c.answer.result
    c.self.inside.networked.keyring
    (end_in c.self.inside.networked.networks.entries name c.args.steps.now.made)
    (end_in c.refresh.new.self.networks.entries name c.refresh.new.steps.made)
    (λ ok. refl) c.in_ok-refresh.ensures.made in
    left c.answer.result c.args.self.now c.self.inside.networked.keyring c.refresh.new.self.keyring
    c.self.inside.networked.views.entries
    c.refresh.new.self.views.entries c.self.inside.networked.networks.entries c.refresh.new.self.networks.entries name
    c.args.steps.now.made
    c.refresh.new.steps.made c.self.view_is c.refresh.ensures.keyring c.refresh.ensures.views made
    c.refresh.ensures.others c.refresh.ensures.closed

pub returns-in_err-refresh-clause-refreshed : goal.returns-in_err-refresh-clause-refreshed
returns-in_err-refresh-clause-refreshed c =
    let p = err_from_is_err_and c.from_residual.result c.from_residual.ensures.1 in
    let made = made_as (view_at c.self.inside.networked.views.entries c.args.view.now) c.refresh.result
    c.from_residual.result
    c.self.inside.networked.keyring
    (end_in c.self.inside.networked.networks.entries c.args.view.now c.args.steps.now.made)
    (end_in c.refresh.new.self.networks.entries c.args.view.now c.refresh.new.steps.made)
    (err_less c.refresh.result c.from_residual.result p.0 p.1) c.refresh.ensures.made in
    left c.from_residual.result c.args.self.now c.self.inside.networked.keyring c.refresh.new.self.keyring
    c.self.inside.networked.views.entries
    c.refresh.new.self.views.entries c.self.inside.networked.networks.entries c.refresh.new.self.networks.entries
    c.args.view.now c.args.steps.now.made
    c.refresh.new.steps.made c.self.view_is c.refresh.ensures.keyring c.refresh.ensures.views made
    c.refresh.ensures.others c.refresh.ensures.closed

pub invariant_of-self : goal.invariant_of-self
invariant_of-self c =
    engine_after c.self.inside.answers.entries c.self.inside.networked.keyring c.refresh.new.self.keyring
    c.self.inside.networked.views.entries c.refresh.new.self.views.entries
    c.self.inside.networked.networks.entries c.refresh.new.self.networks.entries c.args.view.now c.args.steps.now.made
    c.refresh.new.steps.made
    c.refresh.ensures.keyring c.refresh.ensures.views c.refresh.ensures.fit c.refresh.ensures.others
    c.refresh.ensures.closed c.self.invariant

pub invariant_of-self-2 : goal.invariant_of-self-2
invariant_of-self-2 c =
    let name = c.args.view.now in
    let k = c.self.inside.networked.keyring in
    let views = c.self.inside.networked.views.entries in
    let p = c.parts-parts.result in
    let seen = seen_after c.args.self.now k c.refresh.new.self.keyring views c.refresh.new.self.views.entries name p
    c.self.view_is c.refresh.ensures.keyring
    c.refresh.ensures.views c.parts-parts.ensures.parts in
    let after = engine_after c.self.inside.answers.entries k c.refresh.new.self.keyring views
    c.refresh.new.self.views.entries
    c.self.inside.networked.networks.entries c.refresh.new.self.networks.entries name c.args.steps.now.made
    c.refresh.new.steps.made
    c.refresh.ensures.keyring c.refresh.ensures.views c.refresh.ensures.fit c.refresh.ensures.others
    c.refresh.ensures.closed c.self.invariant in
    record {
      small = after.small;
      within = after.within;
      fit = after.fit;
      of_open = after.of_open;
      answered = answered_open _ c.refresh.new.self.views.entries c.self.inside.answers.entries
          c.answer.new.answers.entries name
          c.parts-parts.ensures.parts c.answer.ensures.others after.answered;
      right = right_kept c.args.self.now k c.refresh.new.self.keyring views name p c.answer.new.answers.entries
          c.self.view_is c.refresh.ensures.keyring seen c.answer.ensures.right;
      turned = after.turned;
    }

pub returns-clause-consulted : goal.returns-clause-consulted
returns-clause-consulted c =
    let name = c.args.view.now in
    let k = c.self.inside.networked.keyring in
    let views = c.self.inside.networked.views.entries in
    let networks = c.self.inside.networked.networks.entries in
    let p = c.parts-parts.result in
    let seen = seen_after c.args.self.now k c.refresh.new.self.keyring views c.refresh.new.self.views.entries name p
    c.self.view_is c.refresh.ensures.keyring
    c.refresh.ensures.views c.parts-parts.ensures.parts in
    consulted c.args.self.now k c.refresh.new.self.keyring views c.refresh.new.self.views.entries networks
    c.refresh.new.self.networks.entries c.self.inside.answers.entries c.answer.new.answers.entries name
    c.args.target.now c.args.wanted c.args.uid.now c.self.view_is
    (right_kept c.args.self.now k c.refresh.new.self.keyring views name p c.answer.new.answers.entries c.self.view_is
    c.refresh.ensures.keyring seen c.answer.ensures.right)
    (found_seen c.args.self.now name p c.args.target.now c.args.wanted c.args.uid.now seen
    (answers_for name c.self.inside.answers.entries) (answers_for name c.answer.new.answers.entries)
    c.answer.ensures.found) c.answer.ensures.others

pub returns-in_err-refresh-clause-consulted : goal.returns-in_err-refresh-clause-consulted
returns-in_err-refresh-clause-consulted c =
    let k = c.self.inside.networked.keyring in
    let answers = c.self.inside.answers.entries in
    consulted c.args.self.now k c.refresh.new.self.keyring c.self.inside.networked.views.entries
    c.refresh.new.self.views.entries c.self.inside.networked.networks.entries c.refresh.new.self.networks.entries
    answers answers c.args.view.now c.args.target.now c.args.wanted c.args.uid.now c.self.view_is
    (subst (λ (new : Keyring). AreAllRight new answers) (sym c.refresh.ensures.keyring) c.self.invariant.right)
    (kept_all c.args.self.now c.args.view.now c.args.target.now c.args.wanted c.args.uid.now answers)
    (others_themselves c.args.view.now answers)
