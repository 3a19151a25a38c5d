use Rattle.std.specs.Prelude.{IfSome}
use Rattle.std.proofs.Common.{◌≡◌, Option, rules, sym, subst}
use Rattle.wot_edge.specs.Record.{IsRecord}
use Rattle.wot_network.specs.Net.{Present, network_for}
use Rattle.wot_answers.specs.declared.reach.KeptReach.{KeptReach}
use Rattle.wot_answers.specs.Answers.{AllAnswers, AreAllRight, AreRight, Entries, IsReaching, WereKeptOr, answers_for}
use Rattle.wot_answers.specs.Asked.{question_of}
use Rattle.wot_answers.specs.CaseLaws.{if_ok}
use Rattle.wot_answers.proofs.Told.{told_from}
use Rattle.wot_answers.specs.RightLaws.{all_right_set, right_found}
use Rattle.wot_answers.specs.Asked.{IsFoundOver}
use Rattle.wot_answers.proofs.WereKept.{kept_first, kept_there}
use Rattle.wot_answers.proofs.ask.answer.Goals as goal

pub find-requires-clause-right : goal.find-requires-clause-right
find-requires-clause-right c =
    right_found c.args.parts.now.keyring.now c.args.answers.now.entries c.args.view.now c.in-Some.of_view.now
    c.requires.right (sym c.in-Some.ensures.value)

pub returns-in-Some-clause-reported : goal.returns-in-Some-clause-reported
returns-in-Some-clause-reported c =
    let asked = c.args.asked.now in
    let lawful = subst (λ (present : Present). IsRecord (network_for present asked.uid.now)) c.requires.askable.present
    (c.requires.lawful asked.uid.now) in
    if_ok c.find.result _ _ (λ a is. told_from c.answer_is_one.ensures.one c.zero_is_no_path.ensures.zero
    c.paths_fit.ensures.pairs c.paths_fit.ensures.roots (question_of c.args.parts.now asked) asked.wanted a
    c.requires.askable.wanted lawful is.answer is.sum) c.find.ensures.answered

pub returns-in-Some-clause-right : goal.returns-in-Some-clause-right
returns-in-Some-clause-right c =
    rw (c.get_mut.follows.holds c.find.new.of_view).0
    (all_right_set c.args.parts.now.keyring.now c.args.answers.now.entries c.args.view.now c.find.new.of_view
    c.requires.right c.find.ensures.right)

pub find-found-requires-clause-right : goal.find-found-requires-clause-right
find-found-requires-clause-right c =
    let k = c.args.parts.now.keyring.now in
    let of_view = c.new-of_view.result in
    record {
      each = subst (λ (es : Entries). AreRight k of_view.roots of_view.revision es) (sym c.new-of_view.ensures.none) tt;
      reach = subst (λ (o : Option KeptReach). IfSome o (IsReaching k of_view.roots of_view.revision))
          (sym c.new-of_view.ensures.no_reach) tt;
    }

pub returns-in-None-clause-reported : goal.returns-in-None-clause-reported
returns-in-None-clause-reported c =
    let asked = c.args.asked.now in
    let lawful = subst (λ (present : Present). IsRecord (network_for present asked.uid.now)) c.requires.askable.present
    (c.requires.lawful asked.uid.now) in
    if_ok c.find-found.result _ _ (λ a is. told_from c.answer_is_one.ensures.one c.zero_is_no_path.ensures.zero
    c.paths_fit.ensures.pairs c.paths_fit.ensures.roots (question_of c.args.parts.now asked) asked.wanted a
    c.requires.askable.wanted lawful is.answer is.sum) c.find-found.ensures.answered

pub returns-in-None-clause-right : goal.returns-in-None-clause-right
returns-in-None-clause-right c =
    let k = c.args.parts.now.keyring.now in
    let before : AreAllRight k c.get_mut.follows.lender-at-none.entries = search rules in
    c.begin-kept.ensures.right k before c.find-found.ensures.right

pub returns-in-Some-clause-found : goal.returns-in-Some-clause-found
returns-in-Some-clause-found c =
    rw (c.get_mut.follows.holds c.find.new.of_view).0
    (kept_there (IsFoundOver c.args.parts.now c.args.asked.now) c.args.view.now c.args.answers.now.entries
    c.in-Some.of_view.now c.find.new.of_view (sym c.in-Some.ensures.value) c.find.ensures.kept)

pub returns-in-None-clause-found : goal.returns-in-None-clause-found
returns-in-None-clause-found c =
    let before : AllAnswers = c.get_mut.follows.lender-at-none.entries in
    let same : before ≡ c.args.answers.now.entries = search rules in
    subst (λ (views : AllAnswers). WereKeptOr (IsFoundOver c.args.parts.now c.args.asked.now)
    (answers_for c.args.view.now views) (answers_for c.args.view.now c.begin-kept.new.answers.entries)) same
    (kept_first (IsFoundOver c.args.parts.now c.args.asked.now) c.args.view.now before
    c.begin-kept.new.answers.entries c.new-of_view.result c.find-found.new.of_view c.begin-kept.result
    c.begin-kept.ensures.put c.begin-kept.ensures.kept c.new-of_view.ensures.none c.find-found.ensures.kept)
