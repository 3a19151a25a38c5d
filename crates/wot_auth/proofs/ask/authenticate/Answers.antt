use Rattle.std.proofs.Common.{sym, ◌∙◌}
use Rattle.wot_edge.specs.Path.{asks}
use Rattle.wot_auth.proofs.ask.authenticate.Goals as goal

pub returns-clause-one : goal.returns-clause-one
returns-clause-one g c paths a =
    let q = asks (g.R.Roads.network c.args.roads.now c.args.uid.now) c.args.roots.now c.args.target.now in
    c.answer_is_one.ensures.one q c.args.wanted paths c.in_ok-answer.answer.paths c.in_ok-answer.ensures.lawful a
    c.in_ok-answer.ensures.answer

pub returns-clause-zero : goal.returns-clause-zero
returns-clause-zero g c =
    let q = asks (g.R.Roads.network c.args.roads.now c.args.uid.now) c.args.roots.now c.args.target.now in
    let zero = c.zero_is_no_path.ensures.zero q c.args.wanted c.in_ok-answer.answer.paths c.requires.wanted
    c.in_ok-answer.ensures.answer in
    (λ e. zero.0 (sym c.in_ok-answer.ensures.sum ∙ e), λ s. c.in_ok-answer.ensures.sum ∙ zero.1 s)

pub returns-clause-pairs : goal.returns-clause-pairs
returns-clause-pairs g c =
    let q = asks (g.R.Roads.network c.args.roads.now c.args.uid.now) c.args.roots.now c.args.target.now in
    c.paths_fit.ensures.pairs q c.in_ok-answer.answer.paths c.in_ok-answer.ensures.answer.each

pub returns-clause-roots : goal.returns-clause-roots
returns-clause-roots g c fpr =
    let q = asks (g.R.Roads.network c.args.roads.now c.args.uid.now) c.args.roots.now c.args.target.now in
    c.paths_fit.ensures.roots q c.in_ok-answer.answer.paths fpr c.in_ok-answer.ensures.answer.each

pub returns-clause-local_one : goal.returns-clause-local_one
returns-clause-local_one g c other agree lawful paths a =
    c.answer_is_one.ensures.one other c.args.wanted paths c.in_ok-answer.answer.paths lawful a
    (c.in_ok-answer.ensures.local c.everywhere-reach.ensures.all c.take.new.notes (λ fpr h. h) other agree)

pub returns-clause-local : goal.returns-clause-local
returns-clause-local g c other agree =
    c.in_ok-answer.ensures.local c.everywhere-reach.ensures.all c.take.new.notes (λ fpr h. h) other agree

pub take-requires-clause-reach : goal.take-requires-clause-reach
take-requires-clause-reach g c = c.everywhere-reach.ensures.reach (g.R.Roads.network c.args.roads.now) c.args.roots.now
