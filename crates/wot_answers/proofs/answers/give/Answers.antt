use Rattle.std.proofs.Common.{sym}
use Rattle.wot_answers.proofs.ConsultedTotal.{few_set}
use Rattle.wot_answers.proofs.Grounds.{right_again}
use Rattle.wot_answers.specs.RightLaws.{answer_found, answer_set}
use Rattle.wot_answers.proofs.WereKept.{kept_set}
use Rattle.wot_answers.proofs.answers.give.Goals as goal

pub give-requires-clause-right : goal.give-requires-clause-right
give-requires-clause-right c =
    let p = c.args.parts.now in
    (answer_found p.keyring.now p.roots.now c.args.revision c.args.table.now.entries c.key_of.result c.in-Some.kept.now
    c.requires.right (sym c.in-Some.ensures.value)).0

pub give-requires-clause-good : goal.give-requires-clause-good
give-requires-clause-good c =
    let p = c.args.parts.now in
    (answer_found p.keyring.now p.roots.now c.args.revision c.args.table.now.entries c.key_of.result c.in-Some.kept.now
    c.requires.right (sym c.in-Some.ensures.value)).1

pub returns-in-Some-clause-right : goal.returns-in-Some-clause-right
returns-in-Some-clause-right c =
    let p = c.args.parts.now in
    let there = answer_found p.keyring.now p.roots.now c.args.revision c.args.table.now.entries c.key_of.result
    c.in-Some.kept.now c.requires.right (sym c.in-Some.ensures.value) in
    rw (c.get_mut.follows.holds c.give.new.self).0
    (answer_set p.keyring.now p.roots.now c.args.revision c.args.table.now.entries c.key_of.result c.give.new.self
    c.requires.right
    (right_again p.keyring.now c.in-Some.kept.now c.give.new.self c.give.ensures.same there.0, c.give.ensures.good))

pub returns-in-Some-clause-few : goal.returns-in-Some-clause-few
returns-in-Some-clause-few c looked few =
    rw (c.get_mut.follows.holds c.give.new.self).0
    (few_set c.args.table.now.entries c.key_of.result c.in-Some.kept.now c.give.new.self looked
    (sym c.in-Some.ensures.value) c.give.ensures.same few)

pub returns-in-Some-clause-kept : goal.returns-in-Some-clause-kept
returns-in-Some-clause-kept c =
    rw (c.get_mut.follows.holds c.give.new.self).0
    (kept_set c.args.table.now.entries c.key_of.result c.in-Some.kept.now c.give.new.self
    (sym c.in-Some.ensures.value) c.give.ensures.same)
