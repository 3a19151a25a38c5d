use Rattle.std.proofs.Common.{◌≡◌, arith}
use Rattle.wot_gen.specs.Summary.{amount_in}
use Rattle.wot_plain.specs.Watching.{IsWatchLine}
use Rattle.wot_plain.proofs.Watched.{first_is, line_worded}
use Rattle.wot_engine.proofs.Plays.{adds_first, adds_last, adds_next, nothing_told}
use Rattle.wot_engine.proofs.generated.add_all.Goals as goal

pub rest-init : goal.rest-init
rest-init c = record {
  added = adds_first c.args.tally.now c.args.lines.now;
  amounts = omega arith;
  each =
      c.requires.each;
}

pub add-requires : goal.add-requires
add-requires c = record {
  words = line_worded c.in-Some.line.now (first_is IsWatchLine c.in-Some.line.now c.rest.rest.now c.in-Some.others.now
      c.in-Some.ensures.cases.0 c.rest.invariant.each).0;
  room = omega (arith, c.rest.invariant.amounts, c.requires.room);
}

pub rest-preserved : goal.rest-preserved
rest-preserved c =
    let first = first_is IsWatchLine c.in-Some.line.now c.rest.rest.now c.in-Some.others.now c.in-Some.ensures.cases.0
    c.rest.invariant.each in
    let none : amount_in c.in-Some.line.now ≡ 0 = nothing_told c.in-Some.line.now first.0 in
    record {
      added = adds_next c.args.tally.now c.rest.tally c.add.new.self c.args.lines.now c.rest.rest.now
          c.in-Some.others.now c.in-Some.line.now c.rest.invariant.added
          c.in-Some.ensures.cases.0 c.in_ok-add.ensures.added;
      amounts = omega (arith, none, c.add.ensures.within, c.rest.invariant.amounts);
      each = first.1;
    }

pub returns-clause-added : goal.returns-clause-added
returns-clause-added c = adds_last c.args.tally.now c.rest.tally c.args.lines.now c.rest.rest.now c.rest.invariant.added
    c.in_default.ensures.cases
