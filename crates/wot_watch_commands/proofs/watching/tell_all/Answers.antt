use Rattle.wot_plain.proofs.Watched.{told_end, told_on}
use Rattle.wot_watch_commands.proofs.watching.tell_all.Goals as goal

pub rest-preserved : goal.rest-preserved
rest-preserved c =
    told_on c.rest.watches c.tell_one.new.watches c.args.watches.now c.in-Some.line.now c.rest.rest.now
    c.in-Some.others.now c.args.lines.now
    c.rest.invariant c.in-Some.ensures.cases.0 c.tell_one.ensures.reported

pub returns : goal.returns
returns c = record {
  reported =
      told_end c.rest.watches c.args.watches.now c.rest.rest.now c.args.lines.now c.in_default.ensures.cases
      c.rest.invariant;
}
