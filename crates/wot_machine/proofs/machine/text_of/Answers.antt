use Rattle.wot_plain.specs.Watching.{IsWatchLine}
use Rattle.wot_plain.proofs.Watched.{first_is, line_worded, text_all, text_on}
use Rattle.wot_machine.proofs.machine.text_of.Goals as goal

pub print_reply-requires : goal.print_reply-requires
print_reply-requires c =
    record {
      words = line_worded c.in-Some.line.now
          (first_is IsWatchLine c.in-Some.line.now c.rest.rest.now c.in-Some.others.now c.in-Some.ensures.cases.0
          c.rest.invariant.1).0;
    }

pub rest-preserved : goal.rest-preserved
rest-preserved c = (
  text_on c.rest.text.items c.print_reply.new.out.items c.in-Some.line.now c.rest.rest.now c.in-Some.others.now
      c.args.lines.now c.rest.invariant.0
      c.in-Some.ensures.cases.0 c.in_ok-print_reply.ensures.appended,
  (first_is IsWatchLine c.in-Some.line.now c.rest.rest.now c.in-Some.others.now c.in-Some.ensures.cases.0
      c.rest.invariant.1).1,
)

pub returns : goal.returns
returns c =
    record {
      text = text_all c.rest.text.items c.rest.rest.now c.args.lines.now c.in_default.ensures.cases
          c.rest.invariant.0;
    }
