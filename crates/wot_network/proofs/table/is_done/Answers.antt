use Rattle.std.proofs.Common.{◌∙◌, sym, Some, None}
use Rattle.wot_network.proofs.Current.{current_found}
use Rattle.wot_network.proofs.table.is_done.Goals as goal

pub returns-in-Some : goal.returns-in-Some
returns-in-Some c = record {
  done = c.is_current.ensures.current ∙ sym (current_found c.args.lines.now.entries c.args.t c.args.fpr.now c.args.stamp
      (Some c.in-Some.line.now) (sym c.in-Some.ensures.found));
}

pub returns-in-None : goal.returns-in-None
returns-in-None c = record {
  done =
      sym (current_found c.args.lines.now.entries c.args.t c.args.fpr.now c.args.stamp None
      (sym c.in-None.ensures.found));
}
