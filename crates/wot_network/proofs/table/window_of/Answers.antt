use Rattle.std.proofs.Common.{subst}
use Rattle.wot_network.specs.Refreshing.{IsInside}
use Rattle.wot_network.proofs.Windows.{one_more, all_open}
use Rattle.wot_network.proofs.table.window_of.Goals as goal

pub lines-preserved : goal.lines-preserved
lines-preserved c = (
  tt,
  tt,
  one_more c.lines.window c.narrow-window.result c.args.lines.now.entries c.lines.line-iterator c.next.new.self _
      c.in-Some.line.now c.in-Some.ensures.steps c.narrow-window.ensures.window
      (subst (IsInside c.narrow-window.result) c.span.ensures.span c.narrow-window.ensures.span) c.lines.invariant.2,
)

pub returns : goal.returns
returns c = record {
  «open» = all_open c.lines.window c.args.lines.now.entries c.lines.line-iterator
      c.in-None.ensures.steps.0 c.lines.invariant.2;
}
