use Rattle.std.proofs.Common.{◌≡◌, ◌-◌, ◌≤◌, ◌^◌, []}
use Rattle.wot_io.specs.Filled.{Passes}
use Rattle.wot_io.proofs.skip_long.skip_long.Given as goal

abbrev pub invariant-pieces : goal.invariant-pieces
invariant-pieces g l = record {
  held : l.buffer.held ≡ [];
  text : l.buffer.text ≡ [];
  within : l.intake.taken ≤ 2 ^ 30;
  rises : l.fn.intake.taken ≤ l.intake.taken;
  passes : Passes (g.S.Source.left l.fn.from) l.fn.intake.taken (g.S.Source.left l.from) l.intake.taken;
  later : g.S.Source.faults l.fn.from ≤ g.S.Source.faults l.from;
}

abbrev pub decreases-pieces : goal.decreases-pieces
decreases-pieces g l = 2 ^ 30 - l.intake.taken
