use Rattle.std.specs.Prelude.{length}
use Rattle.wot_test_engine.proofs.made.put_line.Given as goal

abbrev pub decreases-loop-octet : goal.decreases-loop-octet
decreases-loop-octet l = length l.rest
