use Rattle.std.proofs.Common.{◌≤◌, ◌-◌, [], length, drop}
use Rattle.wot_pattern.specs.Reading.{Reading}
use Rattle.wot_pattern.specs.Grammar.{Reads, pattern}
use Rattle.wot_pattern.specs.Steps.{State, Builds, Runs}
use Rattle.wot_pattern.proofs.Sound.{SoFar}
use Rattle.wot_pattern.proofs.parser.read_pattern.Given as goal

abbrev pub invariant-steps : goal.invariant-steps
invariant-steps l =
    (l.at ≤ length l.text)
    × ((s : State) × Builds l.builder s × SoFar l.text s (drop l.at l.text)
    × ((p : Reading) → Reads pattern 64 l.text p [] → Runs s (drop l.at l.text) p))

abbrev pub decreases-steps : goal.decreases-steps
decreases-steps l = length l.text - l.at
