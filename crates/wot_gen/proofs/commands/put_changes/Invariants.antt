use Rattle.std.proofs.Common.{◌+◌, length}
use Rattle.wot_gen.specs.Script.{changes, drawn_before_changes}
use Rattle.wot_gen.proofs.SoFar.{DrawnSoFar}
use Rattle.wot_gen.proofs.commands.put_changes.Given as goal

abbrev pub invariant-loop-round : goal.invariant-loop-round
invariant-loop-round l =
    DrawnSoFar l.initial.words.start (drawn_before_changes (length l.identities) + l.round) l.words l.round
    (changes l.initial.words.start (length l.identities))
    l.initial.commands.items l.commands.items
