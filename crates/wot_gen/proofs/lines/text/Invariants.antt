use Rattle.std.proofs.Common.{◌≡◌, take}
use Rattle.std.specs.List.{AllByRecursion}
use Rattle.wot_gen.specs.Script.{IsReadBack, text_of}
use Rattle.wot_gen.proofs.lines.text.Given as goal

abbrev pub invariant-loop-command : goal.invariant-loop-command
invariant-loop-command l =
    (l.text.items ≡ text_of (take l.command-index l.commands)) × AllByRecursion IsReadBack
    (take l.command-index l.commands)
