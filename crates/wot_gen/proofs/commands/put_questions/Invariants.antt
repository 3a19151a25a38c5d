use Rattle.std.proofs.Common.{◌≡◌, ◌++◌, ℕ, length}
use Rattle.wot_random.specs.Identities.{AreIdentities}
use Rattle.wot_gen.specs.Script.{below, questions}
use Rattle.wot_gen.proofs.commands.put_questions.Given as goal

abbrev pub invariant-loop-index : goal.invariant-loop-index
invariant-loop-index l =
    (start : ℕ) → AreIdentities start (length l.identities) l.identities
    → l.commands.items ≡ l.initial.commands.items ++ below l.index (questions start)
