-- What the loops have put so far.
use Rattle.std.proofs.Common.{◌≡◌, ℕ, List, ◌++◌}
use Rattle.wot_random.specs.declared.words.Words.{Words}
use Rattle.wot_script.specs.declared.command.Command.{Command}
use Rattle.wot_gen.specs.Script.{below}

-- the commands of the steps below a number, after this many words
pub record DrawnSoFar (start drawn : ℕ) (words : Words) (count : ℕ) (step : ℕ → List Command)
    (before now : List Command) : Type 0 where
  pub start_kept : words.start ≡ start
  pub drawn_all : words.drawn ≡ drawn
  pub put : now ≡ before ++ below count step
