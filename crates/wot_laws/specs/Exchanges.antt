-- Runs, line by line: each line with its reply and the watch lines after it.
use Rattle.std.specs.Prelude.{◌≡◌, ℕ, Option}
use Rattle.std.specs.Prelude.{List, [], ◌∷◌, ◌++◌, map, flat_map}
use Rattle.wot_policy.specs.declared.rows.PolicyRows.{PolicyRows}
use Rattle.wot_script.specs.declared.reply.Reply.{Reply}
use Rattle.wot_plain.specs.Scene.{Scene, Step}
use Rattle.wot_plain.specs.Transcript.{Run, listed}

-- a line, its reply if it has one, and the watch lines after it
pub record Exchange : Type 0 where
  pub line : List ℕ
  pub reply : Option Reply
  pub reported : List Reply

abbrev pub lines_in : List Exchange → List (List ℕ)
lines_in exchanges = map (λ (e : Exchange). e.line) exchanges

abbrev pub replies_in : List Exchange → List Reply
replies_in exchanges = flat_map (λ (e : Exchange). listed e.reply ++ e.reported) exchanges

-- these exchanges, one after another, lead from old to new
abbrev pub Passes : PolicyRows → Scene → List Exchange → Scene → Type 0
Passes rows old [] new = new ≡ old
Passes rows old (e ∷ exchanges) new =
    (mid : Scene) × Step rows old e.line e.reply e.reported mid × Passes rows mid exchanges new

-- the exchanges of a run
pub record AreOfRun (rows : PolicyRows) (old : Scene) (lines : List (List ℕ)) (reported : List Reply) (new : Scene)
    : Type 0 where
  pub exchanges : List Exchange
  pub lines_are : lines_in exchanges ≡ lines
  pub replies_are : replies_in exchanges ≡ reported
  pub passes : Passes rows old exchanges new

-- Runs and lists of exchanges correspond to each other.
pub record RunsAreExchanges (rows : PolicyRows) : Type 0 where
  pub reported : (old : Scene) (lines : List (List ℕ)) (reported : List Reply) (new : Scene)
      → Run rows old lines reported new
      → AreOfRun rows old lines reported new
  pub run : (old : Scene) (exchanges : List Exchange) (new : Scene) → Passes rows old exchanges new
      → Run rows old (lines_in exchanges) (replies_in exchanges) new
