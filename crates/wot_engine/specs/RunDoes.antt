-- The words of the clauses of a run: what it does to its source, its sink and its certificate directory. Each of these
-- is given as it was before and after the run. `Ended` says what is written, `Contents` what it starts from.
use Rattle.std.specs.Prelude.{◌≡◌, ℕ, Bool, List, map, OnOk, Result, IsErrOf, String, string_bytes}
use Rattle.std.specs.Fn.{Shared}
use Rattle.wot_io.specs.Counts.{Rose}
use Rattle.wot_io.specs.Filled.{IsAtEnd}
use Rattle.wot_policy.specs.declared.policy.Policy.{Policy}
use Rattle.wot_policy.specs.declared.rows.Ask.{Ask}
use Rattle.wot_policy.specs.declared.rows.PolicyRows.{PolicyRows}
use Rattle.wot_policy.specs.Kept.{IsFaithful, rows_of}
use Rattle.wot_plain.specs.Both.{Ends}
use Rattle.wot_engine.specs.Contents.{Octets, OnContents, Worlds}
use Rattle.wot_engine.specs.Ended.{AnsweredMost, FinishedMost, FinishedTaken, IsBegun, IsLeft, IsTranscribed, Reached}
use Rattle.wot_engine.specs.Ended.{ReachedWhole}
use Rattle.wot_engine.specs.Ends.{IsMuchOrMemory, status_at}
use Rattle.wot_engine.specs.Forms.{IsForm, IsRun, OnGenerated}
use Rattle.wot_engine.specs.RunAsks.{RunAsks}
use Rattle.wot_engine.specs.Source.{HasMost, TakesAtMost, TakesMost}
use Rattle.wot_engine.specs.declared.run.Stop.{Stop}
use Rattle.wot_engine.specs.declared.run.Stop.TheVariants.{Memory, Read, TooMuch}

-- the replies to all lines were written, and the input was read to its end
abbrev pub WritesAll : PolicyRows → Octets → Octets → Worlds → Type 0
WritesAll rows input output shelf = OnContents input.old output.old shelf.old (λ contents.
    IsTranscribed rows contents input.new output.new)

-- the directory is left as all lines leave it
abbrev pub MovesShelf : PolicyRows → Octets → Octets → Worlds → Type 0
MovesShelf rows input output shelf = OnContents input.old output.old shelf.old (λ contents.
    IsLeft rows contents shelf.old shelf.new)

-- what was written is a prefix of the replies to all lines
abbrev pub WritesPrefix : PolicyRows → Octets → Octets → Worlds → Type 0
WritesPrefix rows input output shelf = OnContents input.old output.old shelf.old (λ contents.
    IsBegun rows contents output.new)

-- The first lines were answered up to some line, and a prefix of their replies was written. The directory is as they
-- leave it, except for what the next line writes.
abbrev pub ReachesSome : PolicyRows → Octets → Octets → Worlds → Type 0
ReachesSome rows input output shelf = OnContents input.old output.old shelf.old (λ contents.
    Reached rows contents output.new shelf.old shelf.new)

-- The replies to all lines before one that was taken were written completely. The directory is as these lines leave it,
-- except for what that line writes.
abbrev pub WritesSome : PolicyRows → Octets → Octets → Worlds → Type 0
WritesSome rows input output shelf = OnContents input.old output.old shelf.old (λ contents.
    ReachedWhole rows contents input.new output.new shelf.old shelf.new)

-- The replies to all complete lines of the taken octets were written, and the directory is as these lines leave it.
abbrev pub WritesTaken : PolicyRows → Octets → Octets → Worlds → Type 0
WritesTaken rows input output shelf = OnContents input.old output.old shelf.old (λ contents.
    FinishedTaken rows contents input.new output.new shelf.old shelf.new)

-- 2 ^ 30 octets were taken, the replies to all complete lines of them were written, and the directory is as these lines
-- leave it
abbrev pub WritesMost : PolicyRows → Octets → Octets → Worlds → Type 0
WritesMost rows input output shelf = OnContents input.old output.old shelf.old (λ contents.
    FinishedMost rows contents input.new output.new shelf.old shelf.new)

-- P holds if 2 ^ 30 octets were taken and the replies to all complete lines of them were written
abbrev pub OnMost : PolicyRows → Octets → Octets → Worlds → Type 0 → Type 0
OnMost rows input output shelf P = OnContents input.old output.old shelf.old (λ contents.
    AnsweredMost rows contents input.new output.new → P)

-- ---- by how a run ended

-- What was written, and how the directory is left.
pub record Does {T : Type 0} (rows : PolicyRows) (result : Result T Stop) (input output : Octets) (shelf : Worlds)
    : Type 0 where
  pub whole : OnOk result (WritesAll rows input output shelf)
  pub moved : OnOk result (MovesShelf rows input output shelf)
  pub prefix : WritesPrefix rows input output shelf
  pub reached : ReachesSome rows input output shelf
  pub first : IsErrOf result Memory → WritesSome rows input output shelf
  pub taken : IsErrOf result Read → WritesTaken rows input output shelf
  pub most : IsErrOf result TooMuch → WritesMost rows input output shelf
  pub most_only : OnMost rows input output shelf (IsMuchOrMemory result)

-- What was taken from the source, whatever else is known.
pub record Takes {T : Type 0} (result : Result T Stop) (input : Octets) : Type 0 where
  pub ended : OnOk result (IsAtEnd input.old input.new)
  pub much : IsErrOf result TooMuch → HasMost input.old
  pub took : IsErrOf result TooMuch → TakesMost input.old input.new
  pub at_most : TakesAtMost input.old input.new

-- What a run does and takes that ended so, and what it asks the policy, which answers by its rows and keeps them.
pub record Runs {T F : Type 0} (calls : Shared F (Ask × Unit {0}) Bool) (result : Result T Stop)
    (input output : Octets) (shelf : Worlds) (policy : Ends (Policy F)) : Type 0 where
  pub does : Does (rows_of policy.old) result input output shelf
  pub takes : Takes result input
  pub asked : RunAsks (status_at result) input output shelf policy
  pub faithful : IsFaithful calls policy.new
  pub rows : rows_of policy.new ≡ rows_of policy.old

-- ---- the words and the exit status

-- the words are those of a run
abbrev pub AreOfRun : {Z : Type 0} → List (String Z) → Type 0
AreOfRun words = IsRun (map string_bytes words)

-- the words are those of a run, with this exit status
abbrev pub Done : {Z : Type 0} → ℕ → List (String Z) → ℕ → Type 0
Done status words result = AreOfRun words × (result ≡ status)

-- P holds of the start and the count of the script if the words are those of a generated run
abbrev pub OnScript : {Z : Type 0} → List (String Z) → (ℕ → ℕ → Type 0) → Type 0
OnScript words P = OnGenerated (map string_bytes words) P

-- the words have one of the two forms, and neither source nor sink failed
abbrev pub IsUnfailed : {Z : Type 0} → List (String Z) → Ends ℕ → Ends ℕ → Type 0
IsUnfailed words source sink =
    IsForm (map string_bytes words) × (Rose source.old source.new → ⊥) × (Rose sink.old sink.new → ⊥)
