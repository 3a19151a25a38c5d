-- What `run_words` promises beside its headline. Source, sink and certificate directory are given by what is known of
-- them before and after the run (`Contents`).
use Rattle.std.specs.Prelude.{◌≡◌, ◌⊎◌, ◌↔◌, ℕ, List, Option, String, map, string_bytes}
use Rattle.wot_io.specs.Counts.{Rose}
use Rattle.wot_io.specs.Filled.{IsAtEnd}
use Rattle.wot_policy.specs.declared.rows.PolicyRows.{PolicyRows}
use Rattle.wot_plain.specs.Both.{Ends}
use Rattle.wot_engine.specs.Contents.{Octets, Worlds}
use Rattle.wot_engine.specs.Ends.{IsEither}
use Rattle.wot_engine.specs.Forms.{IsForm}
use Rattle.wot_engine.specs.Generated.{BeginsSummary, WritesSummary}
use Rattle.wot_engine.specs.RunDoes.{AreOfRun, IsUnfailed, MovesShelf, OnMost, OnScript, ReachesSome, WritesMost}
use Rattle.wot_engine.specs.RunDoes.{WritesPrefix, WritesSome, WritesTaken}
use Rattle.wot_engine.specs.Source.{ReadsFew, TakesAtMost, TakesMost}

-- ---- a run

-- What is written and taken, and how the certificate directory is left, by the words and the exit status.
pub record Writes {Z : Type 0} (status : ℕ) (words : List (String Z)) (rows : PolicyRows) (input output : Octets)
    (shelf : Worlds) : Type 0 where
  -- The directory is left as the lines of the input leave it.
  pub moved : AreOfRun words → status ≡ 0 → MovesShelf rows input output shelf
  -- Whatever the status, what was written is a prefix of the transcript.
  pub prefix : AreOfRun words → WritesPrefix rows input output shelf
  -- Whatever the status, what was written begins the replies to some first lines, and the directory is as these lines
  -- leave it. The line after them writes at most its own entry.
  pub reached : AreOfRun words → ReachesSome rows input output shelf
  -- If memory runs out, no reply is cut short: all lines before one of the last that were taken have complete replies.
  pub first : AreOfRun words → status ≡ 5 → WritesSome rows input output shelf
  -- After a failed read, and after 2 ^ 30 octets, all complete lines that were taken have their replies. Octets beyond
  -- 2 ^ 30 have no other status, unless memory ran out.
  pub taken : status ≡ 3 → WritesTaken rows input output shelf
  pub most : status ≡ 6 → WritesMost rows input output shelf
  pub most_only : OnMost rows input output shelf (IsEither 6 5 status)
  -- Whatever is known of the sink and the directory: with status 0 nothing is left in the source, with status 6 it gave
  -- 2 ^ 30 octets, and it never gives more.
  pub ended : AreOfRun words → status ≡ 0 → IsAtEnd input.old input.new
  pub took : status ≡ 6 → TakesMost input.old input.new
  pub at_most : TakesAtMost input.old input.new

-- ---- a generated run

-- It writes its three lines, and whatever the status a prefix of them. It uses neither the source nor the directory.
pub record Generates {Z S D : Type 0} (status : ℕ) (words : List (String Z)) (rows : PolicyRows) (input : Ends S)
    (output : Octets) (shelf : Ends D) : Type 0 where
  pub generated : status ≡ 0 → OnScript words (WritesSummary rows output)
  pub begun : OnScript words (BeginsSummary rows output)
  pub alone : OnScript words (λ start count. (input.new ≡ input.old) × (shelf.new ≡ shelf.old))
  pub ends : OnScript words (λ start count. (status ≡ 0) ⊎ (status ≡ 4) ⊎ (status ≡ 5))

-- ---- the exit status

-- What each status means.
pub record HasStatus {Z S K D : Type 0} (status : ℕ) (words : List (String Z)) (input : Ends S) (output : Ends K)
    (shelf : Ends D) : Type 0 where
  pub statuses : (status ≡ 0) ⊎ (status ≡ 2) ⊎ (status ≡ 3) ⊎ (status ≡ 4) ⊎ (status ≡ 5) ⊎ (status ≡ 6)
  pub usage : (status ≡ 2) ↔ (IsForm (map string_bytes words) → ⊥)
  pub untouched : status ≡ 2 → (input.new ≡ input.old) × (output.new ≡ output.old) × (shelf.new ≡ shelf.old)

-- What it comes from. `left` is what the source had, `reads` and `writes` count the failed reads and writes.
pub record HasCauses {Z : Type 0} (status : ℕ) (words : List (String Z)) (left : Option (List ℕ))
    (reads writes : Ends ℕ) : Type 0 where
  pub source : status ≡ 3 → Rose reads.old reads.new
  pub sink : status ≡ 4 → Rose writes.old writes.new
  -- If nothing fails and memory suffices, the input is read to its end.
  pub complete : IsUnfailed words reads writes → ReadsFew left status
