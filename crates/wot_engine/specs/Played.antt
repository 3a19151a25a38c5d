-- The lines of a script, answered one after another.
use Rattle.std.specs.Prelude.{ℕ, List, ◌++◌, Option, Some}
use Rattle.wot_policy.specs.declared.rows.PolicyRows.{PolicyRows}
use Rattle.wot_script.specs.declared.reply.Reply.{Reply}
use Rattle.wot_certd.specs.Memory.{ShelfMemory}
use Rattle.wot_certd.specs.World.{World}
use Rattle.wot_gen.specs.declared.tally.Tally.{Tally}
use Rattle.wot_gen.specs.Summary.{Tallies}
use Rattle.wot_plain.specs.Both.{Ends}
use Rattle.wot_plain.specs.Scene.{Scene, Step}
use Rattle.wot_command.specs.CommandRun.{Seen}
use Rattle.wot_machine.specs.Stepped.{Replied}
use Rattle.wot_plain.specs.Transcript.{RepliesTo, listed}
use Rattle.wot_plain.specs.Watching as watching
use Rattle.wot_plain.specs.Session.{Session}
use Rattle.wot_engine.specs.Generated.{no_entries}

-- The line had its step, and its reply and the watch lines after it were added to the tally.
pub record Adds (rows : PolicyRows) (line : List ℕ) (old : Scene) (before : Tally) (new : Scene) (after : Tally)
    : Type 0 where
  pub reply : Option Reply
  pub reported : List Reply
  pub step : Step rows old line reply reported new
  pub tells : (replies : List Reply) → Tallies before replies → Tallies after (replies ++ (listed reply ++ reported))

-- the world of a directory in memory, and what a line sees of it
abbrev pub world_in : ShelfMemory → World
world_in shelf = shelf.world

abbrev pub seen_in : ShelfMemory → Seen
seen_in shelf = record { world = Some shelf.world; faults = shelf.faults }

-- a line was answered, by what is kept, the directory's world and the tally before and after it
abbrev pub AddsLine : PolicyRows → List ℕ → Ends Session → Ends World → Ends Tally → Type 0
AddsLine rows line machine shelf tally =
    Adds rows line (record { whole = machine.old; world = shelf.old }) tally.old
    (record { whole = machine.new; world = shelf.new }) tally.new

-- the line was answered, and its reply, if it has one, was added to the tally
pub record AddsReply (rows : PolicyRows) (line : List ℕ) (old : Session) (before : Seen) (had : Tally) (new : Session)
    (after : Seen) (has : Tally) : Type 0 where
  pub reply : Option Reply
  pub replied : Replied rows line old before reply new after
  pub tells : (replies : List Reply) → Tallies had replies → Tallies has (replies ++ listed reply)

-- a line was answered, by what is kept, what is seen of the directory and the tally before and after it
abbrev pub AddsOne : PolicyRows → List ℕ → Ends Session → Ends Seen → Ends Tally → Type 0
AddsOne rows line machine shelf tally =
    AddsReply rows line machine.old shelf.old tally.old machine.new shelf.new tally.new

-- the watch lines were reported, and added to the tally
pub record AddsTold (old : Session) (had : Tally) (new : Session) (has : Tally) : Type 0 where
  pub reported : List Reply
  pub reported_are : watching.ReportsWatches old reported new
  pub tells : (replies : List Reply) → Tallies had replies → Tallies has (replies ++ reported)

-- the tally of the replies to these lines, with an empty directory
pub record IsPlayed (rows : PolicyRows) (lines : List (List ℕ)) (tally : Tally) : Type 0 where
  pub replies : List Reply
  pub reported : RepliesTo rows no_entries lines replies
  pub tells : Tallies tally replies
