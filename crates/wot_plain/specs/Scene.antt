-- What lines change: everything that the machine keeps, and the world of its certificate directory, which is its
-- entries and how its calls end.
use Rattle.std.specs.Prelude.{◌≡◌, ℕ, List, Option}
use Rattle.wot_policy.specs.declared.rows.PolicyRows.{PolicyRows}
use Rattle.wot_script.specs.declared.reply.Reply.{Reply}
use Rattle.wot_certd.specs.World.{World}
use Rattle.wot_plain.specs.Entry.{Use, entry_for, given_by, put_for, use_of, world_after}
use Rattle.wot_plain.specs.Lines.{command_in_line}
use Rattle.wot_plain.specs.Served.{Served}
use Rattle.wot_plain.specs.LineStep.{LineStep}
use Rattle.wot_plain.specs.Watching.{ReportsWatches}
use Rattle.wot_plain.specs.Session.{Session, beginning}

pub record Scene : Type 0 where
  pub whole : Session
  pub world : World

-- before the first line, with a certificate directory in this world
abbrev pub opening : World → Scene
opening world = record { whole = beginning; world = world }

-- what the directory returns to a line that uses it so
abbrev pub served_in : Scene → Use → Served
served_in old use_ = given_by old.world (entry_for old.whole.state use_)

-- the directory's world after the line
abbrev pub world_behind : Scene → Use → World
world_behind old use_ =
    world_after old.world (entry_for old.whole.state use_) (put_for old.whole.state use_ (served_in old use_).read)

-- One line: a step of the abstract machine with what its certificate directory returns. The watch lines of the
-- resulting state follow the line's reply.
pub record Step (rows : PolicyRows) (old : Scene) (line : List ℕ) (reply : Option Reply) (reported : List Reply)
    (new : Scene) : Type 0 where
  pub mid : Session
  pub does : LineStep rows old.whole line (served_in old (use_of (command_in_line line))) reply mid
  pub tells : ReportsWatches mid reported new.whole
  pub world : new.world ≡ world_behind old (use_of (command_in_line line))
