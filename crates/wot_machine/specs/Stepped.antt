-- What one call of the machine does for a line.
use Rattle.std.specs.Prelude.{◌≡◌, ℕ, true, List, ◌++◌, Option, Result}
use Rattle.wot_io.specs.Counts.{Rose}
use Rattle.wot_policy.specs.declared.rows.PolicyRows.{PolicyRows}
use Rattle.wot_script.specs.declared.command.Command.{Command}
use Rattle.wot_script.specs.declared.reply.Reply.{Reply}
use Rattle.wot_plain.specs.declared.class.Class.{Class}
use Rattle.wot_plain.specs.declared.draft.DraftReply.{DraftReply}
use Rattle.wot_plain.specs.Both.{Ends}
use Rattle.wot_plain.specs.Entry.{IsServed, has_failed, put_for, use_of}
use Rattle.wot_plain.specs.Lines.{command_in_line}
use Rattle.wot_plain.specs.LineStep.{LineStep}
use Rattle.wot_plain.specs.Made.{LineMakes}
use Rattle.wot_machine.specs.Machine.{Machine, kept}
use Rattle.wot_plain.specs.Pacing.{left_by, reply_in, settled}
use Rattle.wot_plain.specs.Session.{Session, watched, session_of}
use Rattle.wot_command.specs.CommandRun.{CommandRun, ClassRun, Seen}
use Rattle.wot_plain.specs.Served.{Served}
use Rattle.wot_plain.specs.Transcript.{listed, octets_of}
use Rattle.wot_plain.specs.Watching.{ReportsWatches}

-- The line had this reply or none, by what the certificate directory returned. A call failed only if the count of
-- faults rose.
pub record Replied (rows : PolicyRows) (line : List ℕ) (old : Session) (before : Seen) (reply : Option Reply)
    (new : Session) (after : Seen) : Type 0 where
  pub given : Served
  pub step : LineStep rows old line given reply new
  pub served : IsServed old.state (use_of (command_in_line line)) before.world given after.world
  pub cause : has_failed (put_for old.state (use_of (command_in_line line)) given.read) given ≡ true
      → Rose before.faults after.faults

-- A machine's reply to a line. A cursor moves once the reply is written.
abbrev pub Replies : PolicyRows → List ℕ → Ends Machine → Ends Seen → Option DraftReply → Type 0
Replies rows line machine shelf drafted =
    Replied rows line (kept machine.old) shelf.old (reply_in drafted)
    (watched (session_of machine.new.engine (left_by drafted machine.new.cursors)) machine.new.watches) shelf.new

-- what a machine's parts do with a command, or with a line that isn't one
abbrev pub RunsIn : PolicyRows → Option Command → Ends Machine → Ends Seen → DraftReply → Type 0
RunsIn rows command machine shelf drafted =
    CommandRun rows command (kept machine.old) shelf.old drafted.reply
    (watched (session_of machine.new.engine (settled drafted.moved machine.new.cursors)) machine.new.watches) shelf.new

-- what a command does, by its class, in terms of a machine's parts
abbrev pub ClassRunsIn : PolicyRows → Class → Ends Machine → Ends Seen → DraftReply → Type 0
ClassRunsIn rows class machine shelf drafted =
    ClassRun rows class (kept machine.old) shelf.old drafted.reply
    (watched (session_of machine.new.engine (settled drafted.moved machine.new.cursors)) machine.new.watches) shelf.new

-- how many edges a machine's parts make for a command, or for a line that isn't one
abbrev pub PartsMake : {T E : Type 0} → Result T E → Option Command → Ends Machine → Type 0
PartsMake result command machine =
    LineMakes result command machine.old.cursors machine.old.engine machine.new.engine machine.old.made machine.new.made

-- The line had its step by what the directory returned, and the octets of its reply are appended. A call failed only if
-- the count of faults rose.
pub record Stepped (rows : PolicyRows) (line : List ℕ) (old : Session) (before : Seen) (had : List ℕ) (new : Session)
    (after : Seen) (has : List ℕ) : Type 0 where
  pub given : Served
  pub reply : Option Reply
  pub step : LineStep rows old line given reply new
  pub served : IsServed old.state (use_of (command_in_line line)) before.world given after.world
  pub cause : has_failed (put_for old.state (use_of (command_in_line line)) given.read) given ≡ true
      → Rose before.faults after.faults
  pub octets : has ≡ had ++ octets_of (listed reply)

-- the step of a line, by what is kept, the directory and the octets before and after the call
abbrev pub LineRun : PolicyRows → List ℕ → Ends Session → Ends Seen → Ends (List ℕ) → Type 0
LineRun rows line whole shelf out = Stepped rows line whole.old shelf.old out.old whole.new shelf.new out.new

-- the watch lines are reported, and their octets are appended
pub record TellsBehind (old : Session) (had : List ℕ) (new : Session) (has : List ℕ) : Type 0 where
  pub lines : List Reply
  pub tells : ReportsWatches old lines new
  pub octets : has ≡ had ++ octets_of lines
