-- The reply to a line from the reader of lines.
use Rattle.std.specs.Prelude.{◌≡◌, ℕ, ◌<◌, List, ◌++◌, length, Option}
use Rattle.wot_io.specs.declared.lines.Line.{Line}
use Rattle.wot_io.specs.declared.lines.Line.TheVariants.{Text, Long, End}
use Rattle.wot_policy.specs.declared.rows.PolicyRows.{PolicyRows}
use Rattle.wot_script.specs.declared.reply.Reply.{Reply}
use Rattle.wot_certd.specs.World.{World}
use Rattle.wot_plain.specs.Both.{Ends}
use Rattle.wot_plain.specs.Entry.{IsServed, Use, unused, use_of}
use Rattle.wot_plain.specs.Lines.{command_in_line, longest}
use Rattle.wot_plain.specs.LineStep.{LineStep}
use Rattle.wot_plain.specs.Served.{Served}
use Rattle.wot_plain.specs.Watching.{ReportsWatches}
use Rattle.wot_plain.specs.Session.{Session}
use Rattle.wot_plain.specs.Transcript.{listed, octets_of}

-- what the line does with the certificate directory; nothing if it is too long
abbrev pub use_by : Line → List ℕ → Use
use_by Text text = use_of (command_in_line text)
use_by Long text = unused
use_by End text = unused

-- the reply to the line; the octets of a line that is too long aren't kept
abbrev pub IsReply : PolicyRows → Line → List ℕ → Session → Served → Option Reply → Session → Type 0
IsReply rows Text text old given reply new = LineStep rows old text given reply new
IsReply rows Long text old given reply new =
    (line : List ℕ) → longest < length line → LineStep rows old line given reply new
IsReply rows End text old given reply new = ⊥

-- the octets of the line's reply were appended to the buffer
pub record SaidBehind (rows : PolicyRows) (line : Line) (text : List ℕ) (old : Session) (before : Option World)
    (had : List ℕ) (mid : Session) (after : Option World) (has : List ℕ) : Type 0 where
  pub given : Served
  pub reply : Option Reply
  pub does : IsReply rows line text old given reply mid
  pub served : IsServed old.state (use_by line text) before given after
  pub behind : has ≡ had ++ octets_of (listed reply)

-- The octets of the line's reply and of the watch lines after it, with these worlds of the directory before and after.
pub record Replies (rows : PolicyRows) (line : Line) (text : List ℕ) (old : Session) (before : Option World)
    (octets : List ℕ) (new : Session) (after : Option World) : Type 0 where
  pub given : Served
  pub reply : Option Reply
  pub mid : Session
  pub reported : List Reply
  pub does : IsReply rows line text old given reply mid
  pub tells : ReportsWatches mid reported new
  pub served : IsServed old.state (use_by line text) before given after
  pub octets_are : octets ≡ octets_of (listed reply ++ reported)

-- these octets were appended to the buffer
pub record RepliesBehind (rows : PolicyRows) (line : Line) (text : List ℕ) (old : Session) (before : Option World)
    (had : List ℕ) (new : Session) (after : Option World) (has : List ℕ) : Type 0 where
  pub octets : List ℕ
  pub replies : Replies rows line text old before octets new after
  pub behind : has ≡ had ++ octets

-- the octets of the reply were appended, by the values before and after the call
abbrev pub Says : PolicyRows → Line → List ℕ → Ends Session → Ends (Option World) → Ends (List ℕ) → Type 0
Says rows line text machine shelf out =
    SaidBehind rows line text machine.old shelf.old out.old machine.new shelf.new out.new

-- the octets of the reply and of the watch lines after it were appended
abbrev pub SaysAll : PolicyRows → Line → List ℕ → Ends Session → Ends (Option World) → Ends (List ℕ) → Type 0
SaysAll rows line text machine shelf out =
    RepliesBehind rows line text machine.old shelf.old out.old machine.new shelf.new out.new
