-- What a line does, by the command that it is read as.
use Rattle.std.proofs.Common.{◌≡◌, ℕ, Bool, true, false, List, [], ◌∷◌, length, Option, Some, None, sym, subst}
use Rattle.std.specs.Prelude.{MatchBool, if◌then◌else◌, nat_lt}
use Rattle.wot_policy.specs.declared.rows.PolicyRows.{PolicyRows}
use Rattle.wot_script.specs.declared.command.Command.{Command}
use Rattle.wot_script.specs.declared.reply.Reply.{Reply}
use Rattle.wot_script.specs.declared.reply.Reply.TheVariants as replies
use Rattle.wot_script.specs.Grammar.{command_of}
use Rattle.wot_watch.specs.Watches.{Watches}
use Rattle.wot_plain.specs.declared.class.Class.{Class}
use Rattle.wot_plain.specs.Classes.{class_of}
use Rattle.wot_plain.specs.Entry.{use_of}
use Rattle.wot_plain.specs.Lines.{command_in_line, is_silent, longest}
use Rattle.wot_plain.specs.LineStep.{ReadLineStep, HasReply, LineStep, CommandStep, Stays}
use Rattle.wot_plain.specs.Scene.{Scene, served_in}
use Rattle.wot_plain.specs.Served.{Served}
use Rattle.wot_plain.specs.Transcript.{Run}
use Rattle.wot_plain.specs.Watching.{told_all}
use Rattle.wot_plain.specs.Session.{Session, watched}

-- A line that isn't a command changes nothing. Any other line has a reply and does what its command does.
abbrev pub Hears : PolicyRows → Session → Option Command → Served → Option Reply → Session → Type 0
Hears rows old None given reply new = new ≡ old
Hears rows old (Some command) given reply new = HasReply (CommandStep rows old (class_of command) given) reply new

pub hears : (rows : PolicyRows) (old : Session) (line : List ℕ) (given : Served) (reply : Option Reply) (new : Session)
    → LineStep rows old line given reply new
    → Hears rows old (command_in_line line) given reply new
hears rows old line given reply new = long (nat_lt longest (length line))
  where
    stays : (r : Option Reply) → HasReply (Stays old replies.Long) r new → new ≡ old
    stays None g = absurd g
    stays (Some r) g = g.1

    known : (r : Option Reply) (o : Option Command) → HasReply (ReadLineStep rows old o given) r new
        → Hears rows old o given r new
    known None o g = absurd g
    known (Some r) None g = g.1
    known (Some r) (Some command) g = g

    silent : (b : Bool)
        → MatchBool b ((reply ≡ None) × (new ≡ old)) (HasReply (ReadLineStep rows old (command_of line) given) reply new)
        → Hears rows old (if b then None else command_of line) given reply new
    silent true g = g.1
    silent false g = known reply (command_of line) g

    long : (b : Bool)
        → MatchBool b (HasReply (Stays old replies.Long) reply new)
        (MatchBool (is_silent line) ((reply ≡ None) × (new ≡ old))
        (HasReply (ReadLineStep rows old (command_of line) given) reply new))
        → Hears rows old (if b then None else if is_silent line then None else command_of line) given reply new
    long true g = stays reply g
    long false g = silent (is_silent line) g

pub heard_reads : (line : List ℕ) (command : Command) → command_in_line line ≡ Some command → command_of line ≡ Some command
heard_reads line command = long (nat_lt longest (length line))
  where
    silent : (b : Bool) → (if b then None else command_of line) ≡ Some command → command_of line ≡ Some command
    silent true e = absurd (cc e)
    silent false e = e

    long : (b : Bool) → (if b then None else if is_silent line then None else command_of line) ≡ Some command
        → command_of line ≡ Some command
    long true e = absurd (cc e)
    long false e = silent (is_silent line) e

-- What every command preserves, every line preserves, and so every run.
module _
    (rows : PolicyRows) (P : Session → Type 0)
    (kept : (old : Session) (class : Class) (given : Served) (reply : Reply) (new : Session) →
    CommandStep rows old class given reply new → P old → P new)
  where
    pub step_keeps : (old : Session) (line : List ℕ) (given : Served) (reply : Option Reply) (new : Session)
        → LineStep rows old line given reply new → P old → P new
    step_keeps old line given reply new step p = by (command_in_line line) reply (hears rows old line given reply new step)
      where
        by : (o : Option Command) (r : Option Reply) → Hears rows old o given r new → P new
        by None r e = subst P (sym e) p
        by (Some command) None g = absurd g
        by (Some command) (Some r) g = kept old (class_of command) given r new g p

    -- watch lines change only the watches
    pub run_keeps : ((s : Session) (watches : Watches) → P s → P (watched s watches)) →
        (lines : List (List ℕ)) (old : Scene)
        (told : List Reply) (new : Scene) → Run rows old lines told new → P old.whole → P new.whole
    run_keeps still [] old told new r p = subst (λ (s : Scene). P s.whole) (sym r.1) p
    run_keeps still (line ∷ lines) old told new r p =
        let mid : P r.4.mid = step_keeps old.whole line (served_in old (use_of (command_in_line line))) r.0 r.4.mid r.4.does p in
        run_keeps still lines r.2 r.3 new r.5
        (subst P (sym r.4.tells.left) (still r.4.mid (told_all r.4.mid.watches r.1) mid))

-- What holds of the replies to lines that are too long or no commands, and of every reply to a command, holds of every
-- reply.
pub told_by : (rows : PolicyRows) (D : Reply → Type 0) → D replies.Long → D replies.Line
    → (old : Session) (line : List ℕ) (given : Served) (reply : Reply) (new : Session)
    → ((class : Class) → CommandStep rows old class given reply new → D reply)
    → LineStep rows old line given (Some reply) new → D reply
told_by rows D too_long unread old line given reply new obeys = long (nat_lt longest (length line))
  where
    known : (o : Option Command) → ReadLineStep rows old o given reply new → D reply
    known None g = subst D (sym g.0) unread
    known (Some command) g = obeys (class_of command) g

    silent : (b : Bool)
        → MatchBool b ((Some reply ≡ None) × (new ≡ old)) (ReadLineStep rows old (command_of line) given reply new) → D reply
    silent true g = let never : Some reply ≡ None = g.0 in absurd (cc never)
    silent false g = known (command_of line) g

    long : (b : Bool)
        → MatchBool b (Stays old replies.Long reply new) (MatchBool (is_silent line) ((Some reply ≡ None) × (new ≡ old))
        (ReadLineStep rows old (command_of line) given reply new))
        → D reply
    long true g = subst D (sym g.0) too_long
    long false g = silent (is_silent line) g
