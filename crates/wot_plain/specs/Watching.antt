-- Watches: questions whose amounts are reported again when they change.
use Rattle.std.specs.Prelude.{◌≡◌, ◌⊎◌, ◌==◌, ℕ, Bool, true, false, if◌then◌else◌, MatchBool, List, [], ◌∷◌}
use Rattle.std.specs.Prelude.{Option, Some, None, is_some}
use Rattle.wot_types.specs.declared.fpr.Fpr.{Fpr}
use Rattle.wot_edge.specs.declared.path.Path.{Path}
use Rattle.wot_edge.specs.Answer.{IsAnswer, amount_of}
use Rattle.wot_table.specs.Table.{entry_at, with_entry, without_entry}
use Rattle.wot_plain.specs.declared.class.Class.{Class}
use Rattle.wot_plain.specs.declared.class.Class.TheVariants.{Watch as OfWatch}
use Rattle.wot_plain.specs.declared.class.WatchCommand.{WatchCommand}
use Rattle.wot_plain.specs.declared.class.WatchCommand.TheVariants as commands
use Rattle.wot_script.specs.declared.reply.Reply.{Reply}
use Rattle.wot_script.specs.declared.reply.Reply.TheVariants as replies
use Rattle.wot_cache.specs.declared.view.View.{View}
use Rattle.wot_cache.specs.Question.{question_in}
use Rattle.wot_cache.specs.State.{Engine, State}
use Rattle.wot_cache.specs.Views.{view_at}
use Rattle.wot_cursor.specs.Cursors.{Cursors}
use Rattle.wot_watch.specs.Watches.{Watch, Watches, is_full, with_told}
use Rattle.wot_plain.specs.Session.{Session, watched, session_of}

-- ---- amounts

-- the amount of the answer to a question from this view; 0 if nothing is wanted, which no command asks for
abbrev pub IsAmount : State → View → Fpr → ℕ → List ℕ → ℕ → Type 0
IsAmount s view target wanted uid amount =
    MatchBool (wanted == 0) (amount ≡ 0)
    ((paths : List Path) × IsAnswer (question_in s view target uid) wanted paths × (amount ≡ amount_of paths))

-- this amount, or None if the view isn't open
abbrev pub HasAmount : State → Option View → Fpr → ℕ → List ℕ → Option ℕ → Type 0
HasAmount s None target wanted uid amount = amount ≡ None
HasAmount s (Some view) target wanted uid amount = (n : ℕ) × IsAmount s view target wanted uid n × (amount ≡ Some n)

-- ---- watch lines

-- a watch's line, by the amount last reported and the current one; None if they are equal
abbrev pub line_by : List ℕ → ℕ → Option ℕ → Option Reply
line_by name reported None = Some (replies.WatchGone name)
line_by name reported (Some amount) = if amount == reported then None else Some (replies.WatchAmount name amount)

-- the line of a watch in this state, or None
abbrev pub IsLine : State → List ℕ → Watch → Option Reply → Type 0
IsLine s name watch line =
    (amount : Option ℕ) × HasAmount s (view_at s.views watch.view) watch.target watch.wanted watch.uid amount
    × (line ≡ line_by name watch.told amount)

abbrev pub with_line : Option Reply → List Reply → List Reply
with_line None lines = lines
with_line (Some line) lines = line ∷ lines

-- the lines of these watches, in their order
abbrev pub AreLines : State → Watches → List Reply → Type 0
AreLines s [] lines = lines ≡ []
AreLines s (entry ∷ watches) lines =
    (line : Option Reply) × (others : List Reply) × IsLine s entry.0 entry.1 line × AreLines s watches others
    × (lines ≡ with_line line others)

-- it is a watch line
abbrev pub IsWatchLine : Reply → Type 0
IsWatchLine line =
    ((name : List ℕ) × (amount : ℕ) × (line ≡ replies.WatchAmount name amount))
    ⊎ ((name : List ℕ) × (line ≡ replies.WatchGone name))

-- The watches after a line was reported: an amount becomes the one last reported, and a watch that is gone is removed.
abbrev pub told_by : Watches → Reply → Watches
told_by watches (replies.WatchAmount name amount) = with_told watches name amount
told_by watches (replies.WatchGone name) = without_entry watches name
told_by watches _ = watches

abbrev pub told_all : Watches → List Reply → Watches
told_all watches [] = watches
told_all watches (line ∷ lines) = told_all (told_by watches line) lines

-- These are the watch lines of what is kept, and they are reported. Nothing else changes.
pub record ReportsWatches (old : Session) (lines : List Reply) (new : Session) : Type 0 where
  pub lines_are : AreLines old.state old.watches lines
  pub left : new ≡ record old { watches = told_all old.watches lines }

-- ---- `watch W on V FPR N UID`

-- the reply and the watches are these
abbrev pub LeavesWatches : Reply → Watches → Reply → Watches → Type 0
LeavesWatches reported left reply watches = (reply ≡ reported) × (watches ≡ left)

abbrev pub opened : List ℕ → Fpr → ℕ → List ℕ → ℕ → Watch
opened view target wanted uid amount =
    record { view = view; target = target; wanted = wanted; uid = uid; told = amount }

-- The watch begins or restarts and its first amount is the reply, unless the number of watches is at its limit.
abbrev pub BeginsWatch : Watches → List ℕ → List ℕ → Fpr → ℕ → List ℕ → ℕ → Reply → Watches → Type 0
BeginsWatch old name view target wanted uid amount reply watches =
    MatchBool (is_full old name) (LeavesWatches replies.FullWatches old reply watches)
    (LeavesWatches (replies.WatchAmount name amount) (with_entry old name (opened view target wanted uid amount))
    reply watches)

-- the reply and the watches when a watch begins from an open view
abbrev pub Opens : Session → List ℕ → List ℕ → Fpr → ℕ → List ℕ → Option View → Reply → Watches → Type 0
Opens s name view target wanted uid None reply watches = LeavesWatches replies.View s.watches reply watches
Opens s name view target wanted uid (Some there) reply watches =
    (amount : ℕ) × IsAmount s.state there target wanted uid amount
    × BeginsWatch s.watches name view target wanted uid amount reply watches

-- ---- `watch W off`

-- a watch is removed
abbrev pub TakesOff : Session → List ℕ → Reply → Watches → Type 0
TakesOff s name reply watches =
    MatchBool (is_some (entry_at s.watches name))
    (LeavesWatches replies.Done (without_entry s.watches name) reply watches)
    (LeavesWatches replies.NoWatch s.watches reply watches)

-- ---- all commands

-- whether it is a command of a watch
abbrev pub is_watching : Class → Bool
is_watching (OfWatch name command) = true
is_watching _ = false

-- what a command of a watch does to the watches, and its reply
abbrev pub SetsWatch : Session → List ℕ → WatchCommand → Reply → Watches → Type 0
SetsWatch s name (commands.On view target wanted uid) reply watches =
    Opens s name view target wanted uid (view_at s.state.views view) reply watches
SetsWatch s name commands.Off reply watches = TakesOff s name reply watches

-- What a command does to the watches, and the reply if it is a command of a watch. No other command changes them.
abbrev pub Watching : Session → Class → Reply → Watches → Type 0
Watching s (OfWatch name command) reply watches = SetsWatch s name command reply watches
Watching s _ reply watches = watches ≡ s.watches

-- what a command of a watch does over an engine, whatever the cursors are
abbrev pub SetsOver : Engine → Watches → List ℕ → WatchCommand → Reply → Watches → Type 0
SetsOver engine old name command reply watches =
    (cursors : Cursors) → SetsWatch (watched (session_of engine cursors) old) name command reply watches

-- what the beginning of a watch does over an engine
abbrev pub OpensOver : Engine → Watches → List ℕ → List ℕ → Fpr → ℕ → List ℕ → Reply → Watches → Type 0
OpensOver engine old name view target wanted uid reply watches =
    SetsOver engine old name (commands.On view target wanted uid) reply watches
