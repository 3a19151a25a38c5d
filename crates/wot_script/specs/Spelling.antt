-- How a command is printed.
use Rattle.std.specs.Prelude.{ℕ, ◌<◌, ◌≤◌, ◌+◌, ◌*◌, List, [], ◌∷◌, length, codes}
use Rattle.std.specs.Fmt.{decimal}
use Rattle.wot_types.specs.Fpr.{digits_of}
use Rattle.wot_reply_lines.specs.Claims.{IsClaimSpelled, claim_text, field_text, label_text, most_paths}
use Rattle.wot_reply_lines.specs.Entry.{entry_text}
use Rattle.wot_reply_lines.specs.Question.{asking, question_parts}
use Rattle.wot_script.specs.OneWord.{word_of}
use Rattle.wot_fields.specs.StateLine.{IsOneLine, spelling as line_text, most_octets as most_of_line}
use Rattle.wot_fields.specs.Texts.{joined}
use Rattle.wot_fields.specs.Uid.{escaped}
use Rattle.wot_fields.specs.declared.state_line.StateLine.TheVariants as lines
use Rattle.wot_script.specs.declared.command.Command.{Command}
use Rattle.wot_script.specs.declared.command.Command.TheVariants.{Import, Load, Store, Remove, Good, Bad, Unjudge, Time}
use Rattle.wot_script.specs.declared.command.Command.TheVariants.{Root, Close, Ask, Explain}
use Rattle.wot_script.specs.declared.command.Command.TheVariants.{Export, Absence, Check}
use Rattle.wot_script.specs.declared.command.Command.TheVariants.{CursorOver, CursorNext, CursorClose}
use Rattle.wot_script.specs.declared.command.Command.TheVariants.{WatchOn, WatchOff}

-- A command can be printed if each number that it asks for is at least 1, and the paths and the table of a claim can be
-- printed.
abbrev pub HasSpelling : Command → Type 0
HasSpelling (Ask view fpr wanted uid) = 1 ≤ wanted
HasSpelling (Command.List view wanted) = 1 ≤ wanted
HasSpelling (Absence view fpr wanted uid) = 1 ≤ wanted
HasSpelling (Check view fpr claims labels uid) = IsClaimSpelled claims labels
HasSpelling (CursorOver cursor view wanted) = 1 ≤ wanted
HasSpelling (CursorNext cursor count) = 1 ≤ count
HasSpelling (WatchOn watch view fpr wanted uid) = 1 ≤ wanted
HasSpelling _ = Unit {0}

-- An import has at most half as many octets as its line, and a claim has fewer paths than its line has octets.
abbrev pub FitsLine : ℕ → Command → Type 0
FitsLine size (Import octets) = 2 * length octets ≤ size
FitsLine size (Check view fpr claims labels uid) = length claims < size
FitsLine size _ = Unit {0}

-- the line of a command, without a line feed
unfoldable pub spelling : Command → List ℕ
spelling (Import octets) = line_text (lines.Import octets)
spelling (Load name) = joined (codes "load " ∷ entry_text name ∷ [])
spelling (Store fpr) = joined (codes "store " ∷ digits_of fpr ∷ [])
spelling (Remove fpr) = joined (codes "drop " ∷ digits_of fpr ∷ [])
spelling (Good number fpr) = line_text (lines.Good number fpr)
spelling (Bad number) = line_text (lines.Bad number)
spelling (Unjudge number) = line_text (lines.Unjudge number)
spelling (Time view t) = line_text (lines.Time view t)
spelling (Root view fpr amount) = line_text (lines.Root view fpr amount)
spelling (Close view) = line_text (lines.Close view)
spelling (Ask view fpr wanted uid) = asking (codes "ask ") view fpr wanted uid
spelling (Command.List view wanted) = joined (codes "list " ∷ view ∷ codes " " ∷ decimal wanted ∷ [])
spelling (Explain view fpr uid) =
    joined (codes "explain " ∷ view ∷ codes " " ∷ digits_of fpr ∷ codes " " ∷ escaped uid ∷ [])
spelling (Absence view fpr wanted uid) = asking (codes "absence ") view fpr wanted uid
spelling (Check view fpr claims labels uid) =
    joined (codes "check " ∷ view ∷ codes " " ∷ digits_of fpr ∷ codes " " ∷ field_text claim_text claims ∷ codes " "
    ∷ field_text label_text labels ∷ codes " " ∷ escaped uid ∷ [])
spelling (Export fpr) = joined (codes "export " ∷ digits_of fpr ∷ [])
spelling (CursorOver cursor view wanted) =
    joined (codes "cursor " ∷ cursor ∷ codes " over " ∷ view ∷ codes " " ∷ decimal wanted ∷ [])
spelling (CursorNext cursor count) = joined (codes "cursor " ∷ cursor ∷ codes " next " ∷ decimal count ∷ [])
spelling (CursorClose cursor) = joined (codes "cursor " ∷ cursor ∷ codes " close" ∷ [])
spelling (WatchOn watch view fpr wanted uid) =
    joined (codes "watch " ∷ watch ∷ codes " on " ∷ view ∷ codes " " ∷ question_parts fpr wanted uid)
spelling (WatchOff watch) = joined (codes "watch " ∷ watch ∷ codes " off" ∷ [])
spelling command = word_of command

-- ---- lines

-- the largest length of a command's line
abbrev pub most_octets : Command → ℕ
most_octets (Import octets) = most_of_line (lines.Import octets)
most_octets (Good number fpr) = most_of_line (lines.Good number fpr)
most_octets (Ask view fpr wanted uid) = 128 + 4 * length uid
most_octets (Explain view fpr uid) = 128 + 4 * length uid
most_octets (Absence view fpr wanted uid) = 128 + 4 * length uid
most_octets (WatchOn watch view fpr wanted uid) = 192 + 4 * length uid
most_octets (Check view fpr claims labels uid) = 128 + 4 * length uid + most_paths claims + 128 * length labels
most_octets _ = 128

-- The text is one line, which isn't silent and is no longer than the line of the command can be.
abbrev pub IsLineFor : Command → List ℕ → Type 0
IsLineFor command text = IsOneLine (most_octets command) text
