-- The command that a line spells.
use Rattle.std.specs.Prelude.{ℕ, if◌then◌else◌, List, [], ◌∷◌, Option, Some, None, codes}
use Rattle.std.specs.List.{find}
use Rattle.std.specs.Str.{bytes_eq}
use Rattle.std.specs.Option.{option_map, option_or}
use Rattle.wot_types.specs.Fpr.{fpr_of_digits}
use Rattle.wot_types.specs.ViewName.{view_name_of}
use Rattle.wot_reply_lines.specs.Claims.{claim_of, field_of, labels_of}
use Rattle.wot_reply_lines.specs.Entry.{entry_of}
use Rattle.wot_reply_lines.specs.Question.{question_of}
use Rattle.wot_fields.specs.Decimal.{positive_up_to}
use Rattle.wot_fields.specs.Fields.{behind, field, read_behind}
use Rattle.wot_fields.specs.StateLine.{state_line_of}
use Rattle.wot_script.specs.OneWord.{word_of}
use Rattle.wot_fields.specs.Uid.{unescaped}
use Rattle.wot_fields.specs.declared.state_line.StateLine.{StateLine}
use Rattle.wot_fields.specs.declared.state_line.StateLine.TheVariants as lines
use Rattle.wot_script.specs.declared.command.Command.{Command}
use Rattle.wot_script.specs.declared.read.About.{About}
use Rattle.wot_script.specs.declared.read.About.TheVariants.{Asked, Listed, Explained, Missed, Checked}
use Rattle.wot_script.specs.declared.read.About.TheVariants.{Paced, Watched}
use Rattle.wot_script.specs.declared.command.Command.TheVariants.{Import, Load, Store, Remove, Good, Bad, Unjudge, Time}
use Rattle.wot_script.specs.declared.command.Command.TheVariants.{Root, Close, Ask, Explain}
use Rattle.wot_script.specs.declared.command.Command.TheVariants.{Export, Absence, Check, Pending, Keys, Dump}
use Rattle.wot_script.specs.declared.command.Command.TheVariants.{CursorOver, CursorNext, CursorClose}
use Rattle.wot_script.specs.declared.command.Command.TheVariants.{WatchOn, WatchOff}

-- the command of a line that sets a part of the state
abbrev pub command_for : StateLine → Command
command_for (lines.Import octets) = Import octets
command_for (lines.Good number fpr) = Good number fpr
command_for (lines.Bad number) = Bad number
command_for (lines.Unjudge number) = Unjudge number
command_for (lines.Time view t) = Time view t
command_for (lines.Root view fpr amount) = Root view fpr amount
command_for (lines.Close view) = Close view

-- after `cursor C over `: V N
unfoldable pub over_of : List ℕ → List ℕ → Option Command
over_of cursor text =
    field view_name_of (λ view digits. option_map (CursorOver cursor view) (positive_up_to 4294967295 digits)) text

-- after `watch W on `: V and a question
unfoldable pub watch_of : List ℕ → List ℕ → Option Command
watch_of watch text =
    field view_name_of (λ view rest. option_map (λ q. WatchOn watch view q.fpr q.wanted q.uid) (question_of rest)) text

-- What follows the name of a view, a cursor or a watch, by what the line is about. After `ask V ` and `absence V `: a
-- question; `list V `: N; `explain V `: FPR UID; `check V `: FPR PATHS TABLE UID; `cursor C `: `over V N`, `next K` or
-- `close`; `watch W `: `on V FPR N UID` or `off`. UID is the rest of the line.
abbrev pub about_of : About → List ℕ → List ℕ → Option Command
about_of Asked view text = option_map (λ q. Ask view q.fpr q.wanted q.uid) (question_of text)
about_of Listed view text = option_map (Command.List view) (positive_up_to 4294967295 text)
about_of Explained view text = field fpr_of_digits (λ fpr uid. option_map (Explain view fpr) (unescaped uid)) text
about_of Missed view text = option_map (λ q. Absence view q.fpr q.wanted q.uid) (question_of text)
about_of Checked view text =
    field fpr_of_digits (λ fpr. field (field_of claim_of) (λ claims. field labels_of (λ labels uid.
    option_map (Check view fpr claims labels) (unescaped uid)))) text
about_of Paced cursor text =
    read_behind (behind (codes "over ") text) (over_of cursor) (
    read_behind (behind (codes "next ") text)
    (λ digits. option_map (CursorNext cursor) (positive_up_to 4294967295 digits)) (
    if bytes_eq text (codes "close") then Some (CursorClose cursor) else None))
about_of Watched watch text =
    read_behind (behind (codes "on ") text) (watch_of watch) (
    if bytes_eq text (codes "off") then Some (WatchOff watch) else None)

-- V, C or W, and what follows its space
abbrev pub view_of : About → List ℕ → Option Command
view_of about text = field view_name_of (about_of about) text

-- a line without any of these prefixes: a command of one word
unfoldable pub single_of : List ℕ → Option Command
single_of line = find (λ command. bytes_eq line (word_of command)) (Pending ∷ Keys ∷ Dump ∷ [])

-- a line that sets no part of the state: `load NAME`, `drop FPR`, `export FPR`, `store FPR`, or one of those above
unfoldable pub other_of : List ℕ → Option Command
other_of line =
    read_behind (behind (codes "load ") line) (λ text. option_map Load (entry_of text)) (
    read_behind (behind (codes "drop ") line) (λ digits. option_map Remove (fpr_of_digits digits)) (
    read_behind (behind (codes "ask ") line) (view_of Asked) (
    read_behind (behind (codes "list ") line) (view_of Listed) (
    read_behind (behind (codes "explain ") line) (view_of Explained) (
    read_behind (behind (codes "absence ") line) (view_of Missed) (
    read_behind (behind (codes "check ") line) (view_of Checked) (
    read_behind (behind (codes "export ") line) (λ digits. option_map Export (fpr_of_digits digits)) (
    read_behind (behind (codes "cursor ") line) (view_of Paced) (
    read_behind (behind (codes "watch ") line) (view_of Watched) (
    read_behind (behind (codes "store ") line) (λ digits. option_map Store (fpr_of_digits digits)) (
    single_of line)))))))))))

-- the command that a line spells; None if it isn't a command
unfoldable pub command_of : List ℕ → Option Command
command_of line = option_or (option_map command_for (state_line_of line)) (other_of line)
