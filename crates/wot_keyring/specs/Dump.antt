-- The lines that rebuild what is held, and what they do.
use Rattle.std.specs.Prelude.{◌≡◌, ◌≢◌, ◌≤◌, ◌+◌, ◌*◌, ℕ, if◌then◌else◌, List, [], ◌∷◌, ◌++◌, map, length}
use Rattle.std.specs.Prelude.{Option, Some, None, Result, Ok, Err}
use Rattle.std.specs.List.{AllByRecursion, flat_map}
use Rattle.wot_types.specs.declared.fpr.Fpr.{Fpr}
use Rattle.wot_types.specs.declared.limits.Limits.{Limits}
use Rattle.wot_types.specs.declared.number.SigNumber.{SigNumber}
use Rattle.wot_policy.specs.declared.rows.PolicyRows.{PolicyRows}
use Rattle.wot_fields.specs.StateLine.{IsNoComment, most_octets, spelling, state_line_of}
use Rattle.wot_fields.specs.declared.state_line.StateLine.{StateLine}
use Rattle.wot_fields.specs.declared.state_line.StateLine.TheVariants as lines
use Rattle.wot_verdict.specs.declared.verdict.Verdict.{Verdict}
use Rattle.wot_verdict.specs.declared.verdict.Verdict.TheVariants.{Good, Bad}
use Rattle.wot_component.specs.Certificate.{Certificate}
use Rattle.wot_component.specs.Judged.{judged}
use Rattle.wot_component.specs.Text.{text_of}
use Rattle.wot_keyring_spec.specs.declared.imported.Imported.{Imported}
use Rattle.wot_keyring_spec.specs.declared.refusal.Refusal.{Refusal}
use Rattle.wot_keyring_spec.specs.Keyring.{Keyring}
use Rattle.wot_keyring_spec.specs.Held.{Held, nothing, held_of, verdict_set}
use Rattle.wot_keyring_spec.specs.Import.{answer_to, importing}
use Rattle.wot_keyring_spec.specs.Verdict.{is_over}

-- the import of a certificate's text
abbrev pub text_import : Certificate → StateLine
text_import c = lines.Import (text_of c)

abbrev pub import_of : Fpr × Certificate → StateLine
import_of e = text_import e.1

abbrev pub setting : SigNumber → Verdict → StateLine
setting number (Good fpr) = lines.Good number fpr
setting number Bad = lines.Bad number

abbrev pub setting_of : SigNumber × Verdict → StateLine
setting_of e = setting e.0 e.1

-- the certificates by fingerprint, then the verdicts by number
abbrev pub commands_of : Held → List StateLine
commands_of held = map import_of held.certs ++ map setting_of held.verdicts

-- the text of a line, with its line feed
abbrev pub command_line_of : StateLine → List ℕ
command_line_of c = spelling c ++ 10 ∷ []

abbrev pub lines_of : List StateLine → List ℕ
lines_of commands = flat_map command_line_of commands

-- The text is one line, isn't skipped, isn't too long, is no longer than such a line can be, and is read back.
pub record IsLine (c : StateLine) : Type 0 where
  pub no_feed : AllByRecursion (λ octet. octet ≢ 10) (spelling c)
  pub no_comment : IsNoComment (spelling c)
  pub short : length (spelling c) ≤ 16777216
  pub fits : length (spelling c) ≤ most_octets c
  pub read : state_line_of (spelling c) ≡ Some c

abbrev pub AreLines : List StateLine → Type 0
AreLines commands = AllByRecursion IsLine commands

-- How many octets the lines are at most: two digits for each octet of a certificate, with `import`, a space and a line
-- feed beside them, and 142 octets and a line feed for each verdict.
abbrev pub most_dumped : Limits → ℕ
most_dumped l = 8 * l.certificates + 2 * l.octets + 143 * l.verdicts

-- ---- what the commands do in a fresh keyring

abbrev pub unless_refused : {A : Type 0} → Result Imported Refusal → A → Option A
unless_refused (Ok counts) new = Some new
unless_refused (Err refusal) new = None

-- with this verdict, unless the limit on verdicts would be exceeded
abbrev pub unless_over : Limits → SigNumber → Verdict → Held → Option Held
unless_over l number verdict held =
    if is_over l held.verdicts number then None else Some (verdict_set number verdict held)

-- what is held after a command; nothing if the command is refused or changes nothing that is held
abbrev pub after : PolicyRows → Limits → StateLine → Held → Option Held
after rows l (lines.Import octets) held =
    unless_refused (answer_to rows l held.certs octets) (importing rows octets held)
after rows l (lines.Good number fpr) held = unless_over l number (Good fpr) held
after rows l (lines.Bad number) held = unless_over l number Bad held
after rows l _ held = None

-- what is held after these commands, one after the other; nothing once one of them has no result
abbrev pub after_all : {S : Type 0} → (StateLine → S → Option S) → List StateLine → Option S → Option S
after_all after [] o = o
after_all after (command ∷ commands) None = None
after_all after (command ∷ commands) (Some s) = after_all after commands (after command s)

-- a certificate, each signature marked by these policy rows
abbrev pub judged_anew : PolicyRows → Fpr × Certificate → Fpr × Certificate
judged_anew rows e = (e.0, judged rows e.1)

-- what is held, each signature marked by these policy rows
abbrev pub judged_by : PolicyRows → Held → Held
judged_by rows held = record held { certs = map (judged_anew rows) held.certs }

-- Run in a fresh keyring with the same limits, the commands restore what this one holds, marked by the rows, and none
-- is refused.
abbrev pub IsRestored : PolicyRows → Keyring → Type 0
IsRestored rows k =
    after_all (after rows k.limits) (commands_of (held_of k)) (Some nothing) ≡ Some (judged_by rows (held_of k))
