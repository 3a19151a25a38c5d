-- The script of a start and a count: a list of commands, and its text.
use Rattle.std.specs.Prelude.{◌≡◌, ℕ, ◌+◌, ◌-◌, ◌*◌, ◌/◌, ◌%◌, List, [], ◌∷◌, ◌++◌, Some, length, map, codes, Result}
use Rattle.std.specs.Prelude.{OnOk}
use Rattle.std.specs.List.{flat_map, range_with_len}
use Rattle.wot_types.specs.declared.fpr.Fpr.{Fpr}
use Rattle.wot_types.specs.declared.memory.Memory.{Memory}
use Rattle.wot_script.specs.declared.command.Command.{Command}
use Rattle.wot_script.specs.declared.command.Command.TheVariants.{Import, Good, Bad, Time, Root, Ask}
use Rattle.wot_script.specs.Grammar.{command_of}
use Rattle.wot_script.specs.Spelling.{IsLineFor, spelling}
use Rattle.wot_random.specs.Words.{word}
use Rattle.wot_random.specs.Bodies.{user_id}
use Rattle.wot_random.specs.Identities.{AreIdentities, IsIdentity, direct_number_at, fpr_at, packets_at}
use Rattle.wot_random.specs.Certifications.{certifications_at, drawn_before}
use Rattle.wot_random.specs.declared.certification.Certification.{Certification}
use Rattle.wot_random.specs.declared.identity.Identity.{Identity}
use Rattle.wot_gen.specs.declared.commands.View.{View}
use Rattle.wot_gen.specs.declared.commands.View.TheVariants.{A, B}

-- what a step of the script returns for 0, for 1, and so on, below a count
abbrev pub below : ℕ → (ℕ → List Command) → List Command
below count commands = flat_map commands (range_with_len 0 count)

-- the verdicts on certifications, each good by its issuer
abbrev pub verdicts_on : List Certification → List Command
verdicts_on certifications = map (λ (made : Certification). Good made.number made.issuer) certifications

-- a certificate and the verdicts on its signatures
unfoldable pub certificate_commands : ℕ → ℕ → List Certification → List Command
certificate_commands start index certifications =
    Import (packets_at start index ++ flat_map (λ (made : Certification). made.packet) certifications)
    ∷ Good (direct_number_at start index) (fpr_at start index)
    ∷ verdicts_on certifications

abbrev pub certificate_with : List Certification → ℕ → ℕ → List Command
certificate_with certifications start index = certificate_commands start index certifications

-- the names of the views
abbrev pub view_text : View → List ℕ
view_text A = codes "a"
view_text B = codes "b"

-- the lines that open a view
abbrev pub opening : View → Fpr → ℕ → List Command
opening view fpr amount = Time (view_text view) 1200000000 ∷ Root (view_text view) fpr amount ∷ []

-- the view `a` trusts the first key fully; the view `b` trusts it half, and the key in the middle as much
unfoldable pub view_commands : ℕ → ℕ → List Command
view_commands start count =
    Time (codes "a") 1200000000
    ∷ Root (codes "a") (fpr_at start 0) 120
    ∷ Time (codes "b") 1200000000
    ∷ Root (codes "b") (fpr_at start 0) 60
    ∷ Root (codes "b") (fpr_at start (count / 2)) 60
    ∷ []

-- the question of the view `a` on an index
abbrev pub whole_question : ℕ → ℕ → Command
whole_question start index = Ask (codes "a") (fpr_at start index) 120 (user_id index)

-- the questions of both views on an index
abbrev pub questions : ℕ → ℕ → List Command
questions start index = whole_question start index ∷ Ask (codes "b") (fpr_at start index) 60 (user_id index) ∷ []

-- how many words were drawn before the changes: those of all keys and all certifications
abbrev pub drawn_before_changes : ℕ → ℕ
drawn_before_changes count = drawn_before count count

-- the key whose verdict a round of changes sets
abbrev pub changed_at : ℕ → ℕ → ℕ → ℕ
changed_at start count round = word start (drawn_before_changes count + round) % count

-- a round of changes: the verdict on a key's direct key signature is set to bad and back to good, and the question on
-- the round's index follows each time
abbrev pub change_commands : ℕ → ℕ → ℕ → List Command
change_commands start changed index =
    Bad (direct_number_at start changed)
    ∷ whole_question start index
    ∷ Good (direct_number_at start changed) (fpr_at start changed)
    ∷ whole_question start index
    ∷ []

-- the round of this number takes the index 10, 20, and so on
abbrev pub changes : ℕ → ℕ → ℕ → List Command
changes start count round = change_commands start (changed_at start count round) (10 * (round + 1))

-- those of all certificates, all questions, and all rounds of changes
abbrev pub all_certificates : ℕ → ℕ → List Command
all_certificates start count =
    below count (λ index. certificate_commands start index (certifications_at start count index))

abbrev pub all_questions : ℕ → ℕ → List Command
all_questions start count = below count (questions start)

abbrev pub all_changes : ℕ → ℕ → List Command
all_changes start count = below ((count - 1) / 10) (changes start count)

-- The commands: the certificates with their verdicts; the views; the questions; and a round of changes for each
-- multiple of 10 from 10 to below the count.
unfoldable pub commands_of : ℕ → ℕ → List Command
commands_of start count =
    all_certificates start count
    ++ view_commands start count
    ++ all_questions start count
    ++ all_changes start count

-- How many commands these are: an import of each key and a verdict on its direct key signature; a verdict on three
-- certifications of each key but the first; five lines of views; two questions on each key; four lines for each round
-- of changes.
abbrev pub line_count : ℕ → ℕ
line_count count = 2 * count + 3 * (count - 1) + 5 + 2 * count + 4 * ((count - 1) / 10)

-- a command's line with its line feed
abbrev pub line_of : Command → List ℕ
line_of command = spelling command ++ 10 ∷ []

-- the text of commands
abbrev pub text_of : List Command → List ℕ
text_of commands = flat_map line_of commands

-- The line of a command is read as this command. It is one line, and isn't skipped.
pub record IsReadBack (command : Command) : Type 0 where
  pub read : command_of (spelling command) ≡ Some command
  pub line : IsLineFor command (spelling command)

-- ---- what is appended

-- the commands of an identity, by its start and its index
abbrev pub PutsFor : Identity → Result Unit Memory → List Command → List Command → (ℕ → ℕ → List Command) → Type 0
PutsFor identity result old new commands =
    (start index : ℕ) → IsIdentity start index identity → OnOk result (new ≡ old ++ commands start index)

-- the commands of two
abbrev pub PutsForTwo : Identity → Identity → Result Unit Memory → List Command → List Command
    → (ℕ → ℕ → ℕ → List Command)
    → Type 0
PutsForTwo one other result old new commands =
    (start i j : ℕ) → IsIdentity start i one → IsIdentity start j other → OnOk result (new ≡ old ++ commands start i j)

-- the commands of all identities, by their start and their count
abbrev pub PutsForAll : List Identity → Result Unit Memory → List Command → List Command → (ℕ → ℕ → List Command)
    → Type 0
PutsForAll identities result old new commands =
    (start : ℕ) → AreIdentities start (length identities) identities
    → OnOk result (new ≡ old ++ commands start (length identities))
