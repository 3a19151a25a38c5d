-- A question that was read wants at least 1, and an import that was read is short.
use Rattle.std.proofs.Common.{◌≡◌, ℕ, ◌≤◌, Bool, true, false, List, [], ◌∷◌, length, Option, Some, None, refl, arith}
use Rattle.std.specs.Prelude.{codes, IfSome, if◌then◌else◌}
use Rattle.std.specs.Option.{option_map, option_or}
use Rattle.std.specs.List.{find, list_all}
use Rattle.std.specs.Str.{bytes_eq}
use Rattle.std.proofs.lemmas.Bool.{and_parts}
use Rattle.wot_types.specs.Fpr.{fpr_of_digits}
use Rattle.wot_types.specs.ViewName.{view_name_of}
use Rattle.wot_reply_lines.specs.Claims.{claim_of, field_of, IsPathSpelled, labels_of}
use Rattle.wot_fields.specs.Decimal.{positive_up_to}
use Rattle.wot_fields.specs.Fields.{◌>>=◌, behind, cut, read_behind}
use Rattle.wot_fields.specs.StateLine.{IsWithin, state_line_of}
use Rattle.wot_fields.specs.declared.state_line.StateLine.{StateLine}
use Rattle.wot_fields.specs.declared.state_line.StateLine.TheVariants as lines
use Rattle.wot_fields.proofs.FirstSeparator.{cut_short}
use Rattle.wot_fields.proofs.ImportFits.{behind_short, so}
use Rattle.wot_reply_lines.specs.Entry.{entry_of}
use Rattle.wot_reply_lines.specs.Question.{question_of}
use Rattle.wot_reply_lines.specs.declared.question.Question.{Question}
use Rattle.wot_reply_lines.proofs.ClaimBounds.{claim_spelled, field_keeps, labels_rise, positive_wanted}
use Rattle.wot_reply_lines.proofs.Questions.{question_wants}
use Rattle.wot_script.proofs.WordLines.{When, when}
use Rattle.wot_script.specs.Grammar.{about_of, command_for, command_of, other_of, over_of, single_of, view_of, watch_of}
use Rattle.wot_script.specs.OneWord.{has_word, word_of}
use Rattle.wot_script.specs.Spelling.{HasSpelling, FitsLine}
use Rattle.wot_fields.specs.Uid.{unescaped}
use Rattle.wot_script.specs.declared.command.Command.{Command}
use Rattle.wot_script.specs.declared.read.About.{About}
use Rattle.wot_script.specs.declared.read.About.TheVariants.{Asked, Listed, Explained, Missed, Checked, Paced}
use Rattle.wot_script.specs.declared.read.About.TheVariants.{Watched}
use Rattle.wot_script.specs.declared.command.Command.TheVariants.{Import, Load, Store, Remove, Ask, Explain, Export}
use Rattle.wot_script.specs.declared.command.Command.TheVariants.{Absence, Check, CursorOver, CursorNext, CursorClose}
use Rattle.wot_script.specs.declared.command.Command.TheVariants.{WatchOn, WatchOff, Pending, Keys, Dump}

module _ (size : ℕ) where
  abbrev pub Spelled : Option Command → Type 0
  Spelled o = IfSome o (λ command. HasSpelling command × FitsLine size command)

  mapped : {A : Type 0} (f : A → Command) (o : Option A)
      → ((a : A) → o ≡ Some a → HasSpelling (f a) × FitsLine size (f a))
      → Spelled (option_map f o)
  mapped f None h = tt
  mapped f (Some a) h = h a refl

  bound : {A : Type 0} (o : Option A) (f : A → Option Command) → ((a : A) → o ≡ Some a → Spelled (f a))
      → Spelled (o >>= f)
  bound None f h = tt
  bound (Some a) f h = h a refl

  behind_either : (o : Option (List ℕ)) (read : List ℕ → Option Command) (other : Option Command)
      → ((text : List ℕ) → Spelled (read text)) → Spelled other → Spelled (read_behind o read other)
  behind_either None read other h k = k
  behind_either (Some text) read other h k = h text

  chosen : (b : Bool) (command : Command) (other : Option Command) → HasSpelling command × FitsLine size command
      → Spelled other
      → Spelled (if b then Some command else other)
  chosen true command other h k = h
  chosen false command other h k = k

  load_spelled : (text : List ℕ) → Spelled (option_map Load (entry_of text))
  load_spelled text = mapped Load (entry_of text) (λ name e. (tt, tt))

  store_spelled : (digits : List ℕ) → Spelled (option_map Store (fpr_of_digits digits))
  store_spelled digits = mapped Store (fpr_of_digits digits) (λ fpr e. (tt, tt))

  drop_spelled : (digits : List ℕ) → Spelled (option_map Remove (fpr_of_digits digits))
  drop_spelled digits = mapped Remove (fpr_of_digits digits) (λ fpr e. (tt, tt))

  export_spelled : (digits : List ℕ) → Spelled (option_map Export (fpr_of_digits digits))
  export_spelled digits = mapped Export (fpr_of_digits digits) (λ fpr e. (tt, tt))

  -- a command of one word asks for no number, and has no octets
  word_spelled : (command : Command)
      → When (has_word command) (HasSpelling command) × When (has_word command) (FitsLine size command)
  word_spelled (Import octets) = (tt, tt)
  word_spelled _ = (tt, tt)

  among_spelled : (commands : List Command) (line : List ℕ) → list_all has_word commands ≡ true
      → Spelled (find (λ command. bytes_eq line (word_of command)) commands)
  among_spelled [] line h = tt
  among_spelled (command ∷ commands) line h =
      let words = and_parts (has_word command) (list_all has_word commands) h in
      let fits = word_spelled command in
      chosen (bytes_eq line (word_of command)) command (find (λ other. bytes_eq line (word_of other)) commands) (
        when (has_word command) (HasSpelling command) words.0 fits.0,
        when (has_word command) (FitsLine size command) words.0 fits.1,
      )
      (among_spelled commands line words.1)

  single_spelled : (line : List ℕ) → Spelled (single_of line)
  unfolding single_of
  single_spelled line = among_spelled (Pending ∷ Keys ∷ Dump ∷ []) line refl

  asked_spelled : (view text : List ℕ) → Spelled (about_of Asked view text)
  asked_spelled view text =
      mapped (λ (q : Question). Ask view q.fpr q.wanted q.uid) (question_of text) (λ q e. (question_wants text q e, tt))

  missed_spelled : (view text : List ℕ) → Spelled (about_of Missed view text)
  missed_spelled view text =
      mapped (λ (q : Question). Absence view q.fpr q.wanted q.uid) (question_of text)
      (λ q e. (question_wants text q e, tt))

  checked_spelled : (view text : List ℕ) → length text ≤ size → Spelled (about_of Checked view text)
  checked_spelled view text short =
      bound (cut text) _ (λ first f. bound (fpr_of_digits first.0) _ (λ fpr d.
      bound (cut first.1) _ (λ second s. bound (field_of claim_of second.0) _ (λ claims c.
      bound (cut second.1) _ (λ third t. bound (labels_of third.0) _ (λ labels l.
      mapped (Check view fpr claims labels) (unescaped third.1) (λ uid u.
      let paths = so _ (field_of claim_of second.0) claims c
      (field_keeps IsPathSpelled claim_of claim_spelled second.0) in
      let table = so _ (labels_of third.0) labels l (labels_rise third.0) in (
        record { paths = paths.0; numbers = table.0; rise = table.1 },
        omega (arith, short, paths.1, cut_short 32 text first f, cut_short 32 first.1 second s),
      ))))))))

  listed_spelled : (view digits : List ℕ) → Spelled (about_of Listed view digits)
  listed_spelled view digits =
      mapped (Command.List view) (positive_up_to 4294967295 digits)
      (λ wanted e. (positive_wanted 4294967295 digits wanted e, tt))

  explained_spelled : (view text : List ℕ) → Spelled (about_of Explained view text)
  explained_spelled view text =
      bound (cut text)
      (λ second. fpr_of_digits second.0 >>= (λ fpr. option_map (Explain view fpr) (unescaped second.1)))
      (λ second e. bound (fpr_of_digits second.0) (λ fpr. option_map (Explain view fpr) (unescaped second.1))
      (λ fpr f. mapped (Explain view fpr) (unescaped second.1) (λ uid u. (tt, tt))))

  over_spelled : (cursor text : List ℕ) → Spelled (over_of cursor text)
  unfolding over_of
  over_spelled cursor text =
      bound (cut text)
      (λ first. view_name_of first.0 >>=
      (λ view. option_map (CursorOver cursor view) (positive_up_to 4294967295 first.1)))
      (λ first e. bound (view_name_of first.0)
      (λ view. option_map (CursorOver cursor view) (positive_up_to 4294967295 first.1))
      (λ view v. mapped (CursorOver cursor view) (positive_up_to 4294967295 first.1)
      (λ wanted w. (positive_wanted 4294967295 first.1 wanted w, tt))))

  paced_spelled : (cursor text : List ℕ) → Spelled (about_of Paced cursor text)
  paced_spelled cursor text =
      let next : List ℕ → Option Command =
      λ digits. option_map (CursorNext cursor) (positive_up_to 4294967295 digits) in
      let close : Option Command = if bytes_eq text (codes "close") then Some (CursorClose cursor) else None in
      behind_either (behind (codes "over ") text) (over_of cursor)
      (read_behind (behind (codes "next ") text) next close)
      (over_spelled cursor)
      (behind_either (behind (codes "next ") text) next close
      (λ digits. mapped (CursorNext cursor) (positive_up_to 4294967295 digits)
      (λ count e. (positive_wanted 4294967295 digits count e, tt)))
      (chosen (bytes_eq text (codes "close")) (CursorClose cursor) None (tt, tt) tt))

  watch_spelled : (watch text : List ℕ) → Spelled (watch_of watch text)
  unfolding watch_of
  watch_spelled watch text =
      bound (cut text)
      (λ first. view_name_of first.0 >>=
      (λ view. option_map (λ (q : Question). WatchOn watch view q.fpr q.wanted q.uid) (question_of first.1)))
      (λ first e. bound (view_name_of first.0)
      (λ view. option_map (λ (q : Question). WatchOn watch view q.fpr q.wanted q.uid) (question_of first.1))
      (λ view v. mapped (λ (q : Question). WatchOn watch view q.fpr q.wanted q.uid) (question_of first.1)
      (λ q e. (question_wants first.1 q e, tt))))

  watched_spelled : (watch text : List ℕ) → Spelled (about_of Watched watch text)
  watched_spelled watch text =
      let off : Option Command = if bytes_eq text (codes "off") then Some (WatchOff watch) else None in
      behind_either (behind (codes "on ") text) (watch_of watch) off (watch_spelled watch)
      (chosen (bytes_eq text (codes "off")) (WatchOff watch) None (tt, tt) tt)

  about_spelled : (about : About) (view text : List ℕ) → length text ≤ size → Spelled (about_of about view text)
  about_spelled Asked view text short = asked_spelled view text
  about_spelled Listed view text short = listed_spelled view text
  about_spelled Explained view text short = explained_spelled view text
  about_spelled Missed view text short = missed_spelled view text
  about_spelled Checked view text short = checked_spelled view text short
  about_spelled Paced cursor text short = paced_spelled cursor text
  about_spelled Watched watch text short = watched_spelled watch text

  view_spelled : (about : About) (text : List ℕ) → length text ≤ size → Spelled (view_of about text)
  view_spelled about text short =
      bound (cut text) (λ first. view_name_of first.0 >>= (λ view. about_of about view first.1))
      (λ first e. bound (view_name_of first.0) (λ view. about_of about view first.1) (λ view d.
      about_spelled about view first.1 (omega (arith, short, cut_short 32 text first e))))

  -- what follows a word is no longer than the line
  behind_word : (word line : List ℕ) (read : List ℕ → Option Command) (other : Option Command) → length line ≤ size
      → ((text : List ℕ) → length text ≤ size → Spelled (read text)) → Spelled other
      → Spelled (read_behind (behind word line) read other)
  behind_word word line read other short h k = at (behind word line) refl
    where
      at : (o : Option (List ℕ)) → behind word line ≡ o → Spelled (read_behind o read other)
      at None e = k
      at (Some text) e = let shorter = behind_short word line text e in h text (omega (arith, shorter, short))

  other_spelled : (line : List ℕ) → length line ≤ size → Spelled (other_of line)
  unfolding other_of
  other_spelled line short =
      let tail : Option Command = single_of line in
      let loaded : List ℕ → Option Command = λ text. option_map Load (entry_of text) in
      let dropped : List ℕ → Option Command = λ digits. option_map Remove (fpr_of_digits digits) in
      let exported : List ℕ → Option Command = λ digits. option_map Export (fpr_of_digits digits) in
      let stored : List ℕ → Option Command = λ digits. option_map Store (fpr_of_digits digits) in
      let store : Option Command = read_behind (behind (codes "store ") line) stored tail in
      let watch : Option Command = read_behind (behind (codes "watch ") line) (view_of Watched) store in
      let cursor : Option Command = read_behind (behind (codes "cursor ") line) (view_of Paced) watch in
      let export : Option Command = read_behind (behind (codes "export ") line) exported cursor in
      let check : Option Command = read_behind (behind (codes "check ") line) (view_of Checked) export in
      let absence : Option Command = read_behind (behind (codes "absence ") line) (view_of Missed) check in
      let explain : Option Command = read_behind (behind (codes "explain ") line) (view_of Explained) absence in
      let list : Option Command = read_behind (behind (codes "list ") line) (view_of Listed) explain in
      let ask : Option Command = read_behind (behind (codes "ask ") line) (view_of Asked) list in
      let remove : Option Command = read_behind (behind (codes "drop ") line) dropped ask in
      behind_either (behind (codes "load ") line) loaded remove load_spelled (
      behind_either (behind (codes "drop ") line) dropped ask drop_spelled (
      behind_word (codes "ask ") line (view_of Asked) list short (view_spelled Asked) (
      behind_word (codes "list ") line (view_of Listed) explain short (view_spelled Listed) (
      behind_word (codes "explain ") line (view_of Explained) absence short (view_spelled Explained) (
      behind_word (codes "absence ") line (view_of Missed) check short (view_spelled Missed) (
      behind_word (codes "check ") line (view_of Checked) export short (view_spelled Checked) (
      behind_either (behind (codes "export ") line) exported cursor export_spelled (
      behind_word (codes "cursor ") line (view_of Paced) watch short (view_spelled Paced) (
      behind_word (codes "watch ") line (view_of Watched) store short (view_spelled Watched) (
      behind_either (behind (codes "store ") line) stored tail store_spelled (
      single_spelled line)))))))))))

  -- the command of a line that sets a part of the state asks for no number
  line_spelled : (line : StateLine) → IsWithin size line
      → HasSpelling (command_for line) × FitsLine size (command_for line)
  line_spelled (lines.Import octets) within = (tt, within)
  line_spelled _ within = (tt, tt)

  set_spelled : (o : Option StateLine) (other : Option Command) → IfSome o (IsWithin size) → Spelled other
      → Spelled (option_or (option_map command_for o) other)
  set_spelled None other within h = h
  set_spelled (Some line) other within h = line_spelled line within

  -- a command that was read can be printed, and an import's octets are at most half of the line's
  spelled_of : (line : List ℕ) → length line ≤ size → IfSome (state_line_of line) (IsWithin size)
      → Spelled (command_of line)
  unfolding command_of
  spelled_of line short within =
      set_spelled (state_line_of line) (other_of line) within (other_spelled line short)

if_each : {A : Type 0} (P : A → Type 0) (o : Option A) → ((a : A) → o ≡ Some a → P a) → IfSome o P
if_each P None h = tt
if_each P (Some a) h = h a refl

-- a command that was read can be printed
pub spelled_at : ((text : List ℕ) (line : StateLine) → state_line_of text ≡ Some line → IsWithin (length text) line)
    → (line : List ℕ) (command : Command) → command_of line ≡ Some command
    → HasSpelling command × FitsLine (length line) command
spelled_at fit line command e =
    let within = if_each (IsWithin (length line)) (state_line_of line) (fit line) in
    let all : Spelled (length line) (command_of line) = spelled_of (length line) line (omega arith) within in
    rw e at all
