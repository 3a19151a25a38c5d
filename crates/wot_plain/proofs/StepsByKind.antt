-- The step of a line, depending on what kind of line it is.
use Rattle.std.proofs.Common.{◌≡◌, ℕ, ◌<◌, ◌≤◌, Bool, true, false, List, length, Some, None, refl, sym, ap, subst, ◌∙◌}
use Rattle.std.specs.Prelude.{MatchBool, nat_lt, if◌then◌else◌}
use Rattle.std.proofs.lemmas.Bool.{le-ltb, lt-ltb}
use Rattle.std.proofs.lemmas.List.{append-nil}
use Rattle.wot_policy.specs.declared.rows.PolicyRows.{PolicyRows}
use Rattle.wot_script.specs.declared.reply.Reply.{Reply}
use Rattle.wot_script.specs.declared.reply.Reply.TheVariants as replies
use Rattle.wot_script.specs.Grammar.{command_of}
use Rattle.wot_script.specs.Replies.{reply_text}
use Rattle.wot_plain.specs.Lines.{command_in_line, is_silent, longest}
use Rattle.wot_plain.specs.Session.{Session}
use Rattle.wot_plain.specs.LineStep.{ReadLineStep, LineStep}
use Rattle.wot_plain.specs.Served.{Served}
use Rattle.wot_plain.specs.Transcript.{listed, octets_of}

first : (b : Bool) (P Q : Type 0) → b ≡ true → P → MatchBool b P Q
first b P Q h p = subst (λ (b : Bool). MatchBool b P Q) (sym h) p

second : (b : Bool) (P Q : Type 0) → b ≡ false → Q → MatchBool b P Q
second b P Q h q = subst (λ (b : Bool). MatchBool b P Q) (sym h) q

pub too_long : (rows : PolicyRows) (s : Session) (line : List ℕ) (given : Served) → longest < length line →
    LineStep rows s line given (Some replies.Long) s
too_long rows s line given long = first (nat_lt longest (length line)) _ _ (lt-ltb longest (length line) long)
    (refl, refl)

pub looked_at : (rows : PolicyRows) (old : Session) (line : List ℕ) (given : Served) (reply : Reply) (new : Session) →
    length line ≤ longest → is_silent line ≡ false
    → ReadLineStep rows old (command_of line) given reply new → LineStep rows old line given (Some reply) new
looked_at rows old line given reply new short command_in_line answers =
    second (nat_lt longest (length line)) _ _ (le-ltb longest (length line) short)
    (second (is_silent line) _ _ command_in_line answers)

pub passed_over : (rows : PolicyRows) (s : Session) (line : List ℕ) (given : Served) → length line ≤ longest →
    is_silent line ≡ true → LineStep rows s line given None s
passed_over rows s line given short silent =
    second (nat_lt longest (length line)) _ _ (le-ltb longest (length line) short)
    (first (is_silent line) _ _ silent (refl, refl))

-- ---- which lines are read as commands

pub heard_long : (line : List ℕ) → longest < length line → command_in_line line ≡ None
heard_long line long = ap (λ (b : Bool). if b then None else if is_silent line then None else command_of line)
    (lt-ltb longest (length line) long)

pub heard_silent : (line : List ℕ) → is_silent line ≡ true → command_in_line line ≡ None
heard_silent line silent = by (nat_lt longest (length line))
  where
    by : (b : Bool) → (if b then None else if is_silent line then None else command_of line) ≡ None
    by true = refl
    by false = ap (λ (b : Bool). if b then None else command_of line) silent

pub heard_read : (line : List ℕ) → length line ≤ longest → is_silent line ≡ false → command_in_line line ≡ command_of line
heard_read line short loud =
    ap (λ (b : Bool). if b then None else if is_silent line then None else command_of line)
    (le-ltb longest (length line) short)
    ∙ ap (λ (b : Bool). if b then None else command_of line) loud

-- ---- octets

pub one_reply : (reply : Reply) → octets_of (listed (Some reply)) ≡ reply_text reply
one_reply reply = append-nil (reply_text reply)
