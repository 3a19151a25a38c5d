-- Refusals and what is stale, and the lines of replies that have several.
use Rattle.std.specs.Prelude.{ℕ, List, [], ◌∷◌, codes}
use Rattle.std.specs.Fmt.{decimal}
use Rattle.hex.specs.Hex.{encode_lower}
use Rattle.wot_types.specs.Fpr.{digits_of}
use Rattle.wot_types.specs.SigNumber.{number_digits}
use Rattle.wot_fields.specs.Texts.{joined_line}
use Rattle.wot_fields.specs.Uid.{escaped}
use Rattle.wot_reply_lines.specs.Words.{IsWordOf, reason_words, word_at}
use Rattle.wot_reply_lines.specs.declared.lines.AnswerLine.{AnswerLine}
use Rattle.wot_reply_lines.specs.declared.lines.AnswerLine.TheVariants.{Path, Step}
use Rattle.wot_reply_lines.specs.declared.lines.BindLine.{BindLine}
use Rattle.wot_reply_lines.specs.declared.lines.ReasonLine.{ReasonLine}
use Rattle.wot_reply_lines.specs.declared.lines.ReasonLine.TheVariants.{Word, Edge}
use Rattle.wot_reply_lines.specs.declared.lines.PendingLine.{PendingLine}
use Rattle.wot_reply_lines.specs.declared.lines.Hint.{Hint}
use Rattle.wot_reply_lines.specs.declared.lines.Hint.TheVariants.{Full as Fingerprint, Short, Nothing}
use Rattle.wot_reply_lines.specs.declared.lines.KeyLine.{KeyLine}

-- a refusal
abbrev pub refused : List (List ℕ) → List ℕ
refused words = joined_line (codes "refused " ∷ words)

-- what changed, its number then and its number now
abbrev pub stale : List ℕ → ℕ → ℕ → List ℕ
stale word was now = joined_line (codes "stale " ∷ word ∷ decimal was ∷ codes " " ∷ decimal now ∷ [])

-- ---- lines after the first

-- `path AMOUNT steps L root FPR`, or `step ISSUER TARGET DEPTH AMOUNT UID`
abbrev pub answer_line : AnswerLine → List ℕ
answer_line (Path amount steps root) =
    joined_line (codes "path " ∷ decimal amount ∷ codes " steps " ∷ decimal steps ∷ codes " root "
    ∷ digits_of root ∷ [])
answer_line (Step issuer target depth amount uid) =
    joined_line (codes "step " ∷ digits_of issuer ∷ codes " " ∷ digits_of target ∷ codes " " ∷ decimal depth ∷ codes " "
    ∷ decimal amount ∷ codes " " ∷ escaped uid ∷ [])

-- `bind SUM FPR UID`
abbrev pub bind_line : BindLine → List ℕ
bind_line line =
    joined_line (codes "bind " ∷ decimal line.0 ∷ codes " " ∷ digits_of line.1 ∷ codes " " ∷ escaped line.2 ∷ [])

-- `cert NUM WORD`, or `cert NUM edge ISSUER DEPTH AMOUNT`
abbrev pub reason_line : ReasonLine → List ℕ
reason_line (Word number word) =
    joined_line (codes "cert " ∷ number_digits number ∷ codes " " ∷ word_at reason_words word ∷ [])
reason_line (Edge number issuer depth amount) =
    joined_line (codes "cert " ∷ number_digits number ∷ codes " edge " ∷ digits_of issuer ∷ codes " " ∷ decimal depth
    ∷ codes " " ∷ decimal amount ∷ [])

-- the fingerprint of the issuer, or its key ID, or `-`
abbrev pub hint_text : Hint → List ℕ
hint_text (Fingerprint fpr) = digits_of fpr
hint_text (Short octets) = encode_lower octets
hint_text Nothing = codes "-"

-- `sig NUM FPR HINT`
abbrev pub pending_line : PendingLine → List ℕ
pending_line line =
    joined_line (codes "sig " ∷ number_digits line.0 ∷ codes " " ∷ digits_of line.1 ∷ codes " " ∷ hint_text line.2 ∷ [])

-- `key FPR U S`
abbrev pub key_line : KeyLine → List ℕ
key_line line =
    joined_line (codes "key " ∷ digits_of line.0 ∷ codes " " ∷ decimal line.1 ∷ codes " " ∷ decimal line.2 ∷ [])

-- the table of reasons has the number of the word
abbrev pub HasReason : ReasonLine → Type 0
HasReason (Word number word) = IsWordOf reason_words word
HasReason (Edge number issuer depth amount) = Unit {0}
