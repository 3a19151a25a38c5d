-- A question in a line.
use Rattle.std.specs.Prelude.{ℕ, ◌≡◌, List, [], ◌∷◌, Option, Some, codes}
use Rattle.std.specs.Fmt.{decimal}
use Rattle.std.specs.Option.{option_map}
use Rattle.wot_types.specs.Fpr.{digits_of, fpr_of_digits}
use Rattle.wot_types.specs.declared.fpr.Fpr.{Fpr}
use Rattle.wot_fields.specs.Decimal.{positive_up_to}
use Rattle.wot_fields.specs.Fields.{field}
use Rattle.wot_fields.specs.Texts.{joined}
use Rattle.wot_fields.specs.Uid.{escaped, unescaped}
use Rattle.wot_reply_lines.specs.declared.question.Question.{Question}

-- FPR N UID; UID is the rest of the line
unfoldable pub question_of : List ℕ → Option Question
question_of text =
    field fpr_of_digits (λ fpr. field (positive_up_to 4294967295) (λ wanted uid.
    option_map (λ octets. record { fpr = fpr; wanted = wanted; uid = octets }) (unescaped uid))) text

-- FPR N UID
abbrev pub question_parts : Fpr → ℕ → List ℕ → List (List ℕ)
question_parts fpr wanted uid = digits_of fpr ∷ codes " " ∷ decimal wanted ∷ codes " " ∷ escaped uid ∷ []

-- the printed question is read back
abbrev pub IsQuestionRead : Question → Type 0
IsQuestionRead q = question_of (joined (question_parts q.fpr q.wanted q.uid)) ≡ Some q

-- a question from a view, after a word
abbrev pub asking : List ℕ → List ℕ → Fpr → ℕ → List ℕ → List ℕ
asking word view fpr wanted uid = joined (word ∷ view ∷ codes " " ∷ question_parts fpr wanted uid)
