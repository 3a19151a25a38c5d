-- The answer to a question.
use Rattle.std.specs.Prelude.{◌≡◌, ℕ, List, [], ◌∷◌, length, map, Option, Some, None}
use Rattle.std.specs.List.{flat_map, slice_get}
use Rattle.std.specs.Option.{option_map_or}
use Rattle.wot_types.specs.declared.fpr.Fpr.{Fpr}
use Rattle.wot_component.specs.Certificate.{Component, Certificate}
use Rattle.wot_edge.specs.declared.path.Path.{Path}
use Rattle.wot_edge.specs.declared.path.Step.{Step}
use Rattle.wot_edge.specs.Answer.{IsAnswer, amount_of}
use Rattle.wot_reply_lines.specs.declared.lines.AnswerLine.{AnswerLine}
use Rattle.wot_reply_lines.specs.declared.lines.AnswerLine.TheVariants as lines
use Rattle.wot_script.specs.declared.reply.Reply.{Reply}
use Rattle.wot_script.specs.declared.reply.Reply.TheVariants as replies
use Rattle.wot_cache.specs.declared.view.View.{View}
use Rattle.wot_keyring_spec.specs.Held.{cert_in}
use Rattle.wot_cache.specs.State.{State}
use Rattle.wot_cache.specs.Question.{question_in}

-- the user ID at an index of a certificate
abbrev pub uid_in : ℕ → Certificate → List ℕ
uid_in place c = option_map_or (λ (p : Component). p.body) (slice_get c.user_ids place) []

abbrev pub uid_at : State → Fpr → ℕ → List ℕ
uid_at s target place = option_map_or (uid_in place) (cert_in s.held target) []

-- a step's line, with the user ID that its edge certifies
abbrev pub step_line : State → Step → AnswerLine
step_line s step = lines.Step step.issuer step.target step.depth step.amount (uid_at s step.target step.uid)

-- a path's line, followed by the lines of its steps
abbrev pub path_lines : State → Path → List AnswerLine
path_lines s path = lines.Path path.amount (length path.steps) path.root ∷ map (step_line s) path.steps

-- the sum of the amounts, the number of paths, and each path with its steps
abbrev pub amount_reply : State → List Path → Reply
amount_reply s paths = replies.Amount (amount_of paths) (length paths) (flat_map (path_lines s) paths)

-- `ask`: the reply from an open view, for the paths that are the answer in this state
abbrev pub Asks : State → Option View → Fpr → ℕ → List ℕ → Reply → Type 0
Asks s None target wanted uid reply = reply ≡ replies.View
Asks s (Some view) target wanted uid reply =
    (paths : List Path) × IsAnswer (question_in s view target uid) wanted paths × (reply ≡ amount_reply s paths)
