-- The answer from an open view: its paths have at most 255 steps, and the reply to `ask` states them.
use Rattle.std.proofs.Common.{◌≡◌, ℕ, ◌≤◌, true, List, [], ◌∷◌, ◌++◌, length, Option, Some, None, Result, ap, ◌∙◌}
use Rattle.std.specs.Prelude.{is_some, IfOk, IfSome}
use Rattle.std.specs.List.{AllByRecursion}
use Rattle.wot_types.specs.declared.fpr.Fpr.{Fpr}
use Rattle.wot_edge.specs.declared.path.Path.{Path}
use Rattle.wot_edge.specs.Path.{Question}
use Rattle.wot_edge.specs.Answer.{EachNext, IsAnswer}
use Rattle.wot_script.specs.declared.reply.Reply.{Reply}
use Rattle.wot_cache.specs.declared.view.View.{View}
use Rattle.wot_cache.specs.Question.{question_in}
use Rattle.wot_cache.specs.State.{State}
use Rattle.wot_plain.specs.Answer.{Asks, amount_reply}
use Rattle.wot_plain.proofs.Results.{if_ok}

pub each_short : (q : Question) (earlier paths : List Path) → EachNext q earlier paths →
    AllByRecursion (λ (p : Path). length p.steps ≤ 255) paths
each_short q earlier [] each = tt
each_short q earlier (path ∷ paths) each = (each.0.steps.0.0.few, each_short q (earlier ++ path ∷ []) paths each.1)

-- the paths of an answer from an open view have at most 255 steps
pub answer_short : (o : Option View) (q : View → Question) (wanted : ℕ) (paths : List Path) → is_some o ≡ true →
    IfSome o (λ (v : View). IsAnswer (q v) wanted paths) → AllByRecursion (λ (p : Path). length p.steps ≤ 255) paths
answer_short None q wanted paths some answer = absurd cc
answer_short (Some v) q wanted paths some answer = each_short (q v) [] paths answer.each

-- the reply that states these paths answers `ask`
pub answer_asks : {E : Type 0} (s now : State) (o : Option View) (target : Fpr) (wanted : ℕ) (uid : List ℕ)
    (paths : List Path) (result : Result Reply E) → is_some o ≡ true
    → IfSome o (λ (v : View). IsAnswer (question_in s v target uid) wanted paths) → now ≡ s
    → IfOk result (λ (reply : Reply). reply ≡ amount_reply now paths)
    → IfOk result (λ (reply : Reply). Asks s o target wanted uid reply)
answer_asks s now None target wanted uid paths result some answer same states = absurd (cc some)
answer_asks s now (Some v) target wanted uid paths result some answer same states =
    if_ok result (λ (reply : Reply). reply ≡ amount_reply now paths)
    (λ (reply : Reply). Asks s (Some v) target wanted uid reply)
    (λ reply is. (paths, answer, is ∙ ap (λ (s : State). amount_reply s paths) same)) states
