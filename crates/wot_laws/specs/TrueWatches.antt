-- What watches are worth: after each line, the last amount reported for each is the current one.
use Rattle.std.specs.Prelude.{◌≡◌, ◌≢◌, ℕ, List, [], ◌∷◌, ◌++◌, flat_map, Option, Some, None}
use Rattle.std.specs.List.{AllByRecursion}
use Rattle.std.specs.declared.cmp.Ordering.{Ordering}
use Rattle.wot_types.specs.ViewName.{view_name_cmp}
use Rattle.wot_policy.specs.declared.rows.PolicyRows.{PolicyRows}
use Rattle.wot_edge.specs.declared.path.Path.{Path}
use Rattle.wot_edge.specs.Answer.{IsAnswer, amount_of}
use Rattle.wot_component.specs.Ranked.{IsRising}
use Rattle.wot_table.specs.Table.{entry_at}
use Rattle.wot_script.specs.declared.reply.Reply.{Reply}
use Rattle.wot_script.specs.declared.reply.Reply.TheVariants as replies
use Rattle.wot_certd.specs.World.{World}
use Rattle.wot_cache.specs.declared.view.View.{View}
use Rattle.wot_cache.specs.Question.{question_in}
use Rattle.wot_cache.specs.State.{State}
use Rattle.wot_cache.specs.Views.{view_at}
use Rattle.wot_watch.specs.Watches.{Watch}
use Rattle.wot_plain.specs.Scene.{Scene, Step, opening}
use Rattle.wot_plain.specs.Transcript.{Run, listed}
use Rattle.wot_laws.specs.Numbers.{amount_in}

-- ---- reported amounts

-- all amounts that were reported for it, in order
abbrev pub amounts_in : List ℕ → List Reply → List ℕ
amounts_in name reported = flat_map (amount_in name) reported

-- the last of these amounts
abbrev pub IsLast : List ℕ → ℕ → Type 0
IsLast amounts amount = (before : List ℕ) × (amounts ≡ before ++ amount ∷ [])

-- ---- after each line

-- The view is open, and this is the amount of its answer to the watch's question in this state.
abbrev pub IsAmountOf : State → Option View → Watch → ℕ → Type 0
IsAmountOf s None watch amount = ⊥
IsAmountOf s (Some view) watch amount =
    (paths : List Path) × IsAnswer (question_in s view watch.target watch.uid) watch.wanted paths
    × (amount ≡ amount_of paths)

-- the last amount reported for the watch is the current one
pub record IsTrue (s : State) (reported : List Reply) (name : List ℕ) (watch : Watch) : Type 0 where
  pub amount : ℕ
  pub last : IsLast (amounts_in name reported) amount
  pub now : IsAmountOf s (view_at s.views watch.view) watch amount

-- Whatever lines there were, from any client: the last amount reported for each watch is the current one.
abbrev pub WatchesAreTrue : PolicyRows → Type 0
WatchesAreTrue rows =
    (world : World) (lines : List (List ℕ)) (reported : List Reply) (last : Scene) (name : List ℕ) (watch : Watch)
    → Run rows (opening world) lines reported last → entry_at last.whole.watches name ≡ Some watch
    → IsTrue last.whole.state reported name watch

-- ---- the watch lines after a line

-- the name of the watch that a watch line reports
abbrev pub name_in : Reply → List ℕ
name_in (replies.WatchAmount name amount) = name
name_in (replies.WatchGone name) = name
name_in reply = []

abbrev pub line_cmp : Reply → Reply → Ordering
line_cmp a b = view_name_cmp (name_in a) (name_in b)

-- The line reports that a watch is gone, or an amount that differs from the last one reported.
abbrev pub IsNews : List Reply → Reply → Type 0
IsNews reported (replies.WatchAmount name amount) = (was : ℕ) × IsLast (amounts_in name reported) was × (was ≢ amount)
IsNews reported (replies.WatchGone name) = Unit {0}
IsNews reported reply = ⊥

-- Each of these lines is news, given everything reported before them, including the reply to their line; and they are
-- in the order of the names.
pub record AreNews (reported lines : List Reply) : Type 0 where
  pub each : AllByRecursion (IsNews reported) lines
  pub order : IsRising line_cmp lines

-- the watch lines after each line are news
abbrev pub WatchLinesAreNews : PolicyRows → Type 0
WatchLinesAreNews rows =
    (world : World) (lines : List (List ℕ)) (reported : List Reply) (old : Scene) (line : List ℕ) (reply : Option Reply)
    (behind : List Reply) (new : Scene)
    → Run rows (opening world) lines reported old → Step rows old line reply behind new
    → AreNews (reported ++ listed reply) behind

-- ---- lines that leave the state

-- No watch line follows a line that changes no certificate, no verdict and no view: one that is silent, refused or no
-- command, that asks or lists, or that is about cursors or watches.
abbrev pub QuietLinesTellNothing : PolicyRows → Type 0
QuietLinesTellNothing rows =
    (world : World) (lines : List (List ℕ)) (reported : List Reply) (old : Scene) (line : List ℕ) (reply : Option Reply)
    (behind : List Reply) (new : Scene)
    → Run rows (opening world) lines reported old → (step : Step rows old line reply behind new)
    → step.mid.state ≡ old.whole.state → behind ≡ []
