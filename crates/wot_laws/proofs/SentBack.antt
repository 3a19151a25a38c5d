-- A claim that `absence` printed can be printed in a line `check`, and is accepted when it is sent back.
use Rattle.std.proofs.Common.{◌≡◌, ℕ, ◌≤◌, Bool, true, false, List, [], ◌∷◌, ◌++◌, length, map, Option, None, Some}
use Rattle.std.proofs.Common.{refl, sym, ap, ◌∙◌, subst}
use Rattle.std.specs.Prelude.{◌&&◌, nat_le}
use Rattle.std.specs.List.{AllByRecursion}
use Rattle.std.specs.List.Sorted.{IsStrictlySortedBy}
use Rattle.std.specs.Map.{keys_of}
use Rattle.std.specs.Ordering.{is_lt}
use Rattle.std.proofs.lemmas.List.{length-map}
use Rattle.wot_types.specs.declared.fpr.Fpr.{Fpr}
use Rattle.wot_types.specs.Fpr.{fpr_cmp}
use Rattle.wot_policy.specs.declared.rows.PolicyRows.{PolicyRows}
use Rattle.wot_edge.specs.declared.path.Path.{Path}
use Rattle.wot_edge.specs.Answer.{EachNext, IsAnswer, amount_of}
use Rattle.wot_edge.specs.Path.{Question, IsNextPath, use_of}
use Rattle.wot_edge.specs.Record.{IsRecord}
use Rattle.wot_check.specs.declared.checking.Checked.{Checked}
use Rattle.wot_check.specs.Absence.{AreOne}
use Rattle.wot_check.specs.Claim.{Claim}
use Rattle.wot_check.specs.Table.{AreLabels, IsTable, Labels}
use Rattle.wot_reply_lines.specs.declared.claims.ClaimLine.{ClaimLine}
use Rattle.wot_reply_lines.specs.declared.claims.LabelLine.{LabelLine}
use Rattle.wot_reply_lines.specs.Claims.{IsClaimSpelled, IsLabelSpelled, IsPathSpelled, is_rising}
use Rattle.wot_script.specs.declared.command.Command.{Command}
use Rattle.wot_script.specs.declared.command.Command.TheVariants.{Absence, Check}
use Rattle.wot_script.specs.declared.reply.Reply.{Reply}
use Rattle.wot_script.specs.declared.reply.Reply.TheVariants as replies
use Rattle.wot_script.specs.Grammar.{command_of}
use Rattle.wot_script.specs.Laws.{PrintsClaim, check_with, claimed}
use Rattle.wot_cache.specs.Question.{question_in}
use Rattle.wot_cache.specs.State.{State, IsState}
use Rattle.wot_cache.specs.Views.{view_at}
use Rattle.wot_cache.specs.declared.view.View.{View}
use Rattle.wot_plain.specs.Absent.{AreClaimsAccepted, Checks, Misses, TellsAbsence, claim_in, claim_line, claim_step}
use Rattle.wot_plain.specs.Absent.{label_line, table_in, verdict_on}
use Rattle.wot_plain.specs.Classes.{class_of}
use Rattle.wot_plain.specs.Lines.{command_in_line}
use Rattle.wot_plain.specs.LineStep.{CommandStep, HasReply}
use Rattle.wot_plain.specs.Served.{Served}
use Rattle.wot_plain.specs.Session.{Session}
use Rattle.wot_plain.proofs.StepsByKind.{heard_read}
use Rattle.wot_laws.specs.SentBack.{ComesBack, IsAcceptedAgain}
use Rattle.wot_laws.proofs.ClaimsAccepted.{missed_sum}
use Rattle.wot_laws.proofs.LineByCommand.{Hears, hears}

-- ---- a claim can be printed

paths_spelled : (q : Question) (earlier paths : List Path) → EachNext q earlier paths
    → AllByRecursion IsPathSpelled (map claim_line paths)
paths_spelled q earlier [] each = tt
paths_spelled q earlier (path ∷ paths) each =
    let next : IsNextPath q (use_of earlier) path = each.0 in
    let size : length (map claim_step path.steps) ≡ length path.steps = length-map path.steps claim_step in (
      (
        subst (λ (n : ℕ). 1 ≤ n) (sym next.amount) next.steps.0.1,
        subst (λ (n : ℕ). 1 ≤ n) (sym size) next.steps.0.0.some,
        subst (λ (n : ℕ). n ≤ 255) (sym size) next.steps.0.0.few,
      ),
      paths_spelled q (earlier ++ path ∷ []) paths each.1,
    )

labels_spelled : (table : Labels) → AreLabels table → AllByRecursion IsLabelSpelled (map label_line table)
labels_spelled [] all = tt
labels_spelled (label ∷ table) all = (all.0, labels_spelled table all.1)

labels_rise : (table : Labels) → IsStrictlySortedBy fpr_cmp (keys_of table) → is_rising (map label_line table) ≡ true
unfolding IsStrictlySortedBy
labels_rise [] order = refl
labels_rise (label ∷ []) order = refl
labels_rise (label ∷ next ∷ table) order =
    let first : is_lt (fpr_cmp label.0 next.0) ≡ true = ap is_lt order.0.0 in
    ap (λ (b : Bool). b && is_rising (map label_line (next ∷ table))) first ∙ labels_rise (next ∷ table) order.1

claim_spelled : (q : Question) (wanted : ℕ) (paths : List Path) (table : Labels) → IsAnswer q wanted paths
    → IsTable table → IsClaimSpelled (map claim_line paths) (map label_line table)
claim_spelled q wanted paths table answer good = record {
  paths = paths_spelled q [] paths answer.each;
  numbers = labels_spelled table good.labels;
  rise = labels_rise table good.order;
}

pub missed_spelled : (q : Question) (wanted sum : ℕ) (claims : List ClaimLine) (labels : List LabelLine)
    (paths : List Path) → IsAnswer q wanted paths
    → TellsAbsence (nat_le wanted (amount_of paths)) q paths (replies.Missed sum claims labels)
    → IsClaimSpelled claims labels
missed_spelled q wanted sum claims labels paths answer = by (nat_le wanted (amount_of paths))
  where
    by : (b : Bool) → TellsAbsence b q paths (replies.Missed sum claims labels) → IsClaimSpelled claims labels
    by true t = absurd cc
    by false t =
        let parts = missed_sum sum (amount_of paths) claims (map claim_line paths) labels (map label_line t.0) t.3 in
        subst (λ (ls : List LabelLine). IsClaimSpelled claims ls) (sym parts.2)
        (subst (λ (cs : List ClaimLine). IsClaimSpelled cs (map label_line t.0)) (sym parts.1)
        (claim_spelled q wanted paths t.0 answer t.1))

-- ---- a claim that was printed is accepted

module _
    (accepted : AreClaimsAccepted)
    (lawful : (s : State) (view : View) (uid : List ℕ) (target : Fpr) → IsState s
    → IsRecord (question_in s view target uid).network)
    (one : (q : Question) (claims : List Claim) (table : Labels) (a b : Checked) → IsRecord q.network
    → AreOne q claims table a b)
  where
    -- the one reply to the check of a claim that missed
    checked_yes : (s : State) (o : Option View) (target : Fpr) (wanted : ℕ) (uid : List ℕ) (sum : ℕ)
        (claims : List ClaimLine) (labels : List LabelLine) (reply : Reply) → IsState s
        → Misses s o target wanted uid (replies.Missed sum claims labels) → Checks s o target claims labels uid reply
        → reply ≡ replies.CheckedYes sum
    checked_yes s None target wanted uid sum claims labels reply can misses checks = absurd (cc misses)
    checked_yes s (Some view) target wanted uid sum claims labels reply can misses checks =
        let yes = accepted s view target wanted uid sum claims labels misses in
        let same : checks.0 ≡ yes.0 =
        one (question_in s view target uid) (map claim_in claims) (table_in labels) checks.0 yes.0
        (lawful s view uid target can) checks.1 yes.1 in
        checks.2 ∙ ap (λ (c : Checked). verdict_on claims c) same ∙ sym yes.2

    -- the reply to a command `check`, if there is one
    check_reply : (rows : PolicyRows) (s : State) (later new : Session) (view : List ℕ) (target : Fpr) (wanted : ℕ)
        (uid : List ℕ) (sum : ℕ) (claims : List ClaimLine) (labels : List LabelLine) (served : Served)
        (reply : Option Reply) → IsState s → later.state ≡ s
        → Misses s (view_at s.views view) target wanted uid (replies.Missed sum claims labels)
        → HasReply (CommandStep rows later (class_of (Check view target claims labels uid)) served) reply new
        → reply ≡ Some (replies.CheckedYes sum)
    check_reply rows s later new view target wanted uid sum claims labels served None can same misses has = absurd has
    check_reply rows s later new view target wanted uid sum claims labels served (Some reply) can same misses has =
        let checks : Checks s (view_at s.views view) target claims labels uid reply =
        subst (λ (t : State). Checks t (view_at t.views view) target claims labels uid reply) same has.does.0 in
        ap (λ (r : Reply). Some r)
        (checked_yes s (view_at s.views view) target wanted uid sum claims labels reply can misses checks)

    sent_back : (view : List ℕ) (target : Fpr) (claims : List ClaimLine) (labels : List LabelLine) (uid : List ℕ)
        → command_of (check_with view target (claimed claims labels) uid) ≡ Some (Check view target claims labels uid)
        → IsAcceptedAgain view target claims labels uid
    sent_back view target claims labels uid read rows old mid asked given wanted sum can hears_it step fits later new
        served reply same checked =
        let line = check_with view target (claimed claims labels) uid in
        let told : HasReply (CommandStep rows old (class_of (Absence view target wanted uid)) given)
        (Some (replies.Missed sum claims labels)) mid =
        subst (λ (o : Option Command). Hears rows old o given (Some (replies.Missed sum claims labels)) mid) hears_it
        (hears rows old asked given (Some (replies.Missed sum claims labels)) mid step) in
        let hears_check : command_in_line line ≡ Some (Check view target claims labels uid) = heard_read line fits refl ∙ read in
        let has : HasReply (CommandStep rows later (class_of (Check view target claims labels uid)) served) reply new =
        subst (λ (o : Option Command). Hears rows later o served reply new) hears_check
        (hears rows later line served reply new checked) in
        check_reply rows old.state later new view target wanted uid sum claims labels served reply can
        (same ∙ told.does.1) told.does.0 has

    pub comes_back : (command : Command) → PrintsClaim command → ComesBack command
    comes_back (Check view target claims labels uid) prints = record {
      printed = prints.printed;
      accepted = sent_back view target claims labels uid prints.read;
    }
    comes_back _ prints = tt
