-- Replies to `absence` are accepted by `check`, and what is accepted leaves no path.
use Rattle.std.proofs.Common.{◌≡◌, ℕ, ◌+◌, ◌<◌, Bool, true, false, List, [], ◌∷◌, map, refl, sym, ap, ◌∙◌, subst}
use Rattle.std.specs.Prelude.{nat_le}
use Rattle.std.proofs.lemmas.Bool.{leb-false}
use Rattle.std.proofs.lemmas.List.Sums.{sum_by-cons}
use Rattle.wot_edge.specs.declared.path.Path.{Path}
use Rattle.wot_edge.specs.declared.path.Step.{Step}
use Rattle.wot_edge.specs.Answer.{IsAnswer, amount_of}
use Rattle.wot_edge.specs.Path.{Question, use_of}
use Rattle.wot_edge.specs.Record.{IsRecord}
use Rattle.wot_check.specs.declared.checking.Checked.{Checked}
use Rattle.wot_check.specs.declared.checking.Checked.TheVariants as answers
use Rattle.wot_check.specs.Absence.{Accepts, AreSpent, IsChecked, IsLeastTable}
use Rattle.wot_check.specs.Claim.{Claim, claim_of}
use Rattle.wot_check.specs.Table.{IsTable, Labels}
use Rattle.wot_reply_lines.specs.declared.claims.ClaimLine.{ClaimLine}
use Rattle.wot_reply_lines.specs.declared.claims.LabelLine.{LabelLine}
use Rattle.wot_script.specs.declared.reply.Reply.{Reply}
use Rattle.wot_script.specs.declared.reply.Reply.TheVariants as replies
use Rattle.wot_plain.specs.Absent.{TellsAbsence, claim_in, claim_line, claim_step, claimed_step, label_line, missed}
use Rattle.wot_plain.specs.Absent.{sum_in, table_in, verdict_on}
use Rattle.wot_check.specs.Claim as claims_are

-- ---- lines are read back as what they were made from

steps_back : (steps : List Step) → map claimed_step (map claim_step steps) ≡ map claims_are.claimed_step steps
steps_back [] = refl
steps_back (step ∷ steps) = ap (λ xs. claims_are.claimed_step step ∷ xs) (steps_back steps)

paths_back : (paths : List Path) → map claim_in (map claim_line paths) ≡ map claim_of paths
paths_back [] = refl
paths_back (path ∷ paths) =
    let first : claim_in (claim_line path) ≡ claim_of path = λ i. record {
      amount = path.amount;
      steps =
          steps_back path.steps i;
    } in
    ap (λ (c : Claim). c ∷ map claim_in (map claim_line paths)) first ∙ ap (λ (cs : List Claim). claim_of path ∷ cs)
    (paths_back paths)

table_back : (table : Labels) → table_in (map label_line table) ≡ table
table_back [] = refl
table_back (label ∷ table) = ap (λ (t : Labels). label ∷ t) (table_back table)

sum_back : (paths : List Path) → sum_in (map claim_line paths) ≡ amount_of paths
sum_back [] = refl
sum_back (path ∷ paths) =
    sum_by-cons (λ (claim : ClaimLine). claim.0) (claim_line path) (map claim_line paths)
    ∙ ap (λ (n : ℕ). path.amount + n) (sum_back paths)
    ∙ sym (sum_by-cons (λ (p : Path). p.amount) path paths)

-- ---- replies

pub missed_sum : (sum other : ℕ) (claims more : List ClaimLine) (labels rest : List LabelLine)
    → replies.Missed sum claims labels ≡ replies.Missed other more rest →
    (sum ≡ other) × (claims ≡ more) × (labels ≡ rest)
missed_sum sum other claims more labels rest e = (ap sum_of e, ap claims_of e, ap labels_of e)
  where
    sum_of : Reply → ℕ
    sum_of (replies.Missed n cs ls) = n
    sum_of _ = 0

    claims_of : Reply → List ClaimLine
    claims_of (replies.Missed n cs ls) = cs
    claims_of _ = []

    labels_of : Reply → List LabelLine
    labels_of (replies.Missed n cs ls) = ls
    labels_of _ = []

-- the check of a claim from a reply accepts it
abbrev IsAccepted : Question → ℕ → List ClaimLine → List LabelLine → Type 0
IsAccepted q sum claims labels = (checked : Checked) × IsChecked q (map claim_in claims) (table_in labels)
    checked × (replies.CheckedYes sum ≡ verdict_on claims checked)

accepted_lines : (q : Question) (paths : List Path) (table : Labels) → Accepts q (map claim_of paths) table
    → Accepts q (map claim_in (map claim_line paths)) (table_in (map label_line table))
accepted_lines q paths table a =
    subst (λ (t : Labels). Accepts q (map claim_in (map claim_line paths)) t) (sym (table_back table))
    (subst (λ (cs : List Claim). Accepts q cs table) (sym (paths_back paths)) a)

with_yes : (q : Question) (sum : ℕ) (claims : List ClaimLine) (labels : List LabelLine) →
    Accepts q (map claim_in claims) (table_in labels) → sum ≡ sum_in claims
    → IsAccepted q sum claims labels
with_yes q sum claims labels a e = (answers.Yes, a, ap (λ (n : ℕ). replies.CheckedYes n) e)

pub told_accepted : ((q : Question) (wanted : ℕ) (paths : List Path) (table : Labels) → IsTable table →
    IsAnswer q wanted paths → amount_of paths < wanted
    → IsLeastTable q (use_of paths) table → Accepts q (map claim_of paths) table)
    → (q : Question) (wanted sum : ℕ) (claims : List ClaimLine) (labels : List LabelLine) (paths : List Path) →
    IsAnswer q wanted paths
    → TellsAbsence (nat_le wanted (amount_of paths)) q paths (replies.Missed sum claims labels) →
    IsAccepted q sum claims labels
told_accepted law q wanted sum claims labels paths answer tells = by (nat_le wanted (amount_of paths)) refl tells
  where
    made : amount_of paths < wanted → (table : Labels) → IsTable table → IsLeastTable q (use_of paths) table →
        replies.Missed sum claims labels ≡ missed paths table
        → IsAccepted q sum claims labels
    made lt table good least e =
        let parts = missed_sum sum (amount_of paths) claims (map claim_line paths) labels (map label_line table) e in
        let a = accepted_lines q paths table (law q wanted paths table good answer lt least) in
        with_yes q sum claims labels
        (subst (λ (ls : List LabelLine). Accepts q (map claim_in claims) (table_in ls)) (sym parts.2)
        (subst (λ (cs : List ClaimLine). Accepts q (map claim_in cs) (table_in (map label_line table))) (sym parts.1)
        a))
        (parts.0 ∙ sym (sum_back paths) ∙ ap sum_in (sym parts.1))

    by : (b : Bool) → nat_le wanted (amount_of paths) ≡ b → TellsAbsence b q paths (replies.Missed sum claims labels) →
        IsAccepted q sum claims labels
    by true e t = absurd cc
    by false e t = made (leb-false wanted (amount_of paths) e) t.0 t.1 t.2 t.3

-- ---- accepted claims

pub yes_spent : ((q : Question) (claims : List Claim) (table : Labels) → IsRecord q.network → Accepts q claims table →
    AreSpent q claims)
    → (q : Question) (sum : ℕ) (claims : List ClaimLine) (labels : List LabelLine) → IsRecord q.network →
    IsAccepted q sum claims labels → AreSpent q (map claim_in claims)
yes_spent law q sum claims labels good a = by a.0 a.1 a.2
  where
    by : (checked : Checked) → IsChecked q (map claim_in claims) (table_in labels) checked →
        replies.CheckedYes sum ≡ verdict_on claims checked → AreSpent q (map claim_in claims)
    by answers.Yes c e = law q (map claim_in claims) (table_in labels) good c
    by answers.BadPaths c e = absurd cc
    by answers.BadTable c e = absurd cc
