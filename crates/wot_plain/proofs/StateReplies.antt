-- The reply to a command of the state: its words are from their tables, and it is none of those that only cursors and
-- watches have.
use Rattle.std.proofs.Common.{ℕ, ◌<◌, Bool, true, false, cond, List, [], ◌∷◌, map, Option, Some, None, Result, Ok, Err}
use Rattle.std.proofs.Common.{sym, subst, arith}
use Rattle.std.specs.Prelude.{IfErr, filter, is_some, nat_le}
use Rattle.std.specs.List.{AllByRecursion, slice_get}
use Rattle.std.specs.Map.{lookup}
use Rattle.std.specs.Option.{option_and_then, option_map}
use Rattle.wot_types.specs.declared.fpr.Fpr.{Fpr}
use Rattle.wot_types.specs.declared.limits.Limit.TheVariants as limits
use Rattle.wot_types.specs.declared.name.Name.{Name}
use Rattle.wot_types.specs.declared.name.Name.TheVariants as names
use Rattle.wot_types.specs.declared.number.SigNumber.{SigNumber}
use Rattle.wot_types.specs.Limits.{standard_limits}
use Rattle.wot_policy.specs.declared.rows.PolicyRows.{PolicyRows}
use Rattle.wot_verdict.specs.Verdicts.{Entries, verdict_at}
use Rattle.wot_verdict.specs.declared.verdict.Verdict.{Verdict}
use Rattle.wot_cert.specs.declared.fault.CertFault.{CertFault}
use Rattle.wot_cert.specs.declared.fault.CertFault.TheVariants as certs
use Rattle.wot_component.specs.Certificate.{Component, Certificate, Signature}
use Rattle.wot_edge.specs.declared.path.Path.{Path}
use Rattle.wot_edge.specs.declared.path.Step.{Step}
use Rattle.wot_edge.specs.Path.{Question}
use Rattle.wot_check.specs.declared.checking.Checked.{Checked}
use Rattle.wot_check.specs.declared.checking.Checked.TheVariants as answers
use Rattle.wot_edge.specs.Answer.{amount_of}
use Rattle.wot_keyring_spec.specs.declared.imported.Imported.{Imported}
use Rattle.wot_keyring_spec.specs.declared.refusal.Refusal.{Refusal}
use Rattle.wot_keyring_spec.specs.declared.refusal.Refusal.TheVariants as refusals
use Rattle.wot_keyring_spec.specs.Entry.{entry_in}
use Rattle.wot_keyring_spec.specs.Held.{cert_in, removing, verdict_set, verdict_cleared}
use Rattle.wot_keyring_spec.specs.Import.{◌>>=◌, answer_to, answer_under, is_entry}
use Rattle.wot_keyring_spec.specs.Keyring.{Certificates, is_fpr}
use Rattle.wot_keyring_spec.specs.Verdict.{is_over}
use Rattle.wot_network.specs.Records.{user_id_place}
use Rattle.wot_standing.specs.declared.status.Standing.{Standing}
use Rattle.wot_standing.specs.Kinds.{is_certification}
use Rattle.wot_standing.specs.Own.{is_own_revoked}
use Rattle.wot_standing.specs.Standing.{own, standing_of}
use Rattle.wot_reply_lines.specs.declared.claims.ClaimLine.{ClaimLine}
use Rattle.wot_reply_lines.specs.declared.claims.LabelLine.{LabelLine}
use Rattle.wot_script.specs.declared.reply.Reply.{Reply}
use Rattle.wot_script.specs.declared.reply.Reply.TheVariants as replies
use Rattle.wot_reply_lines.specs.Lines.{HasReason}
use Rattle.wot_script.specs.Replies.{HasWords}
use Rattle.wot_certd.specs.World.{Answer}
use Rattle.wot_cache.specs.declared.view.View.{View}
use Rattle.wot_cache.specs.declared.view.ViewFault.{ViewFault}
use Rattle.wot_cache.specs.declared.view.ViewFault.TheVariants as faults
use Rattle.wot_cache.specs.Question.{question_in}
use Rattle.wot_cache.specs.State.{State, with_held, closing, rooting, timing}
use Rattle.wot_cache.specs.Views.{root_fault, time_fault, view_at}
use Rattle.wot_explain.specs.Explaining.{explained_at, explained_on}
use Rattle.wot_explain.specs.Reasons.{Reason, issuer_standing, reason_of, reason_words}
use Rattle.wot_explain.specs.Target.{target_word, target_words}
use Rattle.wot_explain.specs.Words.{Word, first_word}
use Rattle.wot_plain.specs.declared.class.StateCommand.{StateCommand}
use Rattle.wot_plain.specs.declared.class.StateCommand.TheVariants as kinds
use Rattle.wot_plain.specs.declared.class.Change.{Change}
use Rattle.wot_plain.specs.declared.class.Change.TheVariants as changes
use Rattle.wot_plain.specs.declared.class.ViewChange.{ViewChange}
use Rattle.wot_plain.specs.declared.class.ViewChange.TheVariants as revisions
use Rattle.wot_plain.specs.declared.class.ViewQuestion.{ViewQuestion}
use Rattle.wot_plain.specs.declared.class.ViewQuestion.TheVariants as questions
use Rattle.wot_plain.specs.declared.class.Read.{Read}
use Rattle.wot_plain.specs.declared.class.Read.TheVariants as reads
use Rattle.wot_plain.specs.declared.class.ShelfCall.{ShelfCall}
use Rattle.wot_plain.specs.declared.class.ShelfCall.TheVariants as calls
use Rattle.wot_plain.specs.Classes.{AnswersQuestion, call_of, change_of, reading, view_change_of}
use Rattle.wot_plain.specs.Absent.{Checks, Misses, TellsAbsence, verdict_on}
use Rattle.wot_plain.specs.Answer.{Asks}
use Rattle.wot_plain.specs.Listing.{Lists, explained, explained_from, reason_by, reason_line}
use Rattle.wot_plain.specs.LineStep.{DoesTo, ComesTo}
use Rattle.wot_plain.specs.Outcome.{Outcome, cert_refusal, done, exported, imports, load, only, refusal, unless}
use Rattle.wot_plain.specs.Outcome.{view_refusal}
use Rattle.wot_plain.specs.Served.{Served}
use Rattle.wot_plain.specs.Storing.{stored, stored_from, text_unless, united, writing}

-- ---- what holds of the reply

-- The reply is no amount of a watch and no stale cursor, and its words are from their tables.
abbrev pub IsStateReply : Reply → Type 0
IsStateReply (replies.WatchAmount name amount) = ⊥
IsStateReply (replies.StaleKeyring was now) = ⊥
IsStateReply (replies.StaleView was now) = ⊥
IsStateReply reply = HasWords reply

pub state_words : (reply : Reply) → IsStateReply reply → HasWords reply
state_words (replies.WatchAmount name amount) r = absurd r
state_words (replies.StaleKeyring was now) r = absurd r
state_words (replies.StaleView was now) r = absurd r
state_words reply r = r

-- ---- explanations

-- the first word that applies is from the table, or 0
first_below : (n : ℕ) (words : List Word) → 0 < n → AllByRecursion (λ (word : Word). word.0 < n) words →
    first_word words < n
first_below n [] zero all = zero
first_below n (word ∷ words) zero all = by (first_below n words zero all.1) word.1
  where
    by : first_word words < n → (b : Bool) → cond b word.0 (first_word words) < n
    by rest true = all.0
    by rest false = rest

target_below : (target : Standing) (t : ℕ) (revoked : Bool) → target_word target t revoked < 7
target_below target t revoked =
    first_below 7 (target_words target t revoked) (omega arith) (
      omega arith,
      (omega arith, (omega arith, (omega arith, (omega arith, (omega arith, tt))))),
    )

words_below : (entries : Entries) (t : ℕ) (uid : Component) (s : Signature) (said : Option Verdict)
    (issuer : Option Standing)
    → first_word (reason_words entries t uid s said issuer) < 16
words_below entries t uid s said issuer =
    first_below 16 (reason_words entries t uid s said issuer) (omega arith) (
      omega arith,
      (
        omega arith,
        (
          omega arith,
          (
            omega arith,
            (
              omega arith,
              (
                omega arith,
                (
                  omega arith,
                  (
                    omega arith,
                    (
                      omega arith,
                      (
                        omega arith,
                        (omega arith, (omega arith, (omega arith, (omega arith, (omega arith, tt))))),
                      ),
                    ),
                  ),
                ),
              ),
            ),
          ),
        ),
      ),
    )

line_in_table : (number : SigNumber) (word : ℕ) (step : Option Step) → word < 16 → HasReason (reason_by number word step)
line_in_table number word None below = below
line_in_table number word (Some step) below = tt

lines_in_table : (entries : Entries) (certs : Certificates) (t : ℕ) (target : Fpr) (place : ℕ) (uid : Component)
    (sigs : List Signature)
    → AllByRecursion HasReason (map reason_line (map (reason_of entries certs t target place uid) sigs))
lines_in_table entries certs t target place uid [] = tt
lines_in_table entries certs t target place uid (s ∷ sigs) =
    let r : Reason = reason_of entries certs t target place uid s in (
      line_in_table r.0 r.1 r.2 (words_below entries t uid s (verdict_at entries s.number)
          (issuer_standing entries certs t (verdict_at entries s.number))),
      lines_in_table entries certs t target place uid sigs,
    )

there_replies : (entries : Entries) (certs : Certificates) (t : ℕ) (c : Certificate) (place : ℕ) (uid : Option Component)
    → IsStateReply (explained (option_map (explained_on entries certs t c place) uid))
there_replies entries certs t c place None = tt
there_replies entries certs t c place (Some uid) = (
  target_below (standing_of entries c t) t (is_own_revoked entries (own c) t uid),
  lines_in_table entries certs t (own c) place uid (filter is_certification uid.sigs),
)

placed_replies : (entries : Entries) (certs : Certificates) (t : ℕ) (c : Certificate) (place : Option ℕ)
    → IsStateReply (explained (option_and_then (explained_at entries certs t c) place))
placed_replies entries certs t c None = tt
placed_replies entries certs t c (Some place) = there_replies entries certs t c place (slice_get c.user_ids place)

kept_replies : (entries : Entries) (certs : Certificates) (t : ℕ) (u : List ℕ) (c : Option Certificate)
    → IsStateReply (explained (option_and_then (λ (c : Certificate). option_and_then (explained_at entries certs t c)
    (user_id_place u c.user_ids)) c))
kept_replies entries certs t u None = tt
kept_replies entries certs t u (Some c) = placed_replies entries certs t c (user_id_place u c.user_ids)

explain_replies : (s : State) (view : Option View) (fpr : Fpr) (u : List ℕ) → IsStateReply (explained_from s view fpr u)
explain_replies s None fpr u = tt
explain_replies s (Some view) fpr u = kept_replies s.held.verdicts s.held.certs view.time u
    (lookup (is_fpr fpr) s.held.certs)

-- ---- other replies

refused_cert : (fault : CertFault) → IsStateReply (cert_refusal fault)
refused_cert certs.Compressed = tt
refused_cert certs.Secret = tt
refused_cert (certs.Kind kind offset) = tt
refused_cert (certs.Order offset) = tt
refused_cert certs.Empty = tt
refused_cert certs.Memory = tt

refused_replies : (told : Refusal) → IsStateReply (refusal told)
refused_replies (refusals.Packet fault) = tt
refused_replies (refusals.Cert fault) = refused_cert fault
refused_replies refusals.Misfiled = tt
refused_replies refusals.Clash = tt
refused_replies (refusals.Full limit) = tt
refused_replies refusals.Memory = tt

imports_replies : (rows : PolicyRows) (s : State) (octets : List ℕ) (answer : Result Imported Refusal) →
    IsStateReply (imports rows s octets answer).reply
imports_replies rows s octets (Ok counts) = tt
imports_replies rows s octets (Err told) = refused_replies told

load_replies : (rows : PolicyRows) (s : State) (name : Name) (answer : Answer) → IsStateReply (load rows s name answer).reply
load_replies rows s name Answer.fault = tt
load_replies rows s name Answer.absent = tt
load_replies rows s name Answer.long = tt
load_replies rows s name (Answer.entry octets) =
    imports_replies rows s octets (answer_under (is_entry name) rows standard_limits s.held.certs octets)

stored_replies : (fails : Bool) (r : Result (List ℕ) Reply) → IfErr r IsStateReply → IsStateReply (stored fails r)
stored_replies fails (Err reply) h = h
stored_replies true (Ok octets) h = tt
stored_replies false (Ok octets) h = tt

text_replies : (r : Result Certificate Refusal) → IfErr (text_unless r) IsStateReply
text_replies (Ok c) = tt
text_replies (Err told) = refused_replies told

writing_replies : (fpr : Fpr) (kept : Certificate) (answer : Answer) → IfErr (writing fpr kept answer) IsStateReply
writing_replies fpr kept Answer.fault = tt
writing_replies fpr kept Answer.absent = tt
writing_replies fpr kept Answer.long = tt
writing_replies fpr kept (Answer.entry octets) = text_replies (entry_in (names.Cert fpr) octets >>= united kept)

store_replies : (kept : Option Certificate) (fpr : Fpr) (given : Served) → IsStateReply (stored_from kept fpr given)
store_replies None fpr given = tt
store_replies (Some kept) fpr given = stored_replies given.fails (writing fpr kept given.read)
    (writing_replies fpr kept given.read)

either : (b : Bool) (a c : Outcome) → IsStateReply a.reply → IsStateReply c.reply → IsStateReply (cond b a c).reply
either true a c p q = p
either false a c p q = q

view_replies : (fault : ViewFault) → IsStateReply (view_refusal fault)
view_replies faults.View = tt
view_replies faults.Absent = tt
view_replies (faults.Full limit) = tt
view_replies faults.Memory = tt

unless_replies : (s new : State) (fault : Option ViewFault) → IsStateReply (unless s fault new).reply
unless_replies s new None = tt
unless_replies s new (Some fault) = view_replies fault

export_replies : (c : Option Certificate) → IsStateReply (exported c)
export_replies None = tt
export_replies (Some c) = tt

given : (outcome : Outcome) (reply : Reply) (new : State) → IsStateReply outcome.reply → ComesTo outcome reply new →
    IsStateReply reply
given outcome reply new h g = subst IsStateReply (sym g.0) h

-- ---- questions

verdict_replies : (claims : List ClaimLine) (checked : Checked) → IsStateReply (verdict_on claims checked)
verdict_replies claims answers.Yes = tt
verdict_replies claims answers.BadPaths = tt
verdict_replies claims answers.BadTable = tt

misses_replies : (reached : Bool) (q : Question) (paths : List Path) (reply : Reply) →
    TellsAbsence reached q paths reply → IsStateReply reply
misses_replies true q paths reply tells = subst IsStateReply (sym tells) tt
misses_replies false q paths reply tells = subst IsStateReply (sym tells.3) tt

ask_replies : (s : State) (view : Option View) (target : Fpr) (wanted : ℕ) (uid : List ℕ) (reply : Reply) →
    Asks s view target wanted uid reply → IsStateReply reply
ask_replies s None target wanted uid reply asks = subst IsStateReply (sym asks) tt
ask_replies s (Some view) target wanted uid reply asks = subst IsStateReply (sym asks.2) tt

list_replies : (s : State) (view : Option View) (wanted : ℕ) (reply : Reply) → Lists s view wanted reply → IsStateReply reply
list_replies s None wanted reply lists = subst IsStateReply (sym lists) tt
list_replies s (Some view) wanted reply lists = subst IsStateReply (sym lists.2) tt

absence_replies : (s : State) (view : Option View) (target : Fpr) (wanted : ℕ) (uid : List ℕ) (reply : Reply) →
    Misses s view target wanted uid reply → IsStateReply reply
absence_replies s None target wanted uid reply misses = subst IsStateReply (sym misses) tt
absence_replies s (Some view) target wanted uid reply misses =
    misses_replies (nat_le wanted (amount_of misses.0)) (question_in s view target uid) misses.0 reply misses.2

check_replies : (s : State) (view : Option View) (target : Fpr) (claims : List ClaimLine) (labels : List LabelLine)
    (uid : List ℕ) (reply : Reply)
    → Checks s view target claims labels uid reply → IsStateReply reply
check_replies s None target claims labels uid reply checks = subst IsStateReply (sym checks) tt
check_replies s (Some view) target claims labels uid reply checks =
    subst IsStateReply (sym checks.2) (verdict_replies claims checks.0)

change_replies : (rows : PolicyRows) (s : State) (change : Change) → IsStateReply (change_of rows s change).reply
change_replies rows s (changes.Import octets) =
    imports_replies rows s octets (answer_to rows standard_limits s.held.certs octets)
change_replies rows s (changes.Remove fpr) =
    either (is_some (cert_in s.held fpr)) (done (with_held s (removing fpr s.held))) (only s replies.Absent) tt tt
change_replies rows s (changes.Judge number v) =
    either (is_over standard_limits s.held.verdicts number) (only s (replies.Full limits.Verdicts))
    (done (with_held s (verdict_set number v s.held))) tt tt
change_replies rows s (changes.Unjudge number) =
    either (is_some (verdict_at s.held.verdicts number)) (done (with_held s (verdict_cleared number s.held)))
    (only s replies.Absent) tt tt

view_change_replies : (s : State) (view : List ℕ) (change : ViewChange) → IsStateReply (view_change_of s view change).reply
view_change_replies s view (revisions.Time t) = unless_replies s (timing view t s) (time_fault standard_limits s.views view)
view_change_replies s view (revisions.Root fpr amount) =
    unless_replies s (rooting view fpr amount s) (root_fault standard_limits (view_at s.views view) fpr amount)
view_change_replies s view revisions.Close =
    either (is_some (view_at s.views view)) (done (closing view s)) (only s replies.View) tt tt

question_replies : (s : State) (view : Option View) (question : ViewQuestion) (reply : Reply) →
    AnswersQuestion s view question reply → IsStateReply reply
question_replies s view (questions.Ask target wanted uid) reply a = ask_replies s view target wanted uid reply a
question_replies s view (questions.List wanted) reply a = list_replies s view wanted reply a
question_replies s view (questions.Explain fpr uid) reply a =
    subst IsStateReply (sym a) (explain_replies s view fpr uid)
question_replies s view (questions.Absence target wanted uid) reply a =
    absence_replies s view target wanted uid reply a
question_replies s view (questions.Check target claims labels uid) reply a =
    check_replies s view target claims labels uid reply a

reading_replies : (s : State) (what : Read) → IsStateReply (reading s what)
reading_replies s (reads.Export fpr) = export_replies (cert_in s.held fpr)
reading_replies s what = tt

call_replies : (rows : PolicyRows) (s : State) (call : ShelfCall) (given : Served) →
    IsStateReply (call_of rows s call given).reply
call_replies rows s (calls.Load name) given = load_replies rows s name given.read
call_replies rows s (calls.Store fpr) given = store_replies (cert_in s.held fpr) fpr given

-- ---- every command

pub state_replies : (rows : PolicyRows) (old : State) (command : StateCommand) (answer : Served) (reply : Reply)
    (new : State) → DoesTo rows old command answer reply new → IsStateReply reply
state_replies rows old (kinds.Change change) answer reply new g =
    given (change_of rows old change) reply new (change_replies rows old change) g
state_replies rows old (kinds.View view change) answer reply new g =
    given (view_change_of old view change) reply new (view_change_replies old view change) g
state_replies rows old (kinds.Question view question) answer reply new g =
    question_replies old (view_at old.views view) question reply g.0
state_replies rows old (kinds.Read what) answer reply new g =
    given (only old (reading old what)) reply new (reading_replies old what) g
state_replies rows old (kinds.Shelf call) answer reply new g =
    given (call_of rows old call answer) reply new (call_replies rows old call answer) g
