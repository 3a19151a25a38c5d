-- What stays true of the certificates, whatever a line does.
use Rattle.std.proofs.Common.{◌≡◌, ℕ, Bool, true, false, cond, List, [], ◌∷◌, length, Option, Some, None, Result, Ok}
use Rattle.std.proofs.Common.{Err, ap, sym, subst}
use Rattle.std.specs.Prelude.{MatchBool, nat_lt, is_some}
use Rattle.std.specs.List.{AllByRecursion}
use Rattle.std.specs.Map.{remove_entry}
use Rattle.wot_types.specs.declared.fpr.Fpr.{Fpr}
use Rattle.wot_types.specs.declared.limits.Limit.TheVariants as words
use Rattle.wot_types.specs.declared.name.Name.{Name}
use Rattle.wot_types.specs.declared.number.SigNumber.{SigNumber}
use Rattle.wot_types.specs.Limits.{standard_limits}
use Rattle.wot_policy.specs.declared.rows.PolicyRows.{PolicyRows}
use Rattle.wot_verdict.specs.Verdicts.{verdict_at, with_verdict}
use Rattle.wot_verdict.specs.declared.verdict.Verdict.{Verdict}
use Rattle.wot_component.specs.Certificate.{Certificate}
use Rattle.wot_keyring_spec.specs.declared.imported.Imported.{Imported}
use Rattle.wot_keyring_spec.specs.declared.refusal.Refusal.{Refusal}
use Rattle.wot_keyring_spec.specs.Keyring.{Certificates, is_fpr}
use Rattle.wot_keyring_spec.specs.Held.{cert_in, is_said, verdict_set, removing, verdict_cleared}
use Rattle.wot_keyring_spec.specs.Import.{answer_to, answer_under, is_entry, spelled_in, with_certs}
use Rattle.wot_keyring_spec.specs.Verdict.{is_over}
use Rattle.wot_script.specs.declared.command.Command.{Command}
use Rattle.wot_script.specs.declared.reply.Reply.{Reply}
use Rattle.wot_script.specs.declared.reply.Reply.TheVariants as replies
use Rattle.wot_script.specs.Grammar.{command_of}
use Rattle.wot_cache.specs.declared.view.ViewFault.{ViewFault}
use Rattle.wot_certd.specs.World.{Answer}
use Rattle.wot_cache.specs.State.{State, with_held, rooting, timing, closing}
use Rattle.wot_cache.specs.Views.{view_at, time_fault, root_fault}
use Rattle.wot_plain.specs.declared.class.Class.{Class}
use Rattle.wot_plain.specs.declared.class.Class.TheVariants.{State as OfState, Cursor as OfCursor, Watch as OfWatch}
use Rattle.wot_plain.specs.declared.class.StateCommand.TheVariants as kinds
use Rattle.wot_plain.specs.declared.class.Change.{Change}
use Rattle.wot_plain.specs.declared.class.Change.TheVariants as changes
use Rattle.wot_plain.specs.declared.class.ViewChange.{ViewChange}
use Rattle.wot_plain.specs.declared.class.ViewChange.TheVariants as revisions
use Rattle.wot_plain.specs.declared.class.ShelfCall.{ShelfCall}
use Rattle.wot_plain.specs.declared.class.ShelfCall.TheVariants as calls
use Rattle.wot_plain.specs.Classes.{call_of, change_of, class_of, reading, view_change_of}
use Rattle.wot_plain.specs.Lines.{command_in_line, is_silent, longest}
use Rattle.wot_plain.specs.Outcome.{Outcome, only, done, imports, load, unless}
use Rattle.wot_plain.specs.Entry.{use_of}
use Rattle.wot_plain.specs.LineStep.{LineStep, HasReply, ReadLineStep, StateStep, ComesTo, Stays}
use Rattle.wot_plain.specs.Scene.{Scene, served_in}
use Rattle.wot_plain.specs.Served.{Served}
use Rattle.wot_plain.specs.Session.{Session}
use Rattle.wot_plain.specs.Transcript.{Run}

-- what holds of all entries holds of those that are left
pub all_without : (Q : Fpr × Certificate → Type 0) (test : Fpr → Bool) (certs : Certificates) → AllByRecursion Q certs →
    AllByRecursion Q (remove_entry test certs)
all_without Q test [] all = tt
all_without Q test (e ∷ es) all =
    elim (test e.0) as (λ b. AllByRecursion Q (cond b es (e ∷ remove_entry test es))) [
      | true ↦ all.1
      | false ↦ (all.0, all_without Q test es all.1)
    ]

module _
    (rows : PolicyRows) (P : Certificates → Type 0)
    (imported : (certs : Certificates) (octets : List ℕ) → P certs → P (with_certs rows certs (spelled_in octets)))
    (removed : (fpr : Fpr) (certs : Certificates) → P certs → P (remove_entry (is_fpr fpr) certs))
  where
    abbrev Holds : State → Type 0
    Holds s = P s.held.certs

    given : (outcome : Outcome) (r : Reply) (m : State) → Holds outcome.state → ComesTo outcome r m → Holds m
    given outcome r m p g = subst Holds (sym g.1) p

    either : (b : Bool) (a c : Outcome) → Holds a.state → Holds c.state → Holds (cond b a c).state
    either true a c p q = p
    either false a c p q = q

    unless_stays : (s new : State) (fault : Option ViewFault) → Holds s → Holds new → Holds (unless s fault new).state
    unless_stays s new None p q = q
    unless_stays s new (Some fault) p q = p

    imports_stays : (s : State) (octets : List ℕ) (answer : Result Imported Refusal) → Holds s →
        Holds (imports rows s octets answer).state
    imports_stays s octets (Ok counts) p = imported s.held.certs octets p
    imports_stays s octets (Err fault) p = p

    load_stays : (s : State) (name : Name) (answer : Answer) → Holds s → Holds (load rows s name answer).state
    load_stays s name Answer.fault p = p
    load_stays s name Answer.absent p = p
    load_stays s name Answer.long p = p
    load_stays s name (Answer.entry octets) p =
        imports_stays s octets (answer_under (is_entry name) rows standard_limits s.held.certs octets) p

    verdict_set_stays : (s : State) (number : SigNumber) (v : Verdict) → Holds s →
        Holds (with_held s (verdict_set number v s.held))
    verdict_set_stays s number v p = by (is_said s.held.verdicts number v)
      where
        by : (b : Bool) → Holds
            (with_held s (cond b s.held (record s.held { verdicts = with_verdict s.held.verdicts number v })))
        by true = p
        by false = p

    change_stays : (s : State) (change : Change) → Holds s → Holds (change_of rows s change).state
    change_stays s (changes.Import octets) p =
        imports_stays s octets (answer_to rows standard_limits s.held.certs octets) p
    change_stays s (changes.Remove fpr) p =
        either (is_some (cert_in s.held fpr)) (done (with_held s (removing fpr s.held))) (only s replies.Absent)
        (removed fpr s.held.certs p) p
    change_stays s (changes.Judge number v) p =
        either (is_over standard_limits s.held.verdicts number) (only s (replies.Full words.Verdicts))
        (done (with_held s (verdict_set number v s.held))) p (verdict_set_stays s number v p)
    change_stays s (changes.Unjudge number) p =
        either (is_some (verdict_at s.held.verdicts number)) (done (with_held s (verdict_cleared number s.held)))
        (only s replies.Absent) p p

    view_stays : (s : State) (view : List ℕ) (change : ViewChange) → Holds s →
        Holds (view_change_of s view change).state
    view_stays s view (revisions.Time t) p = unless_stays s (timing view t s) (time_fault standard_limits s.views view) p p
    view_stays s view (revisions.Root fpr amount) p =
        unless_stays s (rooting view fpr amount s) (root_fault standard_limits (view_at s.views view) fpr amount) p p
    view_stays s view revisions.Close p =
        either (is_some (view_at s.views view)) (done (closing view s)) (only s replies.View) p p

    call_stays : (s : State) (call : ShelfCall) (answer : Served) → Holds s → Holds (call_of rows s call answer).state
    call_stays s (calls.Load name) answer p = load_stays s name answer.read p
    call_stays s (calls.Store fpr) answer p = p

    does_stays : (old : State) (class : Class) (answer : Served) (r : Reply) (m : State) → Holds old →
        StateStep rows old class answer r m → Holds m
    does_stays old (OfState (kinds.Change change)) answer r m p =
        given (change_of rows old change) r m (change_stays old change p)
    does_stays old (OfState (kinds.View view change)) answer r m p =
        given (view_change_of old view change) r m (view_stays old view change p)
    does_stays old (OfState (kinds.Question view question)) answer r m p = λ g. subst Holds (sym g.1) p
    does_stays old (OfState (kinds.Read what)) answer r m p = given (only old (reading old what)) r m p
    does_stays old (OfState (kinds.Shelf call)) answer r m p =
        given (call_of rows old call answer) r m (call_stays old call answer p)
    does_stays old (OfCursor name command) answer r m p = λ g. subst Holds (sym g) p
    does_stays old (OfWatch name command) answer r m p = λ g. subst Holds (sym g) p

    abbrev KeepsIt : Session → Type 0
    KeepsIt w = Holds w.state

    answers_stays : (old : Session) (command : Option Command) (answer : Served) (r : Reply) (m : Session) → KeepsIt old →
        ReadLineStep rows old command answer r m → KeepsIt m
    answers_stays old None answer r m p g = subst KeepsIt (sym g.1) p
    answers_stays old (Some command) answer r m p g = does_stays old.state (class_of command) answer r m.state p
        g.does

    replied : (Q : Reply → Session → Type 0) (reply : Option Reply) (m : Session) → ((r : Reply) → Q r m → KeepsIt m) →
        HasReply Q reply m → KeepsIt m
    replied Q None m f g = absurd g
    replied Q (Some r) m f g = f r g

    pub step_stays : (old : Session) (line : List ℕ) (answer : Served) (reply : Option Reply) (new : Session) →
        P old.state.held.certs → LineStep rows old line answer reply new → P new.state.held.certs
    step_stays old line answer reply new p = long (nat_lt longest (length line))
      where
        silent : (b : Bool) → MatchBool b ((reply ≡ None) × (new ≡ old))
            (HasReply (ReadLineStep rows old (command_of line) answer) reply new) → KeepsIt new
        silent true g = subst KeepsIt (sym g.1) p
        silent false g = replied (ReadLineStep rows old (command_of line) answer) reply new
            (λ r. answers_stays old (command_of line) answer r new p) g

        long : (b : Bool) → MatchBool b (HasReply (Stays old replies.Long) reply new)
            (MatchBool (is_silent line) ((reply ≡ None) × (new ≡ old))
            (HasReply (ReadLineStep rows old (command_of line) answer) reply new)) → KeepsIt new
        long true g = replied (Stays old replies.Long) reply new (λ r h. subst KeepsIt (sym h.1) p) g
        long false g = silent (is_silent line) g

    pub run_stays : (lines : List (List ℕ)) (old : Scene) (replies : List Reply) (new : Scene) →
        P old.whole.state.held.certs → Run rows old lines replies new → P new.whole.state.held.certs
    run_stays [] old replies new p r = subst (λ (s : Scene). P s.whole.state.held.certs) (sym r.1) p
    run_stays (line ∷ lines) old replies new p r =
        run_stays lines r.2 r.3 new
        (subst (λ (x : State). P x.held.certs) (sym (ap (λ (w : Session). w.state) r.4.tells.left))
        (step_stays old.whole line (served_in old (use_of (command_in_line line))) r.0 r.4.mid p r.4.does)) r.5
