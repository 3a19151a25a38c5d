-- An answer depends only on certificates, verdicts and the asking view.
use Rattle.std.proofs.Common.{◌≡◌, inl, ℕ, Bool, true, false, List, [], ◌∷◌, length, map, Option, Some, None, refl, sym}
use Rattle.std.proofs.Common.{ap, subst, ◌∙◌}
use Rattle.std.specs.Prelude.{MatchBool, nat_lt}
use Rattle.wot_types.specs.declared.fpr.Fpr.{Fpr}
use Rattle.wot_policy.specs.declared.rows.PolicyRows.{PolicyRows}
use Rattle.wot_verdict.specs.Verdicts as verdicts
use Rattle.wot_script.specs.declared.command.Command.{Command}
use Rattle.wot_script.specs.declared.reply.Reply.{Reply}
use Rattle.wot_script.specs.declared.reply.Reply.TheVariants as replies
use Rattle.wot_script.specs.Grammar.{command_of}
use Rattle.wot_component.specs.Certificate.{Certificate, unmarked}
use Rattle.wot_component.specs.Judged.{judged}
use Rattle.wot_keyring_spec.specs.Keyring.{Certificates}
use Rattle.wot_keyring.specs.Dump.{judged_anew, judged_by}
use Rattle.wot_keyring_spec.specs.Held.{Held}
use Rattle.wot_cache.specs.declared.view.View.{View}
use Rattle.wot_cache.specs.State.{State}
use Rattle.wot_cache.specs.Views.{view_at}
use Rattle.wot_plain.specs.declared.class.Class.{Class}
use Rattle.wot_plain.specs.declared.class.Class.TheVariants.{State as OfState}
use Rattle.wot_plain.specs.declared.class.StateCommand.TheVariants as kinds
use Rattle.wot_plain.specs.declared.class.ViewQuestion.{ViewQuestion}
use Rattle.wot_plain.specs.declared.class.ViewQuestion.TheVariants as questions
use Rattle.wot_plain.specs.Classes.{AnswersQuestion, class_of}
use Rattle.wot_plain.specs.Absent.{Checks, Misses}
use Rattle.wot_plain.specs.Answer.{Asks}
use Rattle.wot_laws.specs.Depends.{AsksFrom, bare, IsAsk}
use Rattle.wot_laws.specs.OneLine.{OneOutcome}
use Rattle.wot_plain.specs.Lines.{is_silent, longest}
use Rattle.wot_plain.specs.Listing.{Lists, explained_from}
use Rattle.wot_plain.specs.LineStep.{LineStep, HasReply, ReadLineStep, StateStep, CommandStep, Stays}
use Rattle.wot_plain.specs.Pacing.{Paces}
use Rattle.wot_plain.specs.Watching.{Watching}
use Rattle.wot_plain.specs.Session.{RevisedBy, Session}
use Rattle.wot_laws.proofs.Named.{AreNamed}
use Rattle.wot_plain.specs.Served.{Served}

-- ---- marks

module _ (rows : PolicyRows) (forgets : (c : Certificate) → judged rows (unmarked c) ≡ judged rows c) where
  -- judging ignores earlier marks
  anew_bare : (certs : Certificates) → map (judged_anew rows) (bare certs) ≡ map (judged_anew rows) certs
  anew_bare [] = refl
  anew_bare (e ∷ es) =
      let Entry : Certificate → Fpr × Certificate = λ c. (e.0, c) in
      ap (λ (x : Fpr × Certificate). x ∷ map (judged_anew rows) (bare es)) (ap Entry (forgets e.1))
      ∙ ap (λ (xs : Certificates). judged_anew rows e ∷ xs) (anew_bare es)

  -- certificates with the marks that the rows give are equal if they are equal apart from marks
  pub same_certs : (one other : State) → judged_by rows one.held ≡ one.held → judged_by rows other.held ≡ other.held →
      bare one.held.certs ≡ bare other.held.certs
      → one.held.certs ≡ other.held.certs
  same_certs one other p q e =
      let first : map (judged_anew rows) one.held.certs ≡ one.held.certs = ap (λ (h : Held). h.certs) p in
      let second : map (judged_anew rows) other.held.certs ≡ other.held.certs = ap (λ (h : Held). h.certs) q in
      sym first ∙ sym (anew_bare one.held.certs) ∙ ap (map (judged_anew rows)) e ∙ anew_bare other.held.certs ∙ second

-- ---- a question in two states

-- the state with these certificates and verdicts and no views
abbrev held_alone : Certificates → verdicts.Entries → State
held_alone certs entries = record { held = record { certs = certs; verdicts = entries }; views = [] }

-- a fact about certificates, verdicts and the asking view holds in both states
alike : (P : State → Option View → Type 0) (one other : State) (name : List ℕ) → one.held.certs ≡ other.held.certs →
    one.held.verdicts ≡ other.held.verdicts
    → view_at one.views name ≡ view_at other.views name → P (held_alone one.held.certs one.held.verdicts)
    (view_at one.views name)
    → P (held_alone other.held.certs other.held.verdicts) (view_at other.views name)
alike P one other name c v w asks =
    subst (λ (view : Option View). P (held_alone other.held.certs other.held.verdicts) view) w
    (subst (λ (entries : verdicts.Entries). P (held_alone other.held.certs entries) (view_at one.views name)) v
    (subst (λ (certs : Certificates). P (held_alone certs one.held.verdicts) (view_at one.views name)) c asks))

-- Of the views, only the asking one matters to the reply.
question_alike : (one other : State) (name : List ℕ) (question : ViewQuestion) (reply : Reply) →
    one.held.certs ≡ other.held.certs → one.held.verdicts ≡ other.held.verdicts
    → view_at one.views name ≡ view_at other.views name
    → AnswersQuestion one (view_at one.views name) question reply
    → AnswersQuestion other (view_at other.views name) question reply
question_alike one other name (questions.Ask target wanted uid) reply c v w a =
    alike (λ s shown. Asks s shown target wanted uid reply) one other name c v w a
question_alike one other name (questions.List wanted) reply c v w a =
    alike (λ s shown. Lists s shown wanted reply) one other name c v w a
question_alike one other name (questions.Explain fpr uid) reply c v w a =
    alike (λ s shown. reply ≡ explained_from s shown fpr uid) one other name c v w a
question_alike one other name (questions.Absence target wanted uid) reply c v w a =
    alike (λ s shown. Misses s shown target wanted uid reply) one other name c v w a
question_alike one other name (questions.Check target claims labels uid) reply c v w a =
    alike (λ s shown. Checks s shown target claims labels uid reply) one other name c v w a

does_alike : (rows : PolicyRows) (one other : State) (name : List ℕ) (class : Class) (given told : Served)
    (reply : Reply) (new : State) → one.held.certs ≡ other.held.certs
    → one.held.verdicts ≡ other.held.verdicts → view_at one.views name ≡ view_at other.views name →
    AsksFrom name class
    → StateStep rows one class given reply new → StateStep rows other class told reply other
does_alike rows one other name (OfState (kinds.Question view question)) given told reply new c v w a does =
    let W : view_at one.views view ≡ view_at other.views view =
    subst (λ (n : List ℕ). view_at one.views n ≡ view_at other.views n) (sym a) w in
    (question_alike one other view question reply c v W does.0, refl)
does_alike rows one other name class given told reply new c v w a does = absurd a

-- a question changes no turns, cursors or watches
asking : (name : List ℕ) (class : Class) (s : Session) (reply : Reply) → AsksFrom name class
    → RevisedBy class s.state.views s.revisions s.state.views s.revisions × Paces s class reply s.cursors × Watching s
    class reply s.watches
asking name (OfState (kinds.Question view question)) s reply a = (refl, refl, refl)
asking name class s reply a = absurd a

-- a step of a question in one state is a step in the other, if the command has the same outcome
pub step_as : (rows : PolicyRows) (one other : Session) (name line : List ℕ) (given told : Served) (reply : Option Reply)
    (new : Session) (ask : IsAsk name line)
    → ((r : Reply) (s : State) → StateStep rows one.state (class_of ask.command) given r s →
    StateStep rows other.state (class_of ask.command) told r other.state)
    → LineStep rows one line given reply new → LineStep rows other line told reply other
step_as rows one other name line given told reply new ask does step = long (nat_lt longest (length line)) step
  where
    answers : (o : Option Command) → o ≡ Some ask.command → (r : Option Reply) →
        HasReply (ReadLineStep rows one o given) r new → HasReply (ReadLineStep rows other o told) r other
    answers o e None s = absurd s
    answers o e (Some r) s =
        let Told : Option Command → Type 0 = λ o. ReadLineStep rows other o told r other in
        let s' : CommandStep rows one (class_of ask.command) given r new = subst (λ (o : Option Command). ReadLineStep rows one o given r new)
        e s in
        let rest = asking name (class_of ask.command) other r ask.asks in
        subst Told (sym e) (record {
          does = does r new.state s'.does;
          counted = inl (refl, refl);
          turned = rest.0;
          paces = rest.1;
          watching = rest.2;
        })

    refused : (r : Option Reply) → HasReply (Stays one replies.Long) r new → HasReply (Stays other replies.Long) r other
    refused None g = absurd g
    refused (Some r) g = (g.0, refl)

    silent : (b : Bool) → MatchBool b ((reply ≡ None) × (new ≡ one))
        (HasReply (ReadLineStep rows one (command_of line) given) reply new)
        → MatchBool b ((reply ≡ None) × (other ≡ other)) (HasReply (ReadLineStep rows other (command_of line) told) reply
        other)
    silent true g = (g.0, refl)
    silent false g = answers (command_of line) ask.read reply g

    long : (b : Bool)
        → MatchBool b (HasReply (Stays one replies.Long) reply new)
        (MatchBool (is_silent line) ((reply ≡ None) × (new ≡ one))
        (HasReply (ReadLineStep rows one (command_of line) given) reply new))
        → MatchBool b (HasReply (Stays other replies.Long) reply other)
        (MatchBool (is_silent line) ((reply ≡ None) × (other ≡ other))
        (HasReply (ReadLineStep rows other (command_of line) told) reply other))
    long true g = refused reply g
    long false g = silent (is_silent line) g

pub step_alike : (rows : PolicyRows) (one other : Session) (name line : List ℕ) (given told : Served)
    (reply : Option Reply) (new : Session) → one.state.held.certs ≡ other.state.held.certs
    → one.state.held.verdicts ≡ other.state.held.verdicts → view_at one.state.views name ≡ view_at other.state.views
    name → IsAsk name line
    → LineStep rows one line given reply new → LineStep rows other line told reply other
step_alike rows one other name line given told reply new c v w ask step =
    step_as rows one other name line given told reply new ask
    (λ r s does. does_alike rows one.state other.state name (class_of ask.command) given told r s c v w ask.asks does) step

pub replied_alike : (rows : PolicyRows) → OneOutcome rows → (one other : Session) (name line : List ℕ) →
    AreNamed other.state.held.certs → one.state.held.certs ≡ other.state.held.certs
    → one.state.held.verdicts ≡ other.state.held.verdicts → view_at one.state.views name ≡ view_at other.state.views
    name → IsAsk name line → (given told : Served)
    → (reply second : Option Reply) (new third : Session) → LineStep rows one line given reply new →
    LineStep rows other line told second third → reply ≡ second
replied_alike rows law one other name line can c v w ask given told reply second new third p q =
    (law.one other line told reply second other third can (step_alike rows one other name line given told reply new c v
    w ask p) q).0
