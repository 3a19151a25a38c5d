-- Each line has exactly one outcome.
use Rattle.std.proofs.Common.{◌≡◌, ℕ, ◌≤◌, Bool, true, false, List, length, Option, Some, None, refl, sym, ap, ◌∙◌}
use Rattle.std.proofs.Common.{subst, inl}
use Rattle.std.specs.Prelude.{MatchBool, map, nat_le, nat_lt}
use Rattle.std.specs.List.{AllByRecursion}
use Rattle.wot_types.specs.declared.fpr.Fpr.{Fpr}
use Rattle.wot_policy.specs.declared.rows.PolicyRows.{PolicyRows}
use Rattle.wot_verdict.specs.Verdicts.{Entries}
use Rattle.wot_key.specs.Key.{fpr_of}
use Rattle.wot_component.specs.Certificate.{Certificate}
use Rattle.wot_edge.specs.declared.path.Path.{Path}
use Rattle.wot_edge.specs.Path.{Question, Use}
use Rattle.wot_edge.specs.Record.{IsRecord, Record}
use Rattle.wot_edge.specs.Answer.{IsAnswer, amount_of}
use Rattle.wot_check.specs.declared.checking.Checked.{Checked}
use Rattle.wot_check.specs.Absence.{IsChecked, IsLeastTable}
use Rattle.wot_check.specs.Claim.{Claim}
use Rattle.wot_check.specs.Table.{IsTable, Labels}
use Rattle.wot_keyring_spec.specs.Keyring.{Certificates}
use Rattle.wot_script.specs.declared.command.Command.{Command}
use Rattle.wot_reply_lines.specs.Claims.{IsClaimSpelled}
use Rattle.wot_reply_lines.specs.declared.claims.ClaimLine.{ClaimLine}
use Rattle.wot_reply_lines.specs.declared.claims.LabelLine.{LabelLine}
use Rattle.wot_script.specs.declared.reply.Reply.{Reply}
use Rattle.wot_script.specs.declared.reply.Reply.TheVariants as replies
use Rattle.wot_script.specs.Grammar.{command_of}
use Rattle.wot_script.specs.Spelling.{HasSpelling}
use Rattle.wot_network.specs.Records.{record_of}
use Rattle.wot_cache.specs.declared.view.View.{View}
use Rattle.wot_explain.specs.declared.bind.Bind.{Bind}
use Rattle.wot_explain.specs.Listing.{IsListed, Pair, pairs_in}
use Rattle.wot_cache.specs.Question.{question_in}
use Rattle.wot_cache.specs.State.{State, IsState}
use Rattle.wot_cache.specs.Views.{view_at}
use Rattle.wot_plain.specs.declared.class.Class.{Class}
use Rattle.wot_plain.specs.declared.class.Class.TheVariants.{State as OfState, Cursor as OfCursor, Watch as OfWatch}
use Rattle.wot_plain.specs.declared.class.StateCommand.{StateCommand}
use Rattle.wot_plain.specs.declared.class.StateCommand.TheVariants as kinds
use Rattle.wot_plain.specs.declared.class.ViewQuestion.{ViewQuestion}
use Rattle.wot_plain.specs.declared.class.ViewQuestion.TheVariants as questions
use Rattle.wot_plain.specs.Classes.{AnswersQuestion, IsFit, IsWanted, call_of, change_of, class_of, reading}
use Rattle.wot_plain.specs.Classes.{view_change_of}
use Rattle.wot_laws.proofs.Fit.{fit_of}
use Rattle.wot_plain.specs.Lines.{is_silent, longest}
use Rattle.wot_plain.specs.Absent.{Checks, Misses, TellsAbsence, claim_in, table_in, verdict_on}
use Rattle.wot_plain.specs.Answer.{Asks, amount_reply}
use Rattle.wot_plain.specs.Listing.{Lists, bindings, explained_from}
use Rattle.wot_plain.specs.Outcome.{Outcome, only}
use Rattle.wot_plain.specs.LineStep.{LineStep, HasReply, ReadLineStep, DoesTo, ComesTo, CommandStep, Stays}
use Rattle.wot_plain.specs.Served.{Served}
use Rattle.wot_plain.proofs.Absences.{spelled_table, tells_one, tells_some}
use Rattle.wot_plain.specs.Session.{Session}
use Rattle.wot_laws.proofs.Named.{AreNamed, named_all, named_without}
use Rattle.wot_plain.proofs.Paced.{paces_one, paces_some}
use Rattle.wot_laws.proofs.Stays.{step_stays}
use Rattle.wot_plain.proofs.Watched.{watching_one, watching_some}
use Rattle.wot_plain.proofs.Sessions.{counted_one, counted_some, turned_one, turned_some, whole_same}

-- at most one reply and state
abbrev pub IsOne : (R M : Type 0) → (R → M → Type 0) → Type 0
IsOne R M P = (r s : R) (m n : M) → P r m → P s n → (r ≡ s) × (m ≡ n)

-- some reply and state
abbrev pub IsSome : (R M : Type 0) → (R → M → Type 0) → Type 0
IsSome R M P = (r : R) × (m : M) × P r m

Gives-one : (outcome : Outcome) → IsOne Reply State (ComesTo outcome)
Gives-one outcome r s m n p q = (p.0 ∙ sym q.0, p.1 ∙ sym q.1)

Gives-some : (outcome : Outcome) → IsSome Reply State (ComesTo outcome)
Gives-some outcome = (outcome.reply, outcome.state, (refl, refl))

Stays-one : (old : Session) (told : Reply) → IsOne Reply Session (Stays old told)
Stays-one old told r s m n p q = (p.0 ∙ sym q.0, p.1 ∙ sym q.1)

Stays-some : (old : Session) (told : Reply) → IsSome Reply Session (Stays old told)
Stays-some old told = (told, old, (refl, refl))

HasReply-one : (P : Reply → Session → Type 0) → IsOne Reply Session P → IsOne (Option Reply) Session (HasReply P)
HasReply-one P one None s m n p q = absurd p
HasReply-one P one (Some r) None m n p q = absurd q
HasReply-one P one (Some r) (Some s) m n p q = let both = one r s m n p q in (ap (λ (x : Reply). Some x) both.0, both.1)

HasReply-some : (P : Reply → Session → Type 0) → IsSome Reply Session P → IsSome (Option Reply) Session (HasReply P)
HasReply-some P some = (Some some.0, some.1, some.2)

silent-one : (old : Session) → IsOne (Option Reply) Session (λ r m. (r ≡ None) × (m ≡ old))
silent-one old r s m n p q = (p.0 ∙ sym q.0, p.1 ∙ sym q.1)

MatchBool-one : (b : Bool) (P Q : Option Reply → Session → Type 0) → IsOne (Option Reply) Session P →
    IsOne (Option Reply) Session Q → IsOne (Option Reply) Session (λ r m. MatchBool b (P r m) (Q r m))
MatchBool-one true P Q p q = p
MatchBool-one false P Q p q = q

MatchBool-some : (b : Bool) (P Q : Option Reply → Session → Type 0) → IsSome (Option Reply) Session P →
    IsSome (Option Reply) Session Q → IsSome (Option Reply) Session (λ r m. MatchBool b (P r m) (Q r m))
MatchBool-some true P Q p q = p
MatchBool-some false P Q p q = q

-- ---- well-formed states

pub LineStep-stays : (rows : PolicyRows) (old : Session) (line : List ℕ) (given : Served) (reply : Option Reply)
    (new : Session) → IsState old.state → LineStep rows old line given reply new → IsState new.state
LineStep-stays rows = step_stays rows AreNamed (named_all rows) named_without

-- ---- questions

module _
    (answer_some : (q : Question) (wanted : ℕ) → 1 ≤ wanted → (paths : List Path) × IsAnswer q wanted paths)
    (answer_one : (q : Question) (wanted : ℕ) (a b : List Path) → IsRecord q.network → IsAnswer q wanted a →
    IsAnswer q wanted b → a ≡ b)
    (lawful : (certs : Certificates) (entries : Entries) (t : ℕ) (u : List ℕ) →
    AllByRecursion (λ (e : Fpr × Certificate). e.0 ≡ fpr_of e.1.key) certs → IsRecord (record_of certs entries t u))
    (list_some : (told : List ℕ → Record) (roots : List (Fpr × ℕ)) (wanted : ℕ) (pairs : List Pair) → 1 ≤ wanted →
    (binds : List Bind) × IsListed told roots wanted pairs binds)
    (list_one : (told : List ℕ → Record) (roots : List (Fpr × ℕ)) (wanted : ℕ) (pairs : List Pair) (a b : List Bind) →
    ((u : List ℕ) → IsRecord (told u))
    → IsListed told roots wanted pairs a → IsListed told roots wanted pairs b → a ≡ b)
    (least_some : (q : Question) (used : Use) → (table : Labels) × IsTable table × IsLeastTable q used table)
    (least_one : (q : Question) (used : Use) (a b : Labels) → IsTable a → IsTable b → IsLeastTable q used a →
    IsLeastTable q used b → a ≡ b)
    (check_some : (q : Question) (claims : List Claim) (table : Labels) → IsTable table →
    (checked : Checked) × IsChecked q claims table checked)
    (check_one : (q : Question) (claims : List Claim) (table : Labels) (a b : Checked) → IsRecord q.network →
    IsChecked q claims table a → IsChecked q claims table b → a ≡ b)
    (wants : (line : List ℕ) (command : Command) → command_of line ≡ Some command → HasSpelling command)
    (rows : PolicyRows)
  where
    Asks-one : (old : State) (view : Option View) (target : Fpr) (wanted : ℕ) (uid : List ℕ) (r s : Reply) →
        IsState old → Asks old view target wanted uid r → Asks old view target wanted uid s → r ≡ s
    Asks-one old None target wanted uid r s p a b = a ∙ sym b
    Asks-one old (Some view) target wanted uid r s p a b =
        let same = answer_one (question_in old view target uid) wanted a.0 b.0
        (lawful old.held.certs old.held.verdicts view.time uid p) a.1 b.1 in
        a.2 ∙ ap (amount_reply old) same ∙ sym b.2

    Asks-some : (old : State) (view : Option View) (target : Fpr) (wanted : ℕ) (uid : List ℕ) → 1 ≤ wanted →
        (r : Reply) × Asks old view target wanted uid r
    Asks-some old None target wanted uid h = (replies.View, refl)
    Asks-some old (Some view) target wanted uid h =
        let paths = answer_some (question_in old view target uid) wanted h in
        (amount_reply old paths.0, (paths.0, paths.1, refl))

    Lists-one : (old : State) (view : Option View) (wanted : ℕ) (r s : Reply) → IsState old → Lists old view wanted r →
        Lists old view wanted s → r ≡ s
    Lists-one old None wanted r s p a b = a ∙ sym b
    Lists-one old (Some view) wanted r s p a b =
        let lawful_there = lawful old.held.certs old.held.verdicts view.time in
        let same = list_one (record_of old.held.certs old.held.verdicts view.time) view.roots wanted
        (pairs_in old.held.certs) a.0 b.0 (λ u. lawful_there u p) a.1 b.1 in
        a.2 ∙ ap bindings same ∙ sym b.2

    Lists-some : (old : State) (view : Option View) (wanted : ℕ) → 1 ≤ wanted → (r : Reply) × Lists old view wanted r
    Lists-some old None wanted h = (replies.View, refl)
    Lists-some old (Some view) wanted h =
        let binds = list_some (record_of old.held.certs old.held.verdicts view.time) view.roots wanted
        (pairs_in old.held.certs) h in
        (bindings binds.0, (binds.0, binds.1, refl))

    Misses-one : (old : State) (view : Option View) (target : Fpr) (wanted : ℕ) (uid : List ℕ) (r s : Reply) →
        IsState old → Misses old view target wanted uid r → Misses old view target wanted uid s → r ≡ s
    Misses-one old None target wanted uid r s p a b = a ∙ sym b
    Misses-one old (Some view) target wanted uid r s p a b =
        let q : Question = question_in old view target uid in
        let same : a.0 ≡ b.0 = answer_one q wanted a.0 b.0 (lawful old.held.certs old.held.verdicts view.time uid p) a.1
        b.1 in
        tells_one least_one (nat_le wanted (amount_of b.0)) q b.0 r s
        (subst (λ (paths : List Path). TellsAbsence (nat_le wanted (amount_of paths)) q paths r) same a.2) b.2

    Misses-some : (old : State) (view : Option View) (target : Fpr) (wanted : ℕ) (uid : List ℕ) → 1 ≤ wanted →
        (r : Reply) × Misses old view target wanted uid r
    Misses-some old None target wanted uid h = (replies.View, refl)
    Misses-some old (Some view) target wanted uid h = by (answer_some (question_in old view target uid) wanted h)
      where
        by : (paths : List Path) × IsAnswer (question_in old view target uid) wanted paths →
            (r : Reply) × Misses old (Some view) target wanted uid r
        by paths =
            let tells = tells_some least_some (nat_le wanted (amount_of paths.0)) (question_in old view target uid)
            paths.0 in
            (tells.0, (paths.0, paths.1, tells.1))

    Checks-one : (old : State) (view : Option View) (target : Fpr) (claims : List ClaimLine) (labels : List LabelLine)
        (uid : List ℕ) (r s : Reply) → IsState old
        → Checks old view target claims labels uid r → Checks old view target claims labels uid s → r ≡ s
    Checks-one old None target claims labels uid r s p a b = a ∙ sym b
    Checks-one old (Some view) target claims labels uid r s p a b =
        let same : a.0 ≡ b.0 = check_one (question_in old view target uid) (map claim_in claims) (table_in labels) a.0
        b.0 (lawful old.held.certs old.held.verdicts view.time uid p) a.1 b.1 in
        a.2 ∙ ap (verdict_on claims) same ∙ sym b.2

    Checks-some : (old : State) (view : Option View) (target : Fpr) (claims : List ClaimLine) (labels : List LabelLine)
        (uid : List ℕ) → IsClaimSpelled claims labels
        → (r : Reply) × Checks old view target claims labels uid r
    Checks-some old None target claims labels uid h = (replies.View, refl)
    Checks-some old (Some view) target claims labels uid h =
        by (check_some (question_in old view target uid) (map claim_in claims) (table_in labels)
        (spelled_table claims labels h))
      where
        by : (checked : Checked) × IsChecked (question_in old view target uid) (map claim_in claims) (table_in labels)
            checked
            → (r : Reply) × Checks old (Some view) target claims labels uid r
        by checked = (verdict_on claims checked.0, (checked.0, checked.1, refl))

    question_one : (old : State) (view : Option View) (question : ViewQuestion) (r s : Reply) → IsState old →
        AnswersQuestion old view question r → AnswersQuestion old view question s → r ≡ s
    question_one old view (questions.Ask target wanted uid) r s p a b = Asks-one old view target wanted uid r s p a b
    question_one old view (questions.List wanted) r s p a b = Lists-one old view wanted r s p a b
    question_one old view (questions.Explain fpr uid) r s p a b = a ∙ sym b
    question_one old view (questions.Absence target wanted uid) r s p a b =
        Misses-one old view target wanted uid r s p a b
    question_one old view (questions.Check target claims labels uid) r s p a b =
        Checks-one old view target claims labels uid r s p a b

    question_some : (old : State) (view : Option View) (question : ViewQuestion) → IsWanted question →
        (r : Reply) × AnswersQuestion old view question r
    question_some old view (questions.Ask target wanted uid) h = Asks-some old view target wanted uid h
    question_some old view (questions.List wanted) h = Lists-some old view wanted h
    question_some old view (questions.Explain fpr uid) h = (explained_from old view fpr uid, refl)
    question_some old view (questions.Absence target wanted uid) h = Misses-some old view target wanted uid h
    question_some old view (questions.Check target claims labels uid) h =
        Checks-some old view target claims labels uid h

    pub Does-one : (old : State) (command : StateCommand) (given : Served) → IsState old →
        IsOne Reply State (DoesTo rows old command given)
    Does-one old (kinds.Change change) given p = Gives-one (change_of rows old change)
    Does-one old (kinds.View view change) given p = Gives-one (view_change_of old view change)
    Does-one old (kinds.Question view question) given p =
        λ r s m n a b. (question_one old (view_at old.views view) question r s p a.0 b.0, a.1 ∙ sym b.1)
    Does-one old (kinds.Read what) given p = Gives-one (only old (reading old what))
    Does-one old (kinds.Shelf call) given p = Gives-one (call_of rows old call given)

    Does-some : (old : State) (command : StateCommand) (given : Served) → IsFit (OfState command) →
        IsSome Reply State (DoesTo rows old command given)
    Does-some old (kinds.Change change) given h = Gives-some (change_of rows old change)
    Does-some old (kinds.View view change) given h = Gives-some (view_change_of old view change)
    Does-some old (kinds.Question view question) given h =
        let answers = question_some old (view_at old.views view) question h in
        (answers.0, old, (answers.1, refl))
    Does-some old (kinds.Read what) given h = Gives-some (only old (reading old what))
    Does-some old (kinds.Shelf call) given h = Gives-some (call_of rows old call given)

    abbrev Lawful : Type 0
    Lawful = (s : State) (t : ℕ) (u : List ℕ) → IsState s → IsRecord (record_of s.held.certs s.held.verdicts t u)

    lawful_state : Lawful
    lawful_state s t u can = lawful s.held.certs s.held.verdicts t u can

    -- from the uniqueness of the reply, the state, the cursors and the watches
    whole_one : (old : Session) (class : Class) (given : Served) (r s : Reply) (m n : Session) →
        CommandStep rows old class given r m → CommandStep rows old class given s n
        → (r ≡ s) × (m.state ≡ n.state) × (m.cursors ≡ n.cursors) × (m.watches ≡ n.watches) → (r ≡ s) × (m ≡ n)
    whole_one old class given r s m n p q same =
        let held = counted_one old m n (ap (λ (x : State). x.held) same.1) p.counted q.counted in
        let revisions = turned_one class old.state.views m.state.views n.state.views old.revisions m.revisions n.revisions
        (ap (λ (x : State). x.views) same.1) p.turned q.turned in
        (same.0, whole_same m n same.1 held revisions same.2 same.3)

    Obeys-one : (old : Session) (class : Class) (given : Served) → IsState old.state →
        IsOne Reply Session (CommandStep rows old class given)
    Obeys-one old (OfState command) given can r s m n p q =
        let both = Does-one old.state command given can r s m.state n.state p.does q.does in
        whole_one old (OfState command) given r s m n p q
        (both.0, both.1, p.paces ∙ sym q.paces, p.watching ∙ sym q.watching)
    Obeys-one old (OfCursor name command) given can r s m n p q =
        let both = paces_one lawful_state list_some list_one old (OfCursor name command) refl can r s m.cursors
        n.cursors p.paces q.paces in
        whole_one old (OfCursor name command) given r s m n p q
        (both.0, p.does ∙ sym q.does, both.1, p.watching ∙ sym q.watching)
    Obeys-one old (OfWatch name command) given can r s m n p q =
        let both = watching_one answer_one lawful old (OfWatch name command) refl can r s m.watches n.watches p.watching
        q.watching in
        whole_one old (OfWatch name command) given r s m n p q
        (both.0, p.does ∙ sym q.does, p.paces ∙ sym q.paces, both.1)

    Obeys-some : (old : Session) (class : Class) (given : Served) → IsFit class →
        IsSome Reply Session (CommandStep rows old class given)
    Obeys-some old (OfState command) given h =
        let there = Does-some old.state command given h in
        let count = counted_some old there.1.held in
        let revisions = turned_some (OfState command) old.state.views there.1.views old.revisions in (
          there.0,
          record {
            state = there.1;
            changes = count.0;
            revisions = revisions.0;
            cursors = old.cursors;
            watches = old.watches;
          },
          record {
            does = there.2;
            counted = count.1;
            turned = revisions.1;
            paces = refl;
            watching = refl;
          },
        )
    Obeys-some old (OfCursor name command) given h =
        let there = paces_some lawful_state list_some list_one old (OfCursor name command) refl in (
          there.0,
          record old { cursors = there.1 },
          record {
            does = refl;
            counted = inl (refl, refl);
            turned = refl;
            paces = there.2;
            watching = refl;
          },
        )
    Obeys-some old (OfWatch name command) given h =
        let there = watching_some answer_some old (OfWatch name command) refl in (
          there.0,
          record old { watches = there.1 },
          record {
            does = refl;
            counted = inl (refl, refl);
            turned = refl;
            paces = refl;
            watching = there.2;
          },
        )

    Answers-one : (old : Session) (command : Option Command) (given : Served) → IsState old.state →
        IsOne Reply Session (ReadLineStep rows old command given)
    Answers-one old None given p = Stays-one old replies.Line
    Answers-one old (Some command) given p = Obeys-one old (class_of command) given p

    Answers-some : (old : Session) (line : List ℕ) (given : Served) →
        IsSome Reply Session (ReadLineStep rows old (command_of line) given)
    Answers-some old line given = by (command_of line) refl
      where
        by : (command : Option Command) → command_of line ≡ command →
            IsSome Reply Session (ReadLineStep rows old command given)
        by None e = Stays-some old replies.Line
        by (Some command) e = Obeys-some old (class_of command) given (fit_of command (wants line command e))

    pub LineStep-one : (old : Session) (line : List ℕ) (given : Served) → IsState old.state →
        IsOne (Option Reply) Session (LineStep rows old line given)
    LineStep-one old line given p =
        MatchBool-one (nat_lt longest (length line)) (HasReply (Stays old replies.Long))
        (λ r m. MatchBool (is_silent line) ((r ≡ None) × (m ≡ old))
        (HasReply (ReadLineStep rows old (command_of line) given) r m))
        (HasReply-one (Stays old replies.Long) (Stays-one old replies.Long))
        (MatchBool-one (is_silent line) (λ r m. (r ≡ None) × (m ≡ old))
        (HasReply (ReadLineStep rows old (command_of line) given)) (silent-one old)
        (HasReply-one (ReadLineStep rows old (command_of line) given) (Answers-one old (command_of line) given p)))

    pub LineStep-some : (old : Session) (line : List ℕ) (given : Served) →
        IsSome (Option Reply) Session (LineStep rows old line given)
    LineStep-some old line given =
        MatchBool-some (nat_lt longest (length line)) (HasReply (Stays old replies.Long))
        (λ r m. MatchBool (is_silent line) ((r ≡ None) × (m ≡ old))
        (HasReply (ReadLineStep rows old (command_of line) given) r m))
        (HasReply-some (Stays old replies.Long) (Stays-some old replies.Long))
        (MatchBool-some (is_silent line) (λ r m. (r ≡ None) × (m ≡ old))
        (HasReply (ReadLineStep rows old (command_of line) given)) (None, old, (refl, refl))
        (HasReply-some (ReadLineStep rows old (command_of line) given) (Answers-some old line given)))
