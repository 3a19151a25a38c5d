-- Machines with the same state have the same replies, except to commands of cursors and watches.
use Rattle.std.proofs.Common.{◌≡◌, ℕ, Bool, true, false, List, [], ◌∷◌, length, Option, Some, None, refl, sym, ap}
use Rattle.std.proofs.Common.{subst, ◌∙◌}
use Rattle.std.specs.Prelude.{MatchBool, nat_lt}
use Rattle.wot_policy.specs.declared.rows.PolicyRows.{PolicyRows}
use Rattle.wot_script.specs.declared.command.Command.{Command}
use Rattle.wot_script.specs.declared.reply.Reply.{Reply}
use Rattle.wot_script.specs.declared.reply.Reply.TheVariants as replies
use Rattle.wot_script.specs.Grammar.{command_of}
use Rattle.wot_certd.specs.World.{World}
use Rattle.wot_keyring.specs.Dump.{judged_by}
use Rattle.wot_cache.specs.State.{IsState, State}
use Rattle.wot_plain.specs.declared.class.Class.{Class}
use Rattle.wot_plain.specs.declared.class.Class.TheVariants.{State as OfState, Cursor as OfCursor, Watch as OfWatch}
use Rattle.wot_plain.specs.declared.class.StateCommand.{StateCommand}
use Rattle.wot_plain.specs.Classes.{class_of}
use Rattle.wot_plain.specs.Entry.{Use, entry_for, given_by, put_for, use_of, world_after}
use Rattle.wot_plain.specs.Fresh.{IsMadeAnew}
use Rattle.wot_laws.specs.GoesOn.{HaveSameReplies, is_of_state}
use Rattle.wot_plain.specs.Classes.{is_own}
use Rattle.wot_laws.specs.Exchanges.{Exchange, Passes, lines_in}
use Rattle.wot_laws.specs.OneLine.{LeadToStates}
use Rattle.wot_plain.specs.Lines.{command_in_line, is_silent, longest}
use Rattle.wot_plain.specs.LineStep.{ReadLineStep, DoesTo, HasReply, LineStep, CommandStep, Stays}
use Rattle.wot_plain.specs.Scene.{Scene, Step, opening, served_in, world_behind}
use Rattle.wot_plain.specs.Served.{Served}
use Rattle.wot_plain.specs.Transcript.{Run}
use Rattle.wot_plain.specs.Session.{Session}
use Rattle.wot_laws.proofs.Reached.{reached_can_be}
use Rattle.wot_laws.proofs.Outcomes.{IsOne}

module _
    (rows : PolicyRows)
    (does_one : (s : State) (command : StateCommand) (given : Served) → IsState s
    → IsOne Reply State (DoesTo rows s command given))
    (stays : LeadToStates rows)
  where
    -- the outcomes of a line in two machines
    abbrev AreSame : Option Command → Option Reply → Option Reply → State → State → Type 0
    AreSame command r s m n = (is_of_state command ≡ true → r ≡ s) × (m ≡ n)

    -- ---- one line

    same_obeyed : (a b : Session) (class : Class) (given : Served) (r s : Reply) (m n : Session) → IsState a.state →
        b.state ≡ a.state
        → CommandStep rows a class given r m → CommandStep rows b class given s n →
        (is_own class ≡ true → Some r ≡ Some s) × (m.state ≡ n.state)
    same_obeyed a b (OfState command) given r s m n can e p q =
        let moved : DoesTo rows a.state command given s n.state =
        subst (λ (x : State). DoesTo rows x command given s n.state) e q.does in
        let both = does_one a.state command given can r s m.state n.state p.does moved in
        (λ own. ap (λ (x : Reply). Some x) both.0, both.1)
    same_obeyed a b (OfCursor name command) given r s m n can e p q =
        (λ own. absurd (cc own), p.does ∙ sym e ∙ sym q.does)
    same_obeyed a b (OfWatch name command) given r s m n can e p q =
        (λ own. absurd (cc own), p.does ∙ sym e ∙ sym q.does)

    same_answers : (a b : Session) (command : Option Command) (given : Served) (r s : Option Reply) (m n : Session) →
        IsState a.state → b.state ≡ a.state
        → HasReply (ReadLineStep rows a command given) r m → HasReply (ReadLineStep rows b command given) s n →
        AreSame command r s m.state n.state
    same_answers a b command given None s m n can e p q = absurd p
    same_answers a b command given (Some r) None m n can e p q = absurd q
    same_answers a b None given (Some r) (Some s) m n can e p q = (
      λ own. ap (λ (x : Reply). Some x) (p.0 ∙ sym q.0),
      ap (λ (x : Session). x.state) p.1 ∙ sym e ∙ sym (ap (λ (x : Session). x.state) q.1),
    )
    same_answers a b (Some command) given (Some r) (Some s) m n can e p q =
        same_obeyed a b (class_of command) given r s m n can e p q

    same_refused : (a b : Session) (told : Reply) (command : Option Command) (r s : Option Reply) (m n : Session) →
        b.state ≡ a.state
        → HasReply (Stays a told) r m → HasReply (Stays b told) s n → AreSame command r s m.state n.state
    same_refused a b told command None s m n e p q = absurd p
    same_refused a b told command (Some r) None m n e p q = absurd q
    same_refused a b told command (Some r) (Some s) m n e p q = (
      λ own. ap (λ (x : Reply). Some x) (p.0 ∙ sym q.0),
      ap (λ (x : Session). x.state) p.1 ∙ sym e ∙ sym (ap (λ (x : Session). x.state) q.1),
    )

    same_line : (a b : Session) (line : List ℕ) (given : Served) (r s : Option Reply) (m n : Session) → IsState a.state →
        b.state ≡ a.state
        → LineStep rows a line given r m → LineStep rows b line given s n → AreSame (command_in_line line) r s m.state n.state
    same_line a b line given r s m n can e p q = long (nat_lt longest (length line)) refl p q
      where
        silent : nat_lt longest (length line) ≡ false → (c : Bool) → is_silent line ≡ c
            → MatchBool c ((r ≡ None) × (m ≡ a)) (HasReply (ReadLineStep rows a (command_of line) given) r m)
            → MatchBool c ((s ≡ None) × (n ≡ b)) (HasReply (ReadLineStep rows b (command_of line) given) s n)
            → AreSame (command_in_line line) r s m.state n.state
        silent f true g p q = (
          λ own. p.0 ∙ sym q.0,
          ap (λ (x : Session). x.state) p.1 ∙ sym e ∙ sym (ap (λ (x : Session). x.state) q.1),
        )
        silent f false g p q =
            let is : command_in_line line ≡ command_of line = rw f (rw g refl) in
            subst (λ (c : Option Command). AreSame c r s m.state n.state) (sym is)
            (same_answers a b (command_of line) given r s m n can e p q)

        long : (c : Bool) → nat_lt longest (length line) ≡ c
            → MatchBool c (HasReply (Stays a replies.Long) r m) (MatchBool (is_silent line) ((r ≡ None) × (m ≡ a))
            (HasReply (ReadLineStep rows a (command_of line) given) r m))
            → MatchBool c (HasReply (Stays b replies.Long) s n) (MatchBool (is_silent line) ((s ≡ None) × (n ≡ b))
            (HasReply (ReadLineStep rows b (command_of line) given) s n))
            → AreSame (command_in_line line) r s m.state n.state
        long true f p q = same_refused a b replies.Long (command_in_line line) r s m n e p q
        long false f p q = silent f (is_silent line) refl p q

    -- ---- with the certificate directory

    same_step : (a b : Scene) (line : List ℕ) (r s : Option Reply) (told others : List Reply) (m n : Scene) →
        IsState a.whole.state
        → b.whole.state ≡ a.whole.state → b.world ≡ a.world → Step rows a line r told m → Step rows b line s others n
        → (is_of_state (command_in_line line) ≡ true → r ≡ s) × (n.whole.state ≡ m.whole.state) × (n.world ≡ m.world) × IsState
        m.whole.state
    same_step a b line r s told others m n can e w p q =
        let use_ : Use = use_of (command_in_line line) in
        let given : served_in b use_ ≡ served_in a use_ = λ i. given_by (w i) (entry_for (e i) use_) in
        let does : LineStep rows b.whole line (served_in a use_) s q.mid =
        subst (λ (x : Served). LineStep rows b.whole line x s q.mid) given q.does in
        let both = same_line a.whole b.whole line (served_in a use_) r s p.mid q.mid can e p.does does in
        let world : world_behind b use_ ≡ world_behind a use_ =
        λ i. world_after (w i) (entry_for (e i) use_) (put_for (e i) use_ (given i).read) in
        let mine : m.whole.state ≡ p.mid.state = ap (λ (x : Session). x.state) p.tells.left in
        let theirs : n.whole.state ≡ q.mid.state = ap (λ (x : Session). x.state) q.tells.left in (
          both.0,
          theirs ∙ sym both.1 ∙ sym mine,
          q.world ∙ world ∙ sym p.world,
          subst IsState (sym mine) (stays a.whole line (served_in a use_) r p.mid can p.does),
        )

    first_line : (x y : List ℕ) (xs ys : List (List ℕ)) → x ∷ xs ≡ y ∷ ys → (x ≡ y) × (xs ≡ ys)
    first_line x y xs ys e = (cc, cc)

    goes_on : (mine theirs : List Exchange) (a b m n : Scene) → IsState a.whole.state → b.whole.state ≡ a.whole.state →
        b.world ≡ a.world
        → Passes rows a mine m → Passes rows b theirs n → lines_in mine ≡ lines_in theirs → HaveSameReplies mine theirs
    goes_on [] [] a b m n can e w p q lines = tt
    goes_on [] (f ∷ fs) a b m n can e w p q lines = absurd (cc lines)
    goes_on (x ∷ xs) [] a b m n can e w p q lines = absurd (cc lines)
    goes_on (x ∷ xs) (f ∷ fs) a b m n can e w p q lines =
        let parts = first_line x.line f.line (lines_in xs) (lines_in fs) lines in
        let step : Step rows b x.line f.reply f.reported q.0 = subst (λ (l : List ℕ). Step rows b l f.reply f.reported q.0)
        (sym parts.0) q.1 in
        let one = same_step a b x.line x.reply f.reply x.reported f.reported p.0 q.0 can e w p.1 step in
        (one.0, goes_on xs fs p.0 q.0 m n one.3 one.1 one.2 p.2 q.2 parts.1)

    -- ---- after a dump

    pub fresh_goes_on : (world : World) (lines : List (List ℕ)) (told : List Reply) (last : Scene) →
        Run rows (opening world) lines told last
        → judged_by rows last.whole.state.held ≡ last.whole.state.held →
        (anew : IsMadeAnew rows last.whole.state) (mine theirs : List Exchange) (here there : Scene)
        → Passes rows last mine here → Passes rows (record { whole = anew.new; world = last.world }) theirs there
        → lines_in mine ≡ lines_in theirs → HaveSameReplies mine theirs
    fresh_goes_on world lines told last run marked anew mine theirs here there p q same =
        let held = anew.same.held ∙ marked in
        let state : anew.new.state ≡ last.whole.state = λ i. record { held = held i; views = anew.same.views i } in
        goes_on mine theirs last (record { whole = anew.new; world = last.world }) here there
        (reached_can_be rows world lines told last run) state refl p q same
