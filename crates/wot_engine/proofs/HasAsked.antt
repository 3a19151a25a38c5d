-- How often a run asked the policy: for the lines that were read, one after another.
use Rattle.std.proofs.Common.{◌≡◌, ◌≢◌, inl, inr, ℕ, List, [], ◌∷◌, ◌++◌, length, drop, Option, Some, None}
use Rattle.std.proofs.Common.{Result, Ok, refl, sym, ap, subst, ◌∙◌, arith}
use Rattle.std.proofs.Math.Seq.{drop-append_seam}
use Rattle.std.specs.Prelude.{is_ok}
use Rattle.wot_types.specs.Limits.{standard_limits}
use Rattle.wot_io.specs.Fill.{TakesLineOf, Stops}
use Rattle.wot_io.specs.Given as given
use Rattle.wot_io.specs.Input.{lines_of}
use Rattle.wot_io.specs.ReaderState.{ReaderState}
use Rattle.wot_io.specs.declared.lines.Line.{Line}
use Rattle.wot_io.specs.declared.lines.Line.TheVariants.{Text, Long, End}
use Rattle.wot_policy.specs.declared.policy.Policy.{Policy}
use Rattle.wot_policy.specs.declared.rows.PolicyRows.{PolicyRows}
use Rattle.wot_script.specs.declared.command.Command.{Command}
use Rattle.wot_script.specs.declared.reply.Reply.{Reply}
use Rattle.wot_certd.specs.World.{World}
use Rattle.wot_cache.specs.State.{Engine, State, empty}
use Rattle.wot_cursor.specs.Cursors.{Cursors}
use Rattle.wot_watch.specs.Watches.{Watches}
use Rattle.wot_command.specs.Asked.{LineAsks}
use Rattle.wot_plain.specs.Lines.{command_in_line}
use Rattle.wot_machine.specs.Machine.{Machine, kept}
use Rattle.wot_plain.specs.Scene.{Scene, opening}
use Rattle.wot_plain.specs.Transcript.{octets_of}
use Rattle.wot_plain.specs.Watching.{ReportsWatches}
use Rattle.wot_plain.specs.Session.{Session, beginning, watched, session_of}
use Rattle.wot_plain.proofs.DirectoryGives.{over}
use Rattle.wot_command.proofs.PolicyAskedByLine.{asks_as}
use Rattle.wot_plain.proofs.StepsByKind.{heard_long}
use Rattle.wot_engine.specs.RunAsks.{AsksBy, AsksFirst, AsksFor, AsksInTurn, AsksOnce, MayAsk, MayAskNext, command_by}
use Rattle.wot_engine.specs.RunAsks.{done, failed}
use Rattle.wot_engine.specs.Ends.{IsEither}
use Rattle.wot_engine.specs.LineReply.{Replies}
use Rattle.wot_engine.proofs.Progress.{Stands, begins, comes_next, starts_first, take-prefix}
use Rattle.wot_engine.proofs.Reached.{done_all, has_taken}
use Rattle.wot_engine.specs.Contents.{Contents, OnContents}
use Rattle.wot_engine.proofs.Contents.{is_now, uncalled}
use Rattle.wot_engine.proofs.Fresh.{fresh}
use Rattle.wot_engine.proofs.LineReplies.{turned, wrote}

-- ---- one line

module _ {F : Type 0} where
  -- a line that was read whole
  pub looked_at : {T E : Type 0} (r : Result T E) (line : Line) (text : List ℕ) (old new : State)
      (before after : Policy F) → line ≡ Text
      → LineAsks r (command_in_line text) old new before after → LineAsks r (command_by line text) old new before after
  looked_at r line text old new before after is a =
      subst (λ (l : Line). LineAsks r (command_by l text) old new before after) (sym is) a

  -- a line that was too long
  pub passed_over : {T E : Type 0} (r : Result T E) (line : Line) (text : List ℕ) (state : State) (policy : Policy F) →
      line ≡ Long → LineAsks r (command_by line text) state state policy policy
  passed_over r line text state policy is =
      subst (λ (l : Line). LineAsks r (command_by l text) state state policy policy) (sym is) refl

  -- a line for which memory ran out, or behind which it did
  pub may_ask : {T E : Type 0} (r : Result T E) (command : Option Command) (old new : State) (before after : Policy F)
      → LineAsks r command old new before after → MayAsk command before after
  may_ask r command old new before after a =
      (old, new, asks_as r failed (λ ok. absurd cc) command old new before after a)

  -- a line that was answered
  pub asks_done : {T E : Type 0} (r : Result T E) (x : T) (command : Option Command) (old new : State)
      (before after : Policy F) → r ≡ Ok x → LineAsks r command old new before after →
      LineAsks done command old new before after
  asks_done r x command old new before after is a =
      asks_as r done (λ ok. ap is_ok is) command old new before after a

  -- the watch lines after it ask nothing
  pub asks_behind : {T E : Type 0} (r : Result T E) (command : Option Command) (old : State) (mid new : Session)
      (reported : List Reply) (before after : Policy F) → ReportsWatches mid reported new
      → LineAsks r command old mid.state before after → LineAsks r command old new.state before after
  asks_behind r command old mid new reported before after t a =
      subst (λ (s : State). LineAsks r command old s before after) (sym (ap (λ (w : Session). w.state) t.left)) a

  -- ---- one line after another

  pub asks_more : (rows : PolicyRows) (lines : List (List ℕ)) (line : List ℕ) (old mid new : Scene)
      (first before after : Policy F)
      → AsksInTurn rows lines old first mid before → AsksOnce rows line mid before new after →
      AsksInTurn rows (lines ++ line ∷ []) old first new after
  asks_more rows [] line old mid new first before after a once = record {
    mid = new;
    between = after;
    once = subst (λ (p : Policy F). AsksOnce rows line old p new after) a.1
        (subst (λ (s : Scene). AsksOnce rows line s before new after) a.0 once);
    follows = (refl, refl);
  }
  asks_more rows (other ∷ lines) line old mid new first before after a once = record {
    mid = a.mid;
    between = a.between;
    once = a.once;
    follows = asks_more rows lines line a.mid mid new a.between before after a.follows once;
  }

-- ---- where a run stands

module _ {F : Type 0} (rows : PolicyRows) (start : Policy F) (origin : Option World) where
  -- the policy was asked for the lines that were read
  pub record IsAsked (contents : Contents) (held : List ℕ) (taken : ℕ) (left : Option (List ℕ)) (shelf : Option World)
      (state : Session) (policy : Policy F) : Type 0 where
    pub written : Option (List ℕ)
    pub stands : Stands rows origin contents held taken left written shelf state
    pub asked : AsksInTurn rows stands.done (opening contents.world) start (over state stands.now) policy

  abbrev pub HasAsked : Option (List ℕ) → Option (List ℕ) → List ℕ → ℕ → Option (List ℕ) → Option World → Session →
      Policy F → Type 0
  HasAsked left0 written0 held taken left shelf state policy =
      OnContents left0 written0 origin (λ contents. IsAsked contents held taken left shelf state policy)

  pub HasAsked-init : (left written : Option (List ℕ)) → HasAsked left written [] 0 left origin beginning start
  HasAsked-init left written contents known =
      let s = starts_first rows origin contents left (Some contents.written) origin known.source_is refl (is_now origin
      contents known.shelf_is) in
      let none : AsksInTurn rows [] (opening contents.world) start (over beginning contents.world) start = (refl, refl)
      in
      record {
        written = Some contents.written;
        stands = s.0;
        asked = subst (λ (w : World). AsksInTurn rows s.0.done (opening contents.world) start (over beginning w) start)
            (sym s.2)
            (subst (λ (ls : List (List ℕ)). AsksInTurn rows ls (opening contents.world) start (over beginning
            contents.world) start)
            (sym s.1) none);
      }

  -- a line was read and answered
  pub HasAsked-line : (left0 written0 : Option (List ℕ)) (old : ReaderState) (left : Option (List ℕ))
      (shelf : Option World) (state : Session) (policy : Policy F) (new : ReaderState) (left' : Option (List ℕ))
      (shelf' : Option World) (state' : Session) (policy' : Policy F) (line : Line) (octets : List ℕ)
      → HasAsked left0 written0 old.held old.taken left shelf state policy →
      given.ReturnsNext line old left new left' → Replies rows line new.text state shelf octets state' shelf'
      → LineAsks done (command_by line new.text) state.state state'.state policy policy' →
      HasAsked left0 written0 new.held new.taken left' shelf' state' policy'
  HasAsked-line left0 written0 old left shelf state policy new left' shelf' state' policy' line octets there g r asks
      contents known =
      let a = there contents known in
      let t = turned rows origin contents old left a.written shelf state new left' shelf' state' line octets
      (uncalled origin contents known.shelf_is) a.stands g r in
      let on = wrote rows origin contents old.held old.taken left a.written shelf state (command_by line new.text)
      new.held new.taken left' octets shelf' state' (Some ((contents.written ++ octets_of a.stands.replies) ++ octets))
      a.stands t refl in
      let once : AsksOnce rows t.line (over state a.stands.now) policy (over state' t.next) policy' = record {
        reply = t.reply;
        reported = t.reported;
        step = t.step;
        asked = subst (λ (c : Option Command). LineAsks done c state.state state'.state policy policy') (sym t.heard_is)
            asks;
      } in
      let more = asks_more rows a.stands.done t.line (opening contents.world) (over state a.stands.now) (over state'
      t.next)
      start policy policy' a.asked once in
      record {
        written = Some ((contents.written ++ octets_of a.stands.replies) ++ octets);
        stands = on.0;
        asked = subst (λ (w : World). AsksInTurn rows on.0.done (opening contents.world) start (over state' w) policy')
            (sym on.2)
            (subst (λ (ls : List (List ℕ)). AsksInTurn rows ls (opening contents.world) start (over state' t.next)
            policy')
            (sym on.1) more);
      }

  -- ---- what was asked in all

  all_of : (contents : Contents) (held : List ℕ) (taken : ℕ) (left : Option (List ℕ)) (shelf : Option World)
      (state : Session) (policy : Policy F) (lines : List (List ℕ)) →
      (a : IsAsked contents held taken left shelf state policy) → lines ≡ a.stands.done →
      AsksFor rows contents.world lines start policy
  all_of contents held taken left shelf state policy lines a e =
      record { last = over state a.stands.now; in_turn = rw e a.asked }

  first_of : (contents : Contents) (held : List ℕ) (taken : ℕ) (left : Option (List ℕ)) (shelf : Option World)
      (state : Session) (policy after : Policy F) → (a : IsAsked contents held taken left shelf state policy) →
      MayAskNext (drop (length a.stands.done) (lines_of contents.input)) policy after →
      AsksFirst rows contents start after
  first_of contents held taken left shelf state policy after a next =
      let m = begins rows origin contents held taken left a.written shelf state a.stands in
      record {
        count = length a.stands.done;
        between = policy;
        asked = all_of contents held taken left shelf state policy _ a
            (take-prefix rows origin contents (lines_of contents.input) a.stands.done m.0 m.1);
        next = next;
      }

  nothing_next : (lines : List (List ℕ)) (policy : Policy F) → MayAskNext lines policy policy
  nothing_next [] policy = refl
  nothing_next (line ∷ lines) policy = inl refl

  -- ---- how the run ended

  neither : (status : ℕ) → IsEither 4 5 status → IsEither 3 6 status → ⊥
  neither status is some = elim is [
    | inl e ↦ elim some [ inl f ↦ absurd (omega (arith, e, f)) | inr f ↦ absurd (omega (arith, e, f)) ]
    | inr e ↦ elim some [ inl f ↦ absurd (omega (arith, e, f)) | inr f ↦ absurd (omega (arith, e, f)) ]
  ]

  not_zero : (status : ℕ) → IsEither 4 5 status → status ≡ 0 → ⊥
  not_zero status is zero =
      elim is [ inl e ↦ absurd (omega (arith, e, zero)) | inr e ↦ absurd (omega (arith, e, zero)) ]

  first_alone : (status : ℕ) (contents : Contents) (left : Option (List ℕ)) (after : Policy F) →
      IsEither 4 5 status → AsksFirst rows contents start after →
      AsksBy status rows contents left start after
  first_alone status contents left after is first = record {
    all = λ zero. absurd (not_zero status is zero);
    taken = λ some. absurd (neither status is some);
    first = first;
  }

  -- between two lines
  pub asks_between : (status : ℕ) (left0 written0 : Option (List ℕ)) (held : List ℕ) (taken : ℕ)
      (left : Option (List ℕ)) (shelf : Option World) (state : Session) (policy : Policy F) (left' : Option (List ℕ))
      → IsEither 4 5 status → HasAsked left0 written0 held taken left shelf state policy
      → OnContents left0 written0 origin (λ contents. AsksBy status rows contents left' start policy)
  asks_between status left0 written0 held taken left shelf state policy left' is there contents known =
      let a = there contents known in
      first_alone status contents left' policy
      is (first_of contents held taken left shelf state policy policy a (nothing_next _ policy))

  -- the line that was read is the next one
  next_is : (contents : Contents) (held : List ℕ) (taken : ℕ) (left : Option (List ℕ)) (shelf : Option World)
      (state : Session) (policy after : Policy F) (held' : List ℕ) (taken' : ℕ) (left' : Option (List ℕ))
      (line : List ℕ) (command : Option Command) → (a : IsAsked contents held taken left shelf state policy)
      → TakesLineOf held a.stands.rest taken held' left' taken' line → command_in_line line ≡ command → MayAsk command policy
      after
      → MayAskNext (drop (length a.stands.done) (lines_of contents.input)) policy after
  next_is contents held taken left shelf state policy after held' taken' left' line command a g e may =
      let rest : List (List ℕ) = lines_of (held' ++ g.rest) in
      let is : drop (length a.stands.done) (lines_of contents.input) ≡ line ∷ rest =
      ap (drop (length a.stands.done)) (comes_next rows origin contents held taken left a.written shelf state
      held' taken' left' line a.stands g) ∙ drop-append_seam a.stands.done (line ∷ rest) in
      let there : MayAskNext (line ∷ rest) policy after =
      inr (subst (λ (c : Option Command). MayAsk c policy after) (sym e) may) in
      subst (λ (ls : List (List ℕ)). MayAskNext ls policy after) (sym is) there

  next_of : (contents : Contents) (old : ReaderState) (left : Option (List ℕ)) (shelf : Option World)
      (state : Session) (policy after : Policy F) (new : ReaderState) (left' : Option (List ℕ)) (line : Line)
      → (a : IsAsked contents old.held old.taken left shelf state policy) → given.ReturnsNext line old left new left'
      → line ≢ End → MayAsk (command_by line new.text) policy after
      → MayAskNext (drop (length a.stands.done) (lines_of contents.input)) policy after
  next_of contents old left shelf state policy after new left' Text a g some may =
      let g' = rw a.stands.left_is at g in
      next_is contents old.held old.taken left shelf state policy after new.held new.taken left' new.text
      (command_in_line new.text) a g'.0 refl may
  next_of contents old left shelf state policy after new left' Long a g some may =
      let g' = rw a.stands.left_is at g in
      next_is contents old.held old.taken left shelf state policy after new.held new.taken left' g'.0 None a g'.2
      (heard_long g'.0 g'.1) may
  next_of contents old left shelf state policy after new left' End a g some may = absurd (some refl)

  -- memory ran out for the line that was read
  pub asks_cut : (status : ℕ) (left0 written0 : Option (List ℕ)) (old : ReaderState) (left : Option (List ℕ))
      (shelf : Option World) (state : Session) (policy after : Policy F) (new : ReaderState) (left' : Option (List ℕ))
      (line : Line)
      → IsEither 4 5 status → HasAsked left0 written0 old.held old.taken left shelf state policy
      → given.ReturnsNext line old left new left' → line ≢ End → MayAsk (command_by line new.text) policy after
      → OnContents left0 written0 origin (λ contents. AsksBy status rows contents left' start after)
  asks_cut status left0 written0 old left shelf state policy after new left' line is there g some may contents known =
      let a = there contents known in
      first_alone status contents left' after
      is (first_of contents old.held old.taken left shelf state policy after a
      (next_of contents old left shelf state policy after new left' line a g some may))

  -- at the end of the input
  pub asks_end : (left0 written0 : Option (List ℕ)) (old : ReaderState) (left : Option (List ℕ))
      (shelf : Option World) (state : Session) (policy : Policy F) (new : ReaderState) (left' : Option (List ℕ))
      → HasAsked left0 written0 old.held old.taken left shelf state policy → given.ReturnsNext End old left new left'
      → OnContents left0 written0 origin (λ contents. AsksBy 0 rows contents left' start policy)
  asks_end left0 written0 old left shelf state policy new left' there g contents known =
      let a = there contents known in
      let g' = rw a.stands.left_is at g in
      let whole = done_all rows origin contents old.held old.taken left a.written shelf state a.stands g'.0.0
      g'.0.1 in
      record {
        all = λ zero. all_of contents old.held old.taken left shelf state policy _ a whole;
        taken = λ some. absurd (elim some [ inl e ↦ omega (arith, e) | inr e ↦ omega (arith, e) ]);
        first = first_of contents old.held old.taken left shelf state policy policy a (nothing_next _ policy);
      }

  -- after a failed read, or after 2 ^ 30 octets
  pub asks_stop : (status : ℕ) (left0 written0 : Option (List ℕ)) (held : List ℕ) (taken : ℕ)
      (left : Option (List ℕ)) (shelf : Option World) (state : Session) (policy : Policy F) (left' : Option (List ℕ))
      (taken' : ℕ)
      → IsEither 3 6 status → HasAsked left0 written0 held taken left shelf state policy
      → Stops held left taken left' taken'
      → OnContents left0 written0 origin (λ contents. AsksBy status rows contents left' start policy)
  asks_stop status left0 written0 held taken left shelf state policy left' taken' is there t contents known =
      let a = there contents known in
      let t' = rw a.stands.left_is at t in
      let has = has_taken rows origin contents held taken left a.written shelf state left' taken' a.stands t' in
      record {
        all = λ zero. absurd (elim is [ inl e ↦ omega (arith, e, zero) | inr e ↦ omega (arith, e, zero) ]);
        taken = λ some. record {
          octets = has.octets;
          taken = has.taken;
          asked = elim has.lines [
            | inl whole ↦ inl (all_of contents held taken left shelf state policy _ a whole)
            | inr ended ↦ inr (ended.0, all_of contents held taken left shelf state policy _ a ended.1)
          ];
        };
        first = first_of contents held taken left shelf state policy policy a (nothing_next _ policy);
      }

  -- before the first line
  pub asks_nothing : (left written : Option (List ℕ)) (lines : ReaderState) (machine : Machine)
      → lines ≡ fresh → machine.engine ≡ empty standard_limits → machine.cursors ≡ [] → machine.watches ≡ []
      → HasAsked left written lines.held lines.taken left origin (kept machine) start
  asks_nothing left written lines machine e m k w =
      let same : beginning ≡ kept machine =
      sym (ap (λ (x : Engine). watched (session_of x machine.cursors) machine.watches) m
      ∙ ap (λ (cs : Cursors). watched (session_of (empty standard_limits) cs) machine.watches) k
      ∙ ap (λ (ws : Watches). watched (session_of (empty standard_limits) []) ws) w) in
      subst (λ (r : ReaderState). HasAsked left written r.held r.taken left origin (kept machine) start) (sym e)
      (subst (λ (s : Session). HasAsked left written [] 0 left origin s start) same (HasAsked-init left written))
