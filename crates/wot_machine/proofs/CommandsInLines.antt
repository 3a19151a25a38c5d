-- Commands that were run, and the lines that contain them.
use Rattle.std.proofs.Common.{◌≡◌, ℕ, ◌+◌, ◌<◌, ◌≤◌, true, false, List, ◌++◌, Option, Some, None, Result, Ok, Err}
use Rattle.std.proofs.Common.{OnErr, length, refl, sym, ap, subst, ◌∙◌, inl}
use Rattle.std.specs.Prelude.{IfOk, OnOk, is_ok}
use Rattle.std.proofs.lemmas.Bool.{false≢true, true≢false}
use Rattle.std.proofs.lemmas.List.{append-nil}
use Rattle.wot_io.specs.Counts.{Rose}
use Rattle.wot_policy.specs.declared.rows.PolicyRows.{PolicyRows}
use Rattle.wot_script.specs.declared.command.Command.{Command}
use Rattle.wot_script.specs.declared.reply.Reply.{Reply}
use Rattle.wot_script.specs.declared.reply.Reply.TheVariants as replies
use Rattle.wot_script.specs.Replies.{reply_text}
use Rattle.wot_certd.specs.declared.shelf.Given.TheVariants.{Long}
use Rattle.wot_cache.specs.State.{Engine, State, StaysButMarks, state_of}
use Rattle.wot_keyring_spec.specs.Keyring.{Keyring}
use Rattle.wot_plain.specs.declared.class.Class.{Class}
use Rattle.wot_plain.specs.declared.class.Class.TheVariants.{State as OfState}
use Rattle.wot_plain.specs.declared.class.StateCommand.{StateCommand}
use Rattle.wot_plain.specs.declared.draft.CursorMove.{CursorMove}
use Rattle.wot_plain.specs.declared.draft.DraftReply.{DraftReply}
use Rattle.wot_cursor.specs.Cursors.{Cursors}
use Rattle.wot_watch.specs.Watches.{Watches}
use Rattle.wot_keyring_spec.specs.Import.{IsOneChange}
use Rattle.wot_plain.specs.Watching.{AreLines, ReportsWatches, Watching, is_watching, told_all}
use Rattle.wot_plain.specs.Session.{RevisedBy, Session, watched, session_of}
use Rattle.wot_plain.specs.Entry.{IsServed, Use, has_failed, put_for, unused, use_by, use_of}
use Rattle.wot_plain.specs.Lines.{command_in_line, is_silent, longest}
use Rattle.wot_plain.specs.LineStep.{ReadLineStep, StateStep, LineStep, CommandStep}
use Rattle.wot_command.specs.CommandRun.{StateRun, CommandRun, ClassRun, Seen}
use Rattle.wot_plain.specs.Served.{Served, unserved}
use Rattle.wot_machine.specs.Stepped.{Replied, Stepped, TellsBehind}
use Rattle.wot_plain.specs.Pacing.{Paces, is_pacing, settled}
use Rattle.wot_plain.specs.Transcript.{octets_of}
use Rattle.wot_plain.proofs.EdgesMadeByLine.{same_state}
use Rattle.wot_plain.proofs.Paced.{paces_plain, paces_watched, state_paced, turns_paced, uncalled_paced}
use Rattle.wot_plain.proofs.Watched.{paced_unwatched, state_watched, turns_watched, uncalled_watched, watched_unpaced}
use Rattle.wot_plain.proofs.Watched.{watching_plain}
use Rattle.wot_plain.proofs.StepsByKind.{heard_long, heard_silent, one_reply, passed_over, too_long}
use Rattle.wot_plain.proofs.Sessions.{counted_by, same_few, turned_few, turned_still}
use Rattle.wot_command.proofs.Calling.{idle, idle_by, never_failed}

-- ---- commands that don't use the certificate directory

ran_uncalled : (rows : PolicyRows) (command : Option Command) (old : Session) (seen : Seen) (reply : Reply)
    (new : Session) → use_of command ≡ unused
    → ReadLineStep rows old command unserved reply new → CommandRun rows command old seen reply new seen
ran_uncalled rows command old seen reply new none answers = record {
  given = unserved;
  answers = answers;
  served = idle_by old.state (use_of command) seen.world none;
  cause = λ f. absurd (never_failed old.state (use_of command) none f);
}

-- a command that doesn't use the directory, in terms of everything that is kept
pub ran_alone : (rows : PolicyRows) (class : Class) (old : Session) (seen : Seen) (reply : Reply) (new : Session) →
    use_by class ≡ unused
    → CommandStep rows old class unserved reply new → ClassRun rows class old seen reply new seen
ran_alone rows class old seen reply new none obeys = record {
  given = unserved;
  answers = obeys;
  served = idle_by old.state (use_by class) seen.world none;
  cause = λ f. absurd (never_failed old.state (use_by class) none f);
}

-- a command of a cursor
pub paced_ran : {E : Type 0} (r : Result DraftReply E) (rows : PolicyRows) (class : Class) (old new : Engine)
    (before after : Cursors) (watches : Watches) (seen : Seen)
    → is_pacing class ≡ true → StaysButMarks old new →
    IfOk r (λ (told : DraftReply). Paces (session_of old before) class told.reply (settled told.moved after))
    → IfOk r (λ (told : DraftReply). ClassRun rows class (watched (session_of old before) watches) seen told.reply
    (watched (session_of new (settled told.moved after)) watches) seen)
paced_ran (Err e) rows class old new before after watches seen pacing stays paces = tt
paced_ran (Ok told) rows class old new before after watches seen pacing stays paces =
    let same : state_of new ≡ state_of old = same_state old new stays in
    ran_alone rows class (watched (session_of old before) watches) seen told.reply
    (watched (session_of new (settled told.moved after)) watches)
    (uncalled_paced class pacing) (record {
      does = subst (λ (s : State). StateStep rows (state_of old) class unserved told.reply s) (sym same)
          (state_paced rows (state_of old) class unserved told.reply pacing);
      counted = inl (ap (λ (s : State). s.held) same, ap (λ (k : Keyring). k.changes) stays.keyring);
      turned = turns_paced class old.views new.views old.revisions new.revisions pacing stays.revisions;
      paces = paces_watched (session_of old before) watches class told.reply (settled told.moved after) pacing paces;
      watching = watching_plain (watched (session_of old before) watches) class told.reply
          (paced_unwatched class pacing);
    })

-- a command of a watch
watched_ran : (rows : PolicyRows) (class : Class) (old new : Engine) (cursors : Cursors) (before after : Watches)
    (seen : Seen) (reply : Reply) → is_watching class ≡ true
    → StaysButMarks old new → Watching (watched (session_of old cursors) before) class reply after
    → ClassRun rows class (watched (session_of old cursors) before) seen reply (watched (session_of new cursors) after)
    seen
watched_ran rows class old new cursors before after seen reply watching stays puts =
    let same : state_of new ≡ state_of old = same_state old new stays in
    ran_alone rows class (watched (session_of old cursors) before) seen reply (watched (session_of new cursors) after)
    (uncalled_watched class watching) (record {
      does = subst (λ (s : State). StateStep rows (state_of old) class unserved reply s) (sym same)
          (state_watched rows (state_of old) class unserved reply watching);
      counted = inl (ap (λ (s : State). s.held) same, ap (λ (k : Keyring). k.changes) stays.keyring);
      turned = turns_watched class old.views new.views old.revisions new.revisions watching stays.revisions;
      paces = paces_plain (watched (session_of old cursors) before) class reply (watched_unpaced class watching);
      watching = puts;
    })

-- a command of a watch, with a reply by itself
pub watched_told : {E : Type 0} (r : Result Reply E) (t : Result DraftReply E) (rows : PolicyRows) (class : Class)
    (old new : Engine) (cursors : Cursors) (before after : Watches)
    (seen : Seen) → IfOk r (λ reply. t ≡ Ok (record { reply = reply; moved = None })) → is_ok t ≡ is_ok r →
    is_watching class ≡ true → StaysButMarks old new
    → IfOk r (λ reply. Watching (watched (session_of old cursors) before) class reply after)
    → IfOk t (λ (told : DraftReply). ClassRun rows class (watched (session_of old cursors) before) seen told.reply
    (watched (session_of new (settled told.moved cursors)) after) seen)
watched_told (Err e) (Err d) rows class old new cursors before after seen is ok watching stays puts = tt
watched_told (Err e) (Ok told) rows class old new cursors before after seen is ok watching stays puts =
    absurd (true≢false ok)
watched_told (Ok reply) t rows class old new cursors before after seen is ok watching stays puts =
    subst (λ (t : Result DraftReply _). IfOk t (λ (told : DraftReply). ClassRun rows class
    (watched (session_of old cursors) before) seen told.reply
    (watched (session_of new (settled told.moved cursors)) after) seen))
    (sym is) (watched_ran rows class old new cursors before after seen reply watching stays puts)

-- a change of the state, in terms of everything that is kept
pub ran_plain : {E : Type 0} (r : Result Reply E) (rows : PolicyRows) (command : StateCommand) (old new : Engine)
    (before after : Seen) (cursors : Cursors) (watches : Watches)
    → IsOneChange old.keyring new.keyring →
    OnOk r (RevisedBy (OfState command) old.views old.revisions new.views new.revisions)
    → IfOk r (λ reply. StateRun rows command (state_of old) before reply (state_of new) after)
    → IfOk r (λ reply. ClassRun rows (OfState command) (watched (session_of old cursors) watches) before reply
    (watched (session_of new cursors) watches) after)
ran_plain (Err e) rows command old new before after cursors watches counted turned did = tt
ran_plain (Ok reply) rows command old new before after cursors watches counted turned did = record {
  given = did.given;
  answers = record {
    does = did.answers;
    counted = counted_by old new cursors cursors counted;
    turned = turned;
    paces = refl;
    watching = refl;
  };
  served = did.served;
  cause = did.cause;
}

module _ {E : Type 0} where
  pub ran_told : (r : Result Reply E) (t : Result DraftReply E) (rows : PolicyRows) (command : StateCommand) (old new : Engine)
      (before after : Seen) (cursors : Cursors) (watches : Watches)
      → IfOk r (λ reply. t ≡ Ok (record { reply = reply; moved = None })) → is_ok t ≡ is_ok r
      → IsOneChange old.keyring new.keyring → OnOk r (RevisedBy (OfState command) old.views old.revisions new.views new.revisions)
      → IfOk r (λ reply. StateRun rows command (state_of old) before reply (state_of new) after)
      → IfOk t (λ (told : DraftReply). ClassRun rows (OfState command) (watched (session_of old cursors) watches) before told.reply
      (watched (session_of new (settled told.moved cursors)) watches) after)
  ran_told (Err e) (Err d) rows command old new before after cursors watches is ok counted turned did = tt
  ran_told (Err e) (Ok told) rows command old new before after cursors watches is ok counted turned did =
      absurd (true≢false ok)
  ran_told (Ok reply) t rows command old new before after cursors watches is ok counted turned did =
      let ran : ClassRun rows (OfState command) (watched (session_of old cursors) watches) before reply
      (watched (session_of new cursors) watches) after =
      ran_plain {E = E} (Ok reply) rows command old new before after cursors watches counted turned did in
      subst (λ (t : Result DraftReply E). IfOk t (λ (told : DraftReply). ClassRun rows (OfState command)
      (watched (session_of old cursors) watches) before told.reply
      (watched (session_of new (settled told.moved cursors)) watches) after)) (sym is) ran

-- what holds of a result and of its success holds of the reply with its cursor
pub told_as : {E : Type 0} (r : Result Reply E) (t : Result DraftReply E) (P : Reply → Type 0) →
    IfOk r (λ reply. t ≡ Ok (record { reply = reply; moved = None })) → is_ok t ≡ is_ok r
    → IfOk r P → IfOk t (λ (told : DraftReply). P told.reply)
told_as (Err e) (Err d) P is ok p = tt
told_as (Err e) (Ok told) P is ok p = absurd (true≢false ok)
told_as (Ok reply) t P is ok p = subst (λ (t : Result DraftReply _). IfOk t (λ (told : DraftReply). P told.reply)) (sym is) p

pub on_ok_told : {A B E F : Type 0} (r : Result A E) (t : Result B F) (P : Type 0) → is_ok t ≡ is_ok r → OnOk r P →
    OnOk t P
on_ok_told (Ok a) (Ok b) P ok p = p
on_ok_told (Err e) (Err d) P ok p = tt
on_ok_told (Ok a) (Err d) P ok p = tt
on_ok_told (Err e) (Ok b) P ok p = absurd (true≢false ok)

pub on_err_told : {A B E F : Type 0} (r : Result A E) (t : Result B F) (P : Type 0) → is_ok t ≡ is_ok r → OnErr r P →
    OnErr t P
on_err_told (Ok a) (Ok b) P ok p = tt
on_err_told (Err e) (Err d) P ok p = p
on_err_told (Ok a) (Err d) P ok p = absurd (false≢true ok)
on_err_told (Err e) (Ok b) P ok p = tt

pub kept_told : {A B E F : Type 0} (r : Result A E) (t : Result B F) (old new : Engine) (cursors : Cursors)
    (watches : Watches) → is_ok t ≡ is_ok r
    → OnErr r (StaysButMarks old new) → OnErr t (StaysButMarks old new × (cursors ≡ cursors) × (watches ≡ watches))
kept_told (Ok a) (Ok b) old new cursors watches ok p = tt
kept_told (Err e) (Err d) old new cursors watches ok p = (p, refl, refl)
kept_told (Ok a) (Err d) old new cursors watches ok p = absurd (false≢true ok)
kept_told (Err e) (Ok b) old new cursors watches ok p = tt

pub ran_line : (rows : PolicyRows) (command : Option Command) (old : Session) (seen : Seen) → command ≡ None →
    CommandRun rows command old seen replies.Line old seen
ran_line rows command old seen e =
    subst (λ (c : Option Command). CommandRun rows c old seen replies.Line old seen) (sym e)
    (ran_uncalled rows None old seen replies.Line old refl (refl, refl))

pub ran_told_line : (told : DraftReply) (rows : PolicyRows) (command : Option Command) (old : Engine) (cursors : Cursors)
    (watches : Watches) (seen : Seen)
    → told.reply ≡ replies.Line → told.moved ≡ None → command ≡ None
    → CommandRun rows command (watched (session_of old cursors) watches) seen told.reply
    (watched (session_of old (settled told.moved cursors)) watches) seen
ran_told_line told rows command old cursors watches seen r m e =
    let whole : Session = watched (session_of old cursors) watches in
    subst (λ (o : Option CursorMove). CommandRun rows command whole seen told.reply
    (watched (session_of old (settled o cursors)) watches) seen) (sym m)
    (subst (λ (x : Reply). CommandRun rows command whole seen x whole seen) (sym r) (ran_line rows command whole seen e))

-- ---- revisions

pub few_turns : {T E : Type 0} (r : Result T E) (class : Class) (old new : Engine) →
    OnOk r (RevisedBy class old.views old.revisions new.views new.revisions)
    → OnErr r (StaysButMarks old new) → new.revisions.count ≤ old.revisions.count + 1
few_turns (Ok a) class old new turned kept = turned_few class old.views new.views old.revisions new.revisions turned
few_turns (Err e) class old new turned kept = same_few old.revisions new.revisions kept.revisions

pub still_turns : {T E : Type 0} (r : Result T E) (class : Class) (old new : Engine) →
    OnOk r (RevisedBy class old.views old.revisions new.views new.revisions)
    → OnErr r (StaysButMarks old new) → state_of new ≡ state_of old → new.revisions ≡ old.revisions
still_turns (Ok a) class old new turned kept same = turned_still class old.views new.views old.revisions new.revisions
    (ap (λ (s : State). s.views) same) turned
still_turns (Err e) class old new turned kept same = kept.revisions

-- ---- lines

pub replied : (rows : PolicyRows) (line : List ℕ) (old : Session) (before : Seen) (new : Session) (after : Seen)
    (reply : Option Reply) (given : Served) (use_ : Use)
    → use_of (command_in_line line) ≡ use_ → LineStep rows old line given reply new →
    IsServed old.state use_ before.world given after.world
    → (has_failed (put_for old.state use_ given.read) given ≡ true → Rose before.faults after.faults) →
    Replied rows line old before reply new after
replied rows line old before new after reply given use_ e step served cause =
    let Cause : Use → Type 0 = λ u. has_failed (put_for old.state u given.read) given ≡ true →
    Rose before.faults after.faults in
    record {
      given = given;
      step = step;
      served = subst (λ (u : Use). IsServed old.state u before.world given after.world) (sym e) served;
      cause = subst Cause (sym e) cause;
    }

-- a line that doesn't use the directory
pub replied_alone : (rows : PolicyRows) (line : List ℕ) (old : Session) (seen : Seen) (new : Session)
    (reply : Option Reply) → use_of (command_in_line line) ≡ unused
    → LineStep rows old line unserved reply new → Replied rows line old seen reply new seen
replied_alone rows line old seen new reply e step =
    replied rows line old seen new seen reply unserved unused e step (idle old.state seen.world)
    (λ f. absurd (never_failed old.state unused refl f))

-- a line that is too long
pub replied_long : (rows : PolicyRows) (line : List ℕ) (engine : Engine) (cursors : Cursors) (watches : Watches)
    (seen : Seen) (told : DraftReply) → longest < length line
    → told.reply ≡ replies.Long → told.moved ≡ None
    → Replied rows line (watched (session_of engine cursors) watches) seen (Some told.reply)
    (watched (session_of engine (settled told.moved cursors)) watches) seen
replied_long rows line engine cursors watches seen told long r m =
    let whole : Session = watched (session_of engine cursors) watches in
    subst (λ (o : Option CursorMove). Replied rows line whole seen (Some told.reply)
    (watched (session_of engine (settled o cursors)) watches) seen) (sym m)
    (subst (λ (x : Reply). Replied rows line whole seen (Some x) whole seen) (sym r)
    (replied_alone rows line whole seen whole (Some replies.Long) (ap use_of (heard_long line long))
    (too_long rows whole line unserved long)))

-- a silent line
pub replied_silent : (rows : PolicyRows) (line : List ℕ) (old : Session) (seen : Seen) → length line ≤ longest →
    is_silent line ≡ true
    → Replied rows line old seen None old seen
replied_silent rows line old seen short silent =
    replied_alone rows line old seen old None (ap use_of (heard_silent line silent))
    (passed_over rows old line unserved short silent)

-- the octets of the reply were appended, unless memory ran out
pub stepped : {T E : Type 0} (r : Result T E) (rows : PolicyRows) (line : List ℕ) (old : Session) (before : Seen)
    (new : Session) (after : Seen) (had mid has : List ℕ) (reply : Reply)
    → Replied rows line old before (Some reply) new after → mid ≡ had → OnOk r (has ≡ mid ++ reply_text reply) →
    OnOk r (Stepped rows line old before had new after has)
stepped (Ok a) rows line old before new after had mid has reply p same f = record {
  given = p.given;
  reply = Some reply;
  step = p.step;
  served = p.served;
  cause = p.cause;
  octets = f ∙ ap (λ (x : List ℕ). x ++ reply_text reply) same ∙ ap (λ (x : List ℕ). had ++ x) (sym (one_reply reply));
}
stepped (Err x) rows line old before new after had mid has reply p same f = tt

-- a silent line appends nothing
pub passed : (rows : PolicyRows) (line : List ℕ) (old : Session) (before : Seen) (new : Session) (after : Seen)
    (had has : List ℕ) → Replied rows line old before None new after
    → has ≡ had → Stepped rows line old before had new after has
passed rows line old before new after had has p same = record {
  given = p.given;
  reply = None;
  step = p.step;
  served = p.served;
  cause = p.cause;
  octets = same ∙ sym (append-nil had);
}

-- a reply was written, and then the cursor moved
module _ {T E : Type 0} where
  pub told_step : (r : Result T E) (rows : PolicyRows) (line : List ℕ) (old : Session) (before : Seen) (mid : Engine)
      (at : Cursors) (watches : Watches) (new : Engine)
      (cursors : Cursors) (left : Watches) (after : Seen) (had kept has : List ℕ) (told : DraftReply)
      → Replied rows line old before (Some told.reply) (watched (session_of mid (settled told.moved at)) watches) after →
      new ≡ mid → left ≡ watches
      → OnOk r (cursors ≡ settled told.moved at) → kept ≡ had → OnOk r (has ≡ kept ++ reply_text told.reply)
      → OnOk r (Stepped rows line old before had (watched (session_of new cursors) left) after has)
  told_step (Err x) rows line old before mid at watches new cursors left after had kept has told p e w s same f = tt
  told_step (Ok a) rows line old before mid at watches new cursors left after had kept has told p e w s same f =
      stepped {T = T} {E = E} (Ok a) rows line old before (watched (session_of new cursors) left) after had kept has
      told.reply
      (subst (λ (x : Session). Replied rows line old before (Some told.reply) x after)
      (λ i. watched (session_of (sym e i) (sym s i)) (sym w i)) p) same f

-- a reply that moves no cursor was written
pub told_settled : (rows : PolicyRows) (line : List ℕ) (old : Session) (before : Seen) (mid : Engine) (at : Cursors)
    (watches : Watches) (new : Engine) (cursors : Cursors)
    (left : Watches) (after : Seen) (told : DraftReply) (reply : Reply) (moved : Option CursorMove) → told.reply ≡ reply →
    told.moved ≡ moved
    → Replied rows line old before (Some told.reply) (watched (session_of mid (settled told.moved at)) watches) after →
    new ≡ mid → cursors ≡ settled moved at → left ≡ watches
    → Replied rows line old before (Some reply) (watched (session_of new cursors) left) after
told_settled rows line old before mid at watches new cursors left after told reply moved r m p e s w =
    let there : cursors ≡ settled told.moved at = s ∙ ap (λ (o : Option CursorMove). settled o at) (sym m) in
    subst (λ (x : Reply). Replied rows line old before (Some x) (watched (session_of new cursors) left) after) r
    (subst (λ (x : Session). Replied rows line old before (Some told.reply) x after)
    (λ i. watched (session_of (sym e i) (sym there i)) (sym w i)) p)

-- ---- watch lines

-- the watch lines were reported
pub tells_of : (engine new : Engine) (cursors after : Cursors) (watches left : Watches) (lines : List Reply) →
    state_of new ≡ state_of engine
    → new.keyring.changes ≡ engine.keyring.changes → new.revisions ≡ engine.revisions → after ≡ cursors →
    AreLines (state_of engine) watches lines → left ≡ told_all watches lines
    → ReportsWatches (watched (session_of engine cursors) watches) lines (watched (session_of new after) left)
tells_of engine new cursors after watches left lines state changes revisions same are told = record {
  lines_are = are;
  left = λ i. record { state = state i; changes = changes i; revisions = revisions i; cursors = same i; watches = told i };
}

-- the watch lines were appended and reported, unless memory ran out
pub tells_behind : {T E : Type 0} (r : Result T E) (engine new : Engine) (cursors after : Cursors)
    (watches left : Watches) (lines : List Reply) (had has : List ℕ)
    → state_of new ≡ state_of engine → new.keyring.changes ≡ engine.keyring.changes → new.revisions ≡ engine.revisions →
    after ≡ cursors
    → AreLines (state_of engine) watches lines → left ≡ told_all watches lines → OnOk r (has ≡ had ++ octets_of lines)
    → OnOk r (TellsBehind (watched (session_of engine cursors) watches) had (watched (session_of new after) left) has)
tells_behind (Err e) engine new cursors after watches left lines had has state changes revisions same are told f = tt
tells_behind (Ok a) engine new cursors after watches left lines had has state changes revisions same are told f = record {
  lines = lines;
  tells = tells_of engine new cursors after watches left lines state changes revisions same are told;
  octets = f;
}
