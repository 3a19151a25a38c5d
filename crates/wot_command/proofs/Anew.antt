-- The lines of a dump, answered by a fresh machine.
use Rattle.std.proofs.Common.{◌≡◌, ℕ, suc, Bool, true, false, List, [], ◌∷◌, length, map, Option, Some, None, Result}
use Rattle.std.proofs.Common.{Ok, Err, refl, sym, ap, ◌∙◌, subst, append_assoc}
use Rattle.std.specs.Prelude.{◌<◌, ◌^◌, if◌then◌else◌, IsSomeAnd}
use Rattle.std.specs.Option.{option_map}
use Rattle.std.specs.List.{AllByRecursion}
use Rattle.std.proofs.lemmas.Bool.{ne_eqb}
use Rattle.std.proofs.lemmas.Option.{same_Some}
use Rattle.wot_types.specs.declared.limits.Limits.{Limits}
use Rattle.wot_types.specs.declared.number.SigNumber.{SigNumber}
use Rattle.wot_types.specs.declared.limits.Limit.TheVariants as words
use Rattle.wot_types.specs.Limits.{standard_limits}
use Rattle.wot_io.specs.Input as inputs
use Rattle.wot_policy.specs.declared.rows.PolicyRows.{PolicyRows}
use Rattle.wot_fields.specs.StateLine.{IsNoComment, spelling, state_line_of}
use Rattle.wot_fields.specs.declared.state_line.StateLine.{StateLine}
use Rattle.wot_fields.specs.declared.state_line.StateLine.TheVariants as sets
use Rattle.wot_script.specs.declared.command.Command.{Command}
use Rattle.wot_script.specs.Grammar.{command_for, command_of}
use Rattle.wot_script.specs.declared.reply.Reply.{Reply}
use Rattle.wot_script.specs.declared.reply.Reply.TheVariants as replies
use Rattle.wot_script.specs.Replies.{is_refusal}
use Rattle.wot_verdict.specs.declared.verdict.Verdict.{Verdict}
use Rattle.wot_verdict.specs.declared.verdict.Verdict.TheVariants as said
use Rattle.wot_keyring_spec.specs.declared.imported.Imported.{Imported}
use Rattle.wot_keyring_spec.specs.declared.refusal.Refusal.{Refusal}
use Rattle.wot_keyring.specs.Dump as keyrings
use Rattle.wot_keyring.specs.Dump.{AreLines, IsLine, after_all, lines_of, unless_over}
use Rattle.wot_keyring_spec.specs.Held.{Held, verdict_set}
use Rattle.wot_keyring_spec.specs.Import.{answer_to, importing}
use Rattle.wot_keyring_spec.specs.Verdict.{is_over}
use Rattle.wot_certd.specs.World.{World}
use Rattle.wot_cache.specs.declared.view.ViewFault.{ViewFault}
use Rattle.wot_cache.specs.Views.{root_fault, time_fault, view_at}
use Rattle.wot_cache.specs.State.{Engine, State, start, state_of, with_held, rooting, timing}
use Rattle.wot_cache.specs.Dump.{CarriesOver, IsRestored, after, commands_of, unless_refused}
use Rattle.wot_plain.specs.declared.class.Class.{Class}
use Rattle.wot_plain.specs.declared.class.Class.TheVariants.{State as OfState, Cursor as OfCursor, Watch as OfWatch}
use Rattle.wot_plain.specs.Classes.{class_of}
use Rattle.wot_plain.specs.Classes.{is_own}
use Rattle.wot_plain.specs.Entry.{unused, use_by, use_of}
use Rattle.wot_plain.specs.Lines.{is_silent}
use Rattle.wot_plain.specs.Outcome.{Outcome, done, imports, set_verdict, only, unless}
use Rattle.wot_plain.specs.LineStep.{ReadLineStep, StateStep, ComesTo, CommandStep}
use Rattle.wot_plain.specs.Session.{Session, beginning}
use Rattle.wot_plain.specs.Scene.{Step}
use Rattle.wot_plain.specs.Served.{unserved}
use Rattle.wot_plain.specs.Transcript.{Run}
use Rattle.wot_plain.specs.Fresh.{IsMadeAnew, dumped}
use Rattle.wot_plain.proofs.CutLines.{lines_of-feed}
use Rattle.wot_plain.proofs.DirectoryGives.{over, uncalled_step}
use Rattle.wot_plain.proofs.Watched.{tells_nothing}
use Rattle.wot_plain.proofs.StepsByKind.{heard_read, looked_at}
use Rattle.wot_plain.proofs.Sessions.{counted_some, turned_some}

-- a reply that is no refusal
record Takes (P : Reply → State → Type 0) (new : State) : Type 0 where
  reply : Reply
  well : is_refusal reply ≡ false
  does : P reply new

taken : (rows : PolicyRows) (s : State) (octets : List ℕ) (answer : Result Imported Refusal) (new : State)
    → option_map (with_held s) (keyrings.unless_refused answer (importing rows octets s.held)) ≡ Some new →
    Takes (ComesTo (imports rows s octets answer)) new
taken rows s octets (Ok counts) new e = record {
  reply = replies.Taken counts.taken counts.skipped counts.fresh;
  well = refl;
  does = (refl, sym (same_Some (with_held s (importing rows octets s.held)) new e));
}
taken rows s octets (Err refusal) new e = absurd (cc e)

chosen : (b : Bool) (refused : Outcome) (s new : State) (held : Held) →
    option_map (with_held s) (if b then None else Some held) ≡ Some new
    → Takes (ComesTo (if b then refused else done (with_held s held))) new
chosen true refused s new held e = absurd (cc e)
chosen false refused s new held e = record {
  reply = replies.Done;
  well = refl;
  does =
      (refl, sym (same_Some (with_held s held) new e));
}

allowed : (s : State) (fault : Option ViewFault) (done new : State) → unless_refused fault done ≡ Some new →
    Takes (ComesTo (unless s fault done)) new
allowed s (Some fault) done new e = absurd (cc e)
allowed s None done new e = record { reply = replies.Done; well = refl; does = (refl, sym (same_Some done new e)) }

judged_so : (s : State) (number : SigNumber) (verdict : Verdict) (new : State)
    → option_map (with_held s) (unless_over standard_limits number verdict s.held) ≡ Some new →
    Takes (ComesTo (set_verdict s number verdict)) new
judged_so s number verdict new e =
    chosen (is_over standard_limits s.held.verdicts number) (only s (replies.Full words.Verdicts)) s new
    (verdict_set number verdict s.held) e

-- A line of a dump that isn't refused does what the machine does. It doesn't call the certificate directory, and
-- isn't about a cursor or a watch.
record Accepts (rows : PolicyRows) (class : Class) (s new : State) : Type 0 where
  takes : Takes (StateStep rows s class unserved) new
  uncalled : use_by class ≡ unused
  own : is_own class ≡ true

-- no other line is in a dump
accepted : (rows : PolicyRows) (line : StateLine) (s new : State) → after rows standard_limits line s ≡ Some new →
    Accepts rows (class_of (command_for line)) s new
accepted rows (sets.Import octets) s new e =
    record {
      takes = taken rows s octets (answer_to rows standard_limits s.held.certs octets) new e;
      uncalled = refl;
      own = refl;
    }
accepted rows (sets.Good number fpr) s new e =
    record { takes = judged_so s number (said.Good fpr) new e; uncalled = refl; own = refl }
accepted rows (sets.Bad number) s new e =
    record { takes = judged_so s number said.Bad new e; uncalled = refl; own = refl }
accepted rows (sets.Time view t) s new e =
    record {
      takes = allowed s (time_fault standard_limits s.views view) (timing view t s) new e;
      uncalled = refl;
      own = refl;
    }
accepted rows (sets.Root view fpr amount) s new e =
    record {
      takes =
          allowed s (root_fault standard_limits (view_at s.views view) fpr amount) (rooting view fpr amount s) new e;
      uncalled = refl;
      own = refl;
    }
accepted rows line s new e = absurd (cc e)

-- ---- lines

command_in_line : (line : List ℕ) → IsNoComment line → is_silent line ≡ false
command_in_line [] h = absurd h
command_in_line (octet ∷ octets) h = ne_eqb octet 35 h

cut_lines : (commands : List StateLine) → AreLines commands → inputs.lines_of (lines_of commands) ≡ map spelling commands
cut_lines [] lines = refl
cut_lines (c ∷ commands) lines =
    ap inputs.lines_of (append_assoc (spelling c) (10 ∷ []) (lines_of commands))
    ∙ lines_of-feed (spelling c) (lines_of commands) lines.0.no_feed
    ∙ ap (λ (rest : List (List ℕ)). spelling c ∷ rest) (cut_lines commands lines.1)

-- ---- everything that is kept

-- after this command the machine has this state, and the same cursors and watches
record Leads (rows : PolicyRows) (old : Session) (class : Class) (reply : Reply) (new : State) : Type 0 where
  whole : Session
  state : whole.state ≡ new
  cursors : whole.cursors ≡ old.cursors
  watches : whole.watches ≡ old.watches
  obeys : CommandStep rows old class unserved reply whole

leads : (rows : PolicyRows) (old : Session) (class : Class) (reply : Reply) (new : State) → is_own class ≡ true
    → StateStep rows old.state class unserved reply new → Leads rows old class reply new
leads rows old (OfState command) reply new own does =
    let count = counted_some old new.held in
    let revisions = turned_some (OfState command) old.state.views new.views old.revisions in
    record {
      whole = record { state = new; changes = count.0; revisions = revisions.0; cursors = old.cursors; watches = old.watches };
      state = refl;
      cursors = refl;
      watches = refl;
      obeys = record {
        does = does;
        counted = count.1;
        turned = revisions.1;
        paces = refl;
        watching = refl;
      };
    }
leads rows old (OfCursor name command) reply new own does = absurd (cc own)
leads rows old (OfWatch name command) reply new own does = absurd (cc own)

-- what a line sets is what its command sets
read_as : (text : List ℕ) (c : StateLine) → state_line_of text ≡ Some c → command_of text ≡ Some (command_for c)
unfolding command_of
read_as text c e = rw e refl

-- the step of such a line, in any world
stepped : (rows : PolicyRows) (c : StateLine) (s new : Session) (reply : Reply) → IsLine c →
    use_by (class_of (command_for c)) ≡ unused → CommandStep rows s (class_of (command_for c)) unserved reply new →
    new.watches ≡ [] → (world : World)
    → Step rows (over s world) (spelling c) (Some reply) [] (over new world)
stepped rows c s new reply line none obeys unwatched world =
    let Answered : Option Command → Type 0 = λ o. ReadLineStep rows s o unserved reply new in
    let is_heard : is_silent (spelling c) ≡ false = command_in_line (spelling c) line.no_comment in
    let read : command_of (spelling c) ≡ Some (command_for c) = read_as (spelling c) c line.read in
    uncalled_step rows world s new new (spelling c) (Some reply) []
    (ap use_of (heard_read (spelling c) line.short is_heard ∙ read) ∙ none)
    (looked_at rows s (spelling c) unserved reply new line.short is_heard (subst Answered (sym read) obeys))
    (tells_nothing new unwatched)

-- ---- runs

record Runs (rows : PolicyRows) (s : Session) (commands : List StateLine) (new : State) : Type 0 where
  replies_are : List Reply
  whole : Session
  state : whole.state ≡ new
  cursors : whole.cursors ≡ s.cursors
  watches : whole.watches ≡ []
  run : (world : World) → Run rows (over s world) (map spelling commands) replies_are (over whole world)
  each : length replies_are ≡ length (map spelling commands)
  well : AllByRecursion (λ reply. is_refusal reply ≡ false) replies_are

refused_stays : (rows : PolicyRows) (l : Limits) (commands : List StateLine) →
    after_all (after rows l) commands None ≡ None
refused_stays rows l [] = refl
refused_stays rows l (command ∷ commands) = refl

further : (rows : PolicyRows) (c : StateLine) (commands : List StateLine) (s : Session) (new : State) → s.watches ≡ [] →
    IsLine c
    → ((mid : Session) → mid.watches ≡ [] → after_all (after rows standard_limits) commands (Some mid.state) ≡ Some new →
    Runs rows mid commands new)
    → (o : Option State) → after rows standard_limits c s.state ≡ o →
    after_all (after rows standard_limits) commands o ≡ Some new → Runs rows s (c ∷ commands) new
further rows c commands s new none line rest None was e = let stays = refused_stays rows standard_limits commands in
    absurd (cc (stays, e))
further rows c commands s new none line rest (Some mid) was e =
    let a : Accepts rows (class_of (command_for c)) s.state mid = accepted rows c s.state mid was in
    let t : Takes (StateStep rows s.state (class_of (command_for c)) unserved) mid = a.takes in
    let l : Leads rows s (class_of (command_for c)) t.reply mid =
    leads rows s (class_of (command_for c)) t.reply mid a.own t.does in
    let still : l.whole.watches ≡ [] = l.watches ∙ none in
    let more : Runs rows l.whole commands new =
    rest l.whole still (ap (λ (x : State). after_all (after rows standard_limits) commands (Some x)) l.state ∙ e) in
    record {
      replies_are = t.reply ∷ more.replies_are;
      whole = more.whole;
      state = more.state;
      cursors = more.cursors ∙ l.cursors;
      watches = more.watches;
      run = λ world. (
        Some t.reply,
        [],
        over l.whole world,
        more.replies_are,
        stepped rows c s l.whole t.reply line a.uncalled l.obeys still world,
        more.run world,
        refl,
      );
      each = ap suc more.each;
      well = (t.well, more.well);
    }

runs : (rows : PolicyRows) (commands : List StateLine) (s : Session) (new : State) → s.watches ≡ [] → AreLines commands
    → after_all (after rows standard_limits) commands (Some s.state) ≡ Some new → Runs rows s commands new
runs rows [] s new none lines e = record {
  replies_are = [];
  whole = s;
  state = same_Some s.state new e;
  cursors = refl;
  watches = none;
  run = λ world. (refl, refl);
  each = refl;
  well = tt;
}
runs rows (c ∷ commands) s new none lines e =
    further rows c commands s new none lines.0 (λ mid still. runs rows commands mid new still lines.1)
    (after rows standard_limits c s.state) refl e

reached : (rows : PolicyRows) (l : Limits) (s : State) →
    IsSomeAnd (after_all (after rows l) (commands_of s) (Some start)) (CarriesOver rows s)
    → (new : State) × CarriesOver rows s new × (after_all (after rows l) (commands_of s) (Some start) ≡ Some new)
reached rows l s there = by (after_all (after rows l) (commands_of s) (Some start)) there
  where
    by : (o : Option State) → IsSomeAnd o (CarriesOver rows s) → (new : State) × CarriesOver rows s new × (o ≡ Some new)
    by None there = absurd there
    by (Some new) there = (new, there, refl)

pub made_anew : (rows : PolicyRows) (engine : Engine) → engine.keyring.limits ≡ standard_limits → IsRestored rows engine
    → AreLines (commands_of (state_of engine)) → length (lines_of (commands_of (state_of engine))) < 2 ^ 30
    → IsMadeAnew rows (state_of engine)
made_anew rows engine standard restored lines short =
    let s : State = state_of engine in
    let From : Limits → Type 0 = λ l. IsSomeAnd (after_all (after rows l) (commands_of s) (Some start))
    (CarriesOver rows s) in
    let there = reached rows standard_limits s (subst From standard restored) in
    let all : Runs rows beginning (commands_of s) there.0 = runs rows (commands_of s) beginning there.0 refl lines
    there.2 in
    let cut : map spelling (commands_of s) ≡ dumped s = sym (cut_lines (commands_of s) lines) in
    let Ran : List (List ℕ) → Type 0 = λ lines. (world : World) → Run rows (over beginning world) lines all.replies_are
    (over all.whole world) in
    record {
      replies = all.replies_are;
      new = all.whole;
      same = subst (λ (new : State). CarriesOver rows s new) (sym all.state) there.1;
      cursors = all.cursors;
      watches = all.watches;
      run = subst Ran cut all.run;
      each = all.each ∙ ap length cut;
      well = all.well;
      size = short;
    }
