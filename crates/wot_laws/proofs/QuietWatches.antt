-- A line that leaves the state leaves each watch true, one that it begins included. So no watch line follows it.
use Rattle.std.proofs.Common.{◌≡◌, ℕ, ◌≤◌, Bool, true, false, List, [], ◌++◌, length, Option, Some, None, refl, sym}
use Rattle.std.proofs.Common.{ap, subst, ◌∙◌}
use Rattle.std.specs.Prelude.{MatchBool, is_some, nat_lt}
use Rattle.std.proofs.lemmas.Cmp.{nat_list_cmp_total}
use Rattle.std.proofs.lemmas.Option.{same_Some}
use Rattle.wot_types.specs.declared.fpr.Fpr.{Fpr}
use Rattle.wot_types.specs.ViewName.{view_name_cmp}
use Rattle.wot_policy.specs.declared.rows.PolicyRows.{PolicyRows}
use Rattle.wot_script.specs.Grammar.{command_of}
use Rattle.wot_script.specs.Spelling.{HasSpelling}
use Rattle.wot_script.specs.declared.command.Command.{Command}
use Rattle.wot_script.specs.declared.reply.Reply.{Reply}
use Rattle.wot_script.specs.declared.reply.Reply.TheVariants as replies
use Rattle.wot_cache.specs.declared.view.View.{View}
use Rattle.wot_cache.specs.State.{IsState, State}
use Rattle.wot_cache.specs.Views.{view_at}
use Rattle.wot_table.specs.Table.{entry_at, is_name, with_entry, without_entry}
use Rattle.wot_watch.specs.Watches.{Watch, Watches, is_full}
use Rattle.wot_plain.specs.declared.class.Class.{Class}
use Rattle.wot_plain.specs.Classes.{IsFit, class_of}
use Rattle.wot_plain.specs.Entry.{use_of}
use Rattle.wot_plain.specs.Lines.{command_in_line, is_silent, longest}
use Rattle.wot_plain.specs.LineStep.{CommandStep, HasReply, LineStep, ReadLineStep, Stays}
use Rattle.wot_plain.specs.Scene.{served_in}
use Rattle.wot_plain.specs.Served.{Served}
use Rattle.wot_plain.specs.Session.{Session}
use Rattle.wot_plain.specs.Transcript.{listed}
use Rattle.wot_plain.specs.Watching.{AreLines, LeavesWatches, Opens, TakesOff, Watching, is_watching, opened}
use Rattle.wot_plain.proofs.Entries.{all_found, apart, found_put, gone_without, other_put, other_without}
use Rattle.wot_plain.proofs.Watched.{AnswerOne, Lawful, Tells-one, plain_watching, watched_cases}
use Rattle.wot_laws.specs.TrueWatches.{IsAmountOf, QuietLinesTellNothing}
use Rattle.wot_laws.proofs.Fit.{fit_of}
use Rattle.wot_laws.proofs.Reached.{reached_can_be}
use Rattle.wot_laws.proofs.TrueWatches.{AreTold, IsCalm, IsTold, amount_is, calm_lines, each_found, reached_told}
use Rattle.wot_laws.proofs.TrueWatches.{step_told, wants}
use Rattle.wot_laws.proofs.WatchLines.{AreByName, same_name}

-- the last amount reported for each watch is its current one
abbrev AreNow : State → Watches → Type 0
AreNow s watches =
    (name : List ℕ) (watch : Watch) → entry_at watches name ≡ Some watch
    → IsAmountOf s (view_at s.views watch.view) watch watch.told

-- a watch begins with its current amount
begun_now : (s : State) (watches : Watches) (name : List ℕ) (new : Watch)
    → IsAmountOf s (view_at s.views new.view) new new.told → AreNow s watches → AreNow s (with_entry watches name new)
begun_now s watches name new is now other watch e = by (is_name name other) refl
  where
    by : (b : Bool) → is_name name other ≡ b → IsAmountOf s (view_at s.views watch.view) watch watch.told
    by true h =
        let there : entry_at (with_entry watches name new) name ≡ Some watch =
        subst (λ (n : List ℕ). entry_at (with_entry watches name new) n ≡ Some watch) (sym (same_name name other h))
        e in
        let same : new ≡ watch =
        same_Some new watch (sym (found_put view_name_cmp nat_list_cmp_total name new watches) ∙ there) in
        subst (λ (w : Watch). IsAmountOf s (view_at s.views w.view) w w.told) same is
    by false h =
        now other watch
        (sym (other_put view_name_cmp nat_list_cmp_total name other new watches
        (apart view_name_cmp nat_list_cmp_total name other h)) ∙ e)

-- a watch is removed
off_now : (s : State) (watches : Watches) (name : List ℕ) → AreByName watches → AreNow s watches
    → AreNow s (without_entry watches name)
off_now s watches name order now other watch e = by (is_name name other) refl
  where
    by : (b : Bool) → is_name name other ≡ b → IsAmountOf s (view_at s.views watch.view) watch watch.told
    by true h =
        let none : entry_at (without_entry watches name) other ≡ None =
        subst (λ (n : List ℕ). entry_at (without_entry watches name) n ≡ None) (same_name name other h)
        (gone_without view_name_cmp nat_list_cmp_total name watches order) in
        let never : None ≡ Some watch = sym none ∙ e in
        absurd (cc never)
    by false h =
        now other watch
        (sym (other_without view_name_cmp nat_list_cmp_total name other watches
        (apart view_name_cmp nat_list_cmp_total name other h)) ∙ e)

-- ---- the commands of watches

opens_now : (s : Session) (name view : List ℕ) (target : Fpr) (wanted : ℕ) (uid : List ℕ) (o : Option View)
    (reply : Reply) (watches : Watches) → 1 ≤ wanted → view_at s.state.views view ≡ o
    → Opens s name view target wanted uid o reply watches → AreNow s.state s.watches → AreNow s.state watches
opens_now s name view target wanted uid None reply watches some e l now = subst (AreNow s.state) (sym l.1) now
opens_now s name view target wanted uid (Some there) reply watches some e p now = by (is_full s.watches name) p.2
  where
    new : Watch
    new = opened view target wanted uid p.0

    is : IsAmountOf s.state (view_at s.state.views view) new p.0
    is =
        subst (λ (o : Option View). IsAmountOf s.state o new p.0) (sym e)
        (amount_is s.state (Some there) new p.0 some (p.0, p.1, refl))

    by : (b : Bool)
        → MatchBool b (LeavesWatches replies.FullWatches s.watches reply watches)
        (LeavesWatches (replies.WatchAmount name p.0)
        (with_entry s.watches name (opened view target wanted uid p.0)) reply watches)
        → AreNow s.state watches
    by true l = subst (AreNow s.state) (sym l.1) now
    by false l = subst (AreNow s.state) (sym l.1) (begun_now s.state s.watches name new is now)

takes_now : (s : Session) (name : List ℕ) (reply : Reply) (watches : Watches) → TakesOff s name reply watches
    → AreByName s.watches → AreNow s.state s.watches → AreNow s.state watches
takes_now s name reply watches l order now = by (is_some (entry_at s.watches name)) l
  where
    by : (b : Bool)
        → MatchBool b (LeavesWatches replies.Done (without_entry s.watches name) reply watches)
        (LeavesWatches replies.NoWatch s.watches reply watches)
        → AreNow s.state watches
    by true l = subst (AreNow s.state) (sym l.1) (off_now s.state s.watches name order now)
    by false l = subst (AreNow s.state) (sym l.1) now

watching_now : (s : Session) (class : Class) (reply : Reply) (watches : Watches) → is_watching class ≡ true
    → IsFit class → Watching s class reply watches → AreByName s.watches → AreNow s.state s.watches
    → AreNow s.state watches
watching_now s class reply watches e =
    watched_cases
    (λ (c : Class). IsFit c → Watching s c reply watches → AreByName s.watches → AreNow s.state s.watches
    → AreNow s.state watches)
    (λ name view target wanted uid some l order now. opens_now s name view target wanted uid
    (view_at s.state.views view) reply watches some refl l now)
    (λ name some. takes_now s name reply watches) class e

-- ---- one line, in the state before it

module _ (rows : PolicyRows) (old : Session) (given : Served) (new : Session) (order : AreByName old.watches)
    (now : AreNow old.state old.watches)
  where
    obeys_now : (class : Class) (reply : Reply) → IsFit class → CommandStep rows old class given reply new
        → AreNow old.state new.watches
    obeys_now class reply fit o = by (is_watching class) refl
      where
        by : (b : Bool) → is_watching class ≡ b → AreNow old.state new.watches
        by true e = watching_now old class reply new.watches e fit o.watching order now
        by false e = subst (AreNow old.state) (sym (plain_watching old class reply new.watches e o.watching)) now

    stays_now : (said reply : Reply) → Stays old said reply new → AreNow old.state new.watches
    stays_now said reply g = subst (AreNow old.state) (sym (ap (λ (w : Session). w.watches) g.1)) now

    step_now : ((line : List ℕ) (command : Command) → command_of line ≡ Some command → HasSpelling command)
        → (line : List ℕ) (reply : Option Reply) → LineStep rows old line given reply new
        → AreNow old.state new.watches
    step_now spelled line reply = long (nat_lt longest (length line))
      where
        known : (o : Option Command) → command_of line ≡ o → (r : Option Reply)
            → HasReply (ReadLineStep rows old o given) r new → AreNow old.state new.watches
        known o e None g = absurd g
        known None e (Some r) g = stays_now replies.Line r g
        known (Some command) e (Some r) g =
            obeys_now (class_of command) r (fit_of command (spelled line command e)) g

        silent : (b : Bool)
            → MatchBool b ((reply ≡ None) × (new ≡ old))
            (HasReply (ReadLineStep rows old (command_of line) given) reply new)
            → AreNow old.state new.watches
        silent true g = subst (AreNow old.state) (sym (ap (λ (w : Session). w.watches) g.1)) now
        silent false g = known (command_of line) refl reply g

        stays : (r : Option Reply) → HasReply (Stays old replies.Long) r new → AreNow old.state new.watches
        stays None g = absurd g
        stays (Some r) g = stays_now replies.Long r g

        long : (b : Bool)
            → MatchBool b (HasReply (Stays old replies.Long) reply new)
            (MatchBool (is_silent line) ((reply ≡ None) × (new ≡ old))
            (HasReply (ReadLineStep rows old (command_of line) given) reply new))
            → AreNow old.state new.watches
        long true g = stays reply g
        long false g = silent (is_silent line) g

-- ---- runs

module _ (rows : PolicyRows)
    (spelled : (line : List ℕ) (command : Command) → command_of line ≡ Some command → HasSpelling command)
    (one : AnswerOne) (lawful : Lawful)
  where
    pub lines_quiet : QuietLinesTellNothing rows
    lines_quiet world lines told old line reply behind new r step same =
        let t : IsTold told old.whole = reached_told rows spelled world lines told old r in
        let given : Served = served_in old (use_of (command_in_line line)) in
        let are : AreTold (told ++ listed reply) step.mid.watches =
        step_told told rows old.whole given step.mid t.are spelled line reply step.does in
        let now : AreNow step.mid.state step.mid.watches =
        subst (λ (s : State). AreNow s step.mid.watches) (sym same)
        (step_now rows old.whole given step.mid t.are.order t.now spelled line reply step.does) in
        let can : IsState step.mid.state = subst IsState (sym same) (reached_can_be rows world lines told old r) in
        let calm : AreLines step.mid.state step.mid.watches [] =
        calm_lines step.mid.state step.mid.watches
        (each_found (λ (name : List ℕ) (watch : Watch). IsCalm step.mid.state watch) step.mid.watches are.order
        (λ name watch e. (all_found wants (is_name name) watch step.mid.watches are.some e, now name watch e))) in
        (Tells-one one lawful step.mid behind [] new.whole step.mid can step.tells
        (record { lines_are = calm; left = refl })).0
