-- In every reached state each watch is true: its last reported amount is the current one.
use Rattle.std.proofs.Common.{◌≡◌, ℕ, ◌≤◌, Bool, true, false, cond, List, [], ◌∷◌, ◌++◌, length, Option, Some, None}
use Rattle.std.proofs.Common.{refl, sym, ap, subst, ◌∙◌, append_assoc, arith}
use Rattle.std.specs.Prelude.{◌==◌, MatchBool, if◌then◌else◌, is_some, nat_lt}
use Rattle.std.specs.List.{AllByRecursion}
use Rattle.std.specs.declared.cmp.Ordering.TheVariants.{Less}
use Rattle.std.proofs.lemmas.Bool.{eqb-false, eqb-true}
use Rattle.std.proofs.lemmas.Cmp.{nat_list_cmp_total}
use Rattle.std.proofs.lemmas.Grind.{flat_map-append}
use Rattle.std.proofs.lemmas.List.{append-nil}
use Rattle.std.proofs.lemmas.Option.{same_Some}
use Rattle.wot_types.specs.declared.fpr.Fpr.{Fpr}
use Rattle.wot_types.specs.ViewName.{view_name_cmp}
use Rattle.wot_policy.specs.declared.rows.PolicyRows.{PolicyRows}
use Rattle.wot_edge.specs.declared.path.Path.{Path}
use Rattle.wot_edge.specs.Answer.{IsAnswer, amount_of}
use Rattle.wot_component.specs.Ranked.{IsRising}
use Rattle.wot_script.specs.Grammar.{command_of}
use Rattle.wot_script.specs.Spelling.{HasSpelling}
use Rattle.wot_script.specs.declared.command.Command.{Command}
use Rattle.wot_script.specs.declared.reply.Reply.{Reply}
use Rattle.wot_script.specs.declared.reply.Reply.TheVariants as replies
use Rattle.wot_certd.specs.World.{World}
use Rattle.wot_cache.specs.declared.view.View.{View}
use Rattle.wot_cache.specs.Question.{question_in}
use Rattle.wot_cache.specs.State.{State}
use Rattle.wot_cache.specs.Views.{view_at}
use Rattle.wot_table.specs.Table.{entry_at, is_name, with_entry, without_entry}
use Rattle.wot_watch.specs.Watches.{Watch, Watches, is_full}
use Rattle.wot_plain.specs.declared.class.Class.{Class}
use Rattle.wot_plain.specs.Classes.{IsFit, class_of}
use Rattle.wot_laws.proofs.Fit.{fit_of}
use Rattle.wot_plain.specs.Entry.{use_of}
use Rattle.wot_plain.specs.Lines.{command_in_line, is_silent, longest}
use Rattle.wot_plain.specs.LineStep.{ReadLineStep, HasReply, LineStep, CommandStep, Stays}
use Rattle.wot_plain.specs.Scene.{Scene, Step, opening, served_in}
use Rattle.wot_plain.specs.Served.{Served}
use Rattle.wot_plain.specs.Transcript.{Run, listed}
use Rattle.wot_plain.specs.Watching.{AreLines, HasAmount, IsWatchLine, LeavesWatches, Opens, TakesOff, ReportsWatches}
use Rattle.wot_plain.specs.Watching.{Watching}
use Rattle.wot_plain.specs.Watching.{is_watching, line_by, opened, with_line}
use Rattle.wot_plain.specs.Session.{Session}
use Rattle.wot_laws.specs.TrueWatches.{IsAmountOf, IsLast, IsNews}
use Rattle.wot_laws.specs.TrueWatches.{WatchLinesAreNews, WatchesAreTrue}
use Rattle.wot_laws.specs.Numbers.{amount_in}
use Rattle.wot_laws.specs.TrueWatches.{amounts_in, line_cmp, name_in}
use Rattle.wot_plain.proofs.Entries.{AllValues, all_found, all_put, all_without, apart, found_put, gone_without}
use Rattle.wot_plain.proofs.Entries.{other_put, other_without, rising_put, rising_without}
use Rattle.wot_laws.proofs.StaleTold.{untold}
use Rattle.wot_laws.proofs.WatchLines.{AreByName, all_keep, all_order, behind, is_itself, last_behind, none_of}
use Rattle.wot_laws.proofs.WatchLines.{other_way}
use Rattle.wot_laws.proofs.WatchLines.{same_name, was_there}
use Rattle.wot_plain.proofs.Watched.{amount_has, lines_are_watch, plain_watching}
use Rattle.wot_plain.proofs.Watched.{watched_cases}

-- ---- what was reported so far

abbrev pub wants : Watch → Type 0
wants watch = 1 ≤ watch.wanted

-- the watches have the amounts that were last reported for them
pub record AreTold (told : List Reply) (watches : Watches) : Type 0 where
  pub order : AreByName watches
  pub some : AllValues wants watches
  pub last : (name : List ℕ) (watch : Watch) → entry_at watches name ≡ Some watch → IsLast (amounts_in name told) watch.told

amounts_behind : (name : List ℕ) (told : List Reply) (reply : Reply)
    → amounts_in name (told ++ reply ∷ []) ≡ amounts_in name told ++ (amount_in name reply ++ [])
amounts_behind name told reply = flat_map-append (amount_in name) told (reply ∷ [])

no_more : (name : List ℕ) (told : List Reply) (reply : Reply) → amount_in name reply ≡ []
    → amounts_in name (told ++ reply ∷ []) ≡ amounts_in name told
no_more name told reply e =
    amounts_behind name told reply ∙ ap (λ (ns : List ℕ). amounts_in name told ++ (ns ++ [])) e
    ∙ append-nil (amounts_in name told)

module _ (told : List Reply) where
  -- a reply without an amount
  still_told : (watches : Watches) (reply : Reply) → ((name : List ℕ) → amount_in name reply ≡ [])
      → AreTold told watches
      → AreTold (told ++ reply ∷ []) watches
  still_told watches reply none t = record {
    order = t.order;
    some = t.some;
    last = λ name watch e. subst (λ (ns : List ℕ). IsLast ns watch.told) (sym (no_more name told reply (none name)))
        (t.last name watch e);
  }

  -- a watch that begins
  begun_told : (watches : Watches) (name : List ℕ) (new : Watch) → wants new → AreTold told watches
      → AreTold (told ++ replies.WatchAmount name new.told ∷ []) (with_entry watches name new)
  begun_told watches name new some t = record {
    order = rising_put view_name_cmp nat_list_cmp_total name new watches t.order;
    some = all_put wants view_name_cmp name new watches some t.some;
    last = λ other watch e. by other watch (is_name name other) refl e;
  }
    where
      own : (watch : Watch) → entry_at (with_entry watches name new) name ≡ Some watch
          → IsLast (amounts_in name (told ++ replies.WatchAmount name new.told ∷ [])) watch.told
      own watch e =
          let same : new ≡ watch =
          same_Some new watch (sym (found_put view_name_cmp nat_list_cmp_total name new watches) ∙ e) in (
            amounts_in name told,
            amounts_behind name told (replies.WatchAmount name new.told)
                ∙ ap (λ (b : Bool). amounts_in name told ++ ((if b then new.told ∷ [] else []) ++ [])) (is_itself name)
                ∙ ap (λ (w : Watch). amounts_in name told ++ w.told ∷ []) same,
          )

      by : (other : List ℕ) (watch : Watch) (b : Bool) → is_name name other ≡ b
          → entry_at (with_entry watches name new) other ≡ Some watch
          → IsLast (amounts_in other (told ++ replies.WatchAmount name new.told ∷ [])) watch.told
      by other watch true h e =
          subst
          (λ (n : List ℕ). entry_at (with_entry watches name new) n ≡ Some watch
          → IsLast (amounts_in n (told ++ replies.WatchAmount name new.told ∷ [])) watch.told)
          (same_name name other h) (own watch) e
      by other watch false h e =
          let was : entry_at watches other ≡ Some watch =
          sym (other_put view_name_cmp nat_list_cmp_total name other new watches
          (apart view_name_cmp nat_list_cmp_total name other h)) ∙ e in
          let none : amount_in other (replies.WatchAmount name new.told) ≡ [] =
          ap (λ (b : Bool). if b then new.told ∷ [] else []) (other_way name other h) in
          subst (λ (ns : List ℕ). IsLast ns watch.told)
          (sym (no_more other told (replies.WatchAmount name new.told) none)) (t.last other watch was)

  -- a watch that is removed
  off_told : (watches : Watches) (name : List ℕ) → AreTold told watches → AreTold told (without_entry watches name)
  off_told watches name t = record {
    order = rising_without view_name_cmp nat_list_cmp_total (is_name name) watches t.order;
    some = all_without wants (is_name name) watches t.some;
    last = λ other watch e. by other watch (is_name name other) refl e;
  }
    where
      by : (other : List ℕ) (watch : Watch) (b : Bool) → is_name name other ≡ b
          → entry_at (without_entry watches name) other ≡ Some watch → IsLast (amounts_in other told) watch.told
      by other watch true h e =
          let none : entry_at (without_entry watches name) other ≡ None =
          subst (λ (n : List ℕ). entry_at (without_entry watches name) n ≡ None) (same_name name other h)
          (gone_without view_name_cmp nat_list_cmp_total name watches t.order) in
          let never : None ≡ Some watch = sym none ∙ e in
          absurd (cc never)
      by other watch false h e =
          t.last other watch
          (sym (other_without view_name_cmp nat_list_cmp_total name other watches
          (apart view_name_cmp nat_list_cmp_total name other h)) ∙ e)

  -- ---- one line

  left_told : (said reply : Reply) (left watches : Watches) → LeavesWatches said left reply watches
      → AreTold (told ++ said ∷ []) left → AreTold (told ++ reply ∷ []) watches
  left_told said reply left watches l t =
      subst (λ (r : Reply). AreTold (told ++ r ∷ []) watches) (sym l.0)
      (subst (AreTold (told ++ said ∷ [])) (sym l.1) t)

  opens_told : (s : Session) (name view : List ℕ) (target : Fpr) (wanted : ℕ) (uid : List ℕ) (o : Option View)
      (reply : Reply)
      (watches : Watches) → 1 ≤ wanted → Opens s name view target wanted uid o reply watches → AreTold told s.watches
      → AreTold (told ++ reply ∷ []) watches
  opens_told s name view target wanted uid None reply watches some l t =
      left_told replies.View reply s.watches watches l (still_told s.watches replies.View (λ n. refl) t)
  opens_told s name view target wanted uid (Some there) reply watches some p t = by (is_full s.watches name) p.2
    where
      new : Watch
      new = opened view target wanted uid p.0

      by : (b : Bool)
          → MatchBool b (LeavesWatches replies.FullWatches s.watches reply watches)
          (LeavesWatches (replies.WatchAmount name p.0)
          (with_entry s.watches name (opened view target wanted uid p.0)) reply watches)
          → AreTold (told ++ reply ∷ []) watches
      by true l =
          left_told replies.FullWatches reply s.watches watches l
          (still_told s.watches replies.FullWatches (λ n. refl) t)
      by false l =
          left_told (replies.WatchAmount name p.0) reply (with_entry s.watches name new) watches l
          (begun_told s.watches name new some t)

  takes_told : (s : Session) (name : List ℕ) (reply : Reply) (watches : Watches) → TakesOff s name reply watches
      → AreTold told s.watches → AreTold (told ++ reply ∷ []) watches
  takes_told s name reply watches l t = by (is_some (entry_at s.watches name)) l
    where
      by : (b : Bool)
          → MatchBool b (LeavesWatches replies.Done (without_entry s.watches name) reply watches)
          (LeavesWatches replies.NoWatch s.watches reply watches)
          → AreTold (told ++ reply ∷ []) watches
      by true l =
          left_told replies.Done reply (without_entry s.watches name) watches l
          (still_told (without_entry s.watches name) replies.Done (λ n. refl) (off_told s.watches name t))
      by false l =
          left_told replies.NoWatch reply s.watches watches l (still_told s.watches replies.NoWatch (λ n. refl) t)

  watching_told : (s : Session) (class : Class) (reply : Reply) (watches : Watches) → is_watching class ≡ true
      → IsFit class → Watching s class reply watches → AreTold told s.watches
      → AreTold (told ++ reply ∷ []) watches
  watching_told s class reply watches e =
      watched_cases
      (λ (c : Class). IsFit c → Watching s c reply watches → AreTold told s.watches
      → AreTold (told ++ reply ∷ []) watches)
      (λ name view target wanted uid. opens_told s name view target wanted uid
      (view_at s.state.views view) reply watches)
      (λ name some. takes_told s name reply watches) class e

  module _ (rows : PolicyRows) (old : Session) (given : Served) (new : Session) (t : AreTold told old.watches) where
    obeys_told : (class : Class) (reply : Reply) → IsFit class → CommandStep rows old class given reply new
        → AreTold (told ++ reply ∷ []) new.watches
    obeys_told class reply spelled o = by (is_watching class) refl
      where
        by : (b : Bool) → is_watching class ≡ b → AreTold (told ++ reply ∷ []) new.watches
        by true e = watching_told old class reply new.watches e spelled o.watching t
        by false e =
            subst (AreTold (told ++ reply ∷ [])) (sym (plain_watching old class reply new.watches e o.watching))
            (still_told old.watches reply (λ name. untold rows old class given reply new e o name) t)

    stays_told : (said reply : Reply) → ((name : List ℕ) → amount_in name said ≡ []) → Stays old said reply new
        → AreTold (told ++ reply ∷ []) new.watches
    stays_told said reply none g =
        left_told said reply old.watches new.watches (g.0, ap (λ (w : Session). w.watches) g.1)
        (still_told old.watches said none t)

    pub step_told : ((line : List ℕ) (command : Command) → command_of line ≡ Some command → HasSpelling command)
        → (line : List ℕ) (reply : Option Reply) → LineStep rows old line given reply new
        → AreTold (told ++ listed reply) new.watches
    step_told spelled line reply = long (nat_lt longest (length line))
      where
        known : (o : Option Command) → command_of line ≡ o → (r : Option Reply)
            → HasReply (ReadLineStep rows old o given) r new → AreTold (told ++ listed r) new.watches
        known o e None g = absurd g
        known None e (Some r) g = stays_told replies.Line r (λ n. refl) g
        known (Some command) e (Some r) g = obeys_told (class_of command) r
            (fit_of command (spelled line command e)) g

        silent : (b : Bool)
            → MatchBool b ((reply ≡ None) × (new ≡ old)) (HasReply (ReadLineStep rows old (command_of line) given) reply new)
            → AreTold (told ++ listed reply) new.watches
        silent true g =
            subst (λ (r : Option Reply). AreTold (told ++ listed r) new.watches) (sym g.0)
            (subst (λ (rs : List Reply). AreTold rs new.watches) (sym (append-nil told))
            (subst (λ (w : Session). AreTold told w.watches) (sym g.1) t))
        silent false g = known (command_of line) refl reply g

        stays : (r : Option Reply) → HasReply (Stays old replies.Long) r new → AreTold (told ++ listed r) new.watches
        stays None g = absurd g
        stays (Some r) g = stays_told replies.Long r (λ n. refl) g

        long : (b : Bool)
            → MatchBool b (HasReply (Stays old replies.Long) reply new)
            (MatchBool (is_silent line) ((reply ≡ None) × (new ≡ old))
            (HasReply (ReadLineStep rows old (command_of line) given) reply new))
            → AreTold (told ++ listed reply) new.watches
        long true g = stays reply g
        long false g = silent (is_silent line) g

-- ---- the watch lines after it

pub amount_is : (s : State) (o : Option View) (was : Watch) (amount : ℕ) → wants was
    → HasAmount s o was.target was.wanted was.uid (Some amount) → IsAmountOf s o (record was { told = amount }) amount
amount_is s None was amount some h = absurd (cc h)
amount_is s (Some view) was amount some h = by (was.wanted == 0) refl h.1
  where
    by : (b : Bool) → (was.wanted == 0) ≡ b
        → MatchBool b (h.0 ≡ 0)
        ((paths : List Path) × IsAnswer (question_in s view was.target was.uid) was.wanted paths
        × (h.0 ≡ amount_of paths))
        → (paths : List Path) × IsAnswer (question_in s view was.target was.uid) was.wanted paths
        × (amount ≡ amount_of paths)
    by true e is = let none : was.wanted ≡ 0 = eqb-true was.wanted 0 e in absurd (omega (arith, none, some))
    by false e is = (is.0, is.1, same_Some amount h.0 h.2 ∙ is.2)

-- what holds of a reached state, by everything reported so far
pub record IsTold (told : List Reply) (w : Session) : Type 0 where
  pub are : AreTold told w.watches
  pub now : (name : List ℕ) (watch : Watch) → entry_at w.watches name ≡ Some watch
      → IsAmountOf w.state (view_at w.state.views watch.view) watch watch.told

tells_told : (told lines : List Reply) (old new : Session) → ReportsWatches old lines new → AreTold told old.watches
    → IsTold (told ++ lines) new
tells_told told lines old new tells t = subst (IsTold (told ++ lines)) (sym tells.left) (record {
  are = record {
    order = all_order lines old.watches t.order watch_lines;
    some = all_keep wants (λ watch amount p. p) lines old.watches t.some watch_lines;
    last = λ name watch e.
        let w = was_there old.state old.watches lines name watch t.order watch_lines tells.lines_are e in
        last_behind name told lines w.was.told watch.told (t.last name w.was w.there) w.amounts;
  };
  now = λ name watch e.
      let w = was_there old.state old.watches lines name watch t.order watch_lines tells.lines_are e in
      subst (λ (x : Watch). IsAmountOf old.state (view_at old.state.views x.view) x watch.told) (sym w.same)
      (amount_is old.state (view_at old.state.views w.was.view) w.was watch.told
      (all_found wants (is_name name) w.was old.watches t.some w.there) w.has);
})
  where
    watch_lines : AllByRecursion IsWatchLine lines
    watch_lines = lines_are_watch old.state old.watches lines tells.lines_are

-- ---- news

-- each watch is found by its name
pub each_found : (Q : List ℕ → Watch → Type 0) (watches : Watches) → AreByName watches
    → ((name : List ℕ) (watch : Watch) → entry_at watches name ≡ Some watch → Q name watch)
    → AllByRecursion (λ (e : List ℕ × Watch). Q e.0 e.1) watches
each_found Q [] r f = tt
each_found Q (x ∷ xs) r f = (
  f x.0 x.1 (ap (λ (b : Bool). cond b (Some x.1) (entry_at xs x.0)) (is_itself x.0)),
  each_found Q xs r.1 (λ name watch e. f name watch (further name watch (is_name name x.0) refl e)),
)
  where
    further : (name : List ℕ) (watch : Watch) (b : Bool) → is_name name x.0 ≡ b → entry_at xs name ≡ Some watch
        → entry_at (x ∷ xs) name ≡ Some watch
    further name watch true h e =
        let none : entry_at xs name ≡ None = none_of name xs (behind name x.0 x.1 xs h r.0) in
        let never : None ≡ Some watch = sym none ∙ e in
        absurd (cc never)
    further name watch false h e = ap (λ (b : Bool). cond b (Some x.1) (entry_at xs name)) h ∙ e

with_news : (told : List Reply) (name : List ℕ) (was : ℕ) (amount : Option ℕ) (line : Option Reply)
    (others : List Reply)
    → IsLast (amounts_in name told) was → line ≡ line_by name was amount → AllByRecursion (IsNews told) others
    → AllByRecursion (IsNews told) (with_line line others)
with_news told name was amount line others last is rest =
    subst (λ (o : Option Reply). AllByRecursion (IsNews told) (with_line o others)) (sym is) (by amount)
  where
    unless : (b : Bool) (a : ℕ) → (a == was) ≡ b
        → AllByRecursion (IsNews told) (with_line (if b then None else Some (replies.WatchAmount name a)) others)
    unless true a e = rest
    unless false a e = ((was, last, λ same. eqb-false a was e (sym same)), rest)

    by : (o : Option ℕ) → AllByRecursion (IsNews told) (with_line (line_by name was o) others)
    by None = (tt, rest)
    by (Some a) = unless (a == was) a refl

news_of : (told : List Reply) (s : State) (watches : Watches) (lines : List Reply)
    → AllByRecursion (λ (e : List ℕ × Watch). IsLast (amounts_in e.0 told) e.1.told) watches
    → AreLines s watches lines → AllByRecursion (IsNews told) lines
news_of told s [] lines all p = subst (AllByRecursion (IsNews told)) (sym p) tt
news_of told s (x ∷ xs) lines all p =
    subst (AllByRecursion (IsNews told)) (sym p.4)
    (with_news told x.0 x.1.told p.2.0 p.0 p.1 all.0 p.2.2 (news_of told s xs p.1 all.1 p.3))

-- ---- their order

abbrev IsAbove : List ℕ → Reply → Type 0
IsAbove name line = view_name_cmp name (name_in line) ≡ Less

-- a claim about the line of this watch and about the others holds of all lines
with_named : (P : List Reply → Type 0) (name : List ℕ) (told : ℕ) (amount : Option ℕ) (line : Option Reply)
    (others : List Reply)
    → line ≡ line_by name told amount → P others → ((first : Reply) → name_in first ≡ name → P (first ∷ others))
    → P (with_line line others)
with_named P name told amount line others is rest more =
    subst (λ (o : Option Reply). P (with_line o others)) (sym is) (by amount)
  where
    unless : (b : Bool) (a : ℕ) → P (with_line (if b then None else Some (replies.WatchAmount name a)) others)
    unless true a = rest
    unless false a = more (replies.WatchAmount name a) refl

    by : (o : Option ℕ) → P (with_line (line_by name told o) others)
    by None = more (replies.WatchGone name) refl
    by (Some a) = unless (a == told) a

above_lines : (s : State) (name : List ℕ) (watches : Watches) (lines : List Reply)
    → AllByRecursion (λ (e : List ℕ × Watch). view_name_cmp name e.0 ≡ Less) watches
    → AreLines s watches lines → AllByRecursion (IsAbove name) lines
above_lines s name [] lines all p = subst (AllByRecursion (IsAbove name)) (sym p) tt
above_lines s name (x ∷ xs) lines all p =
    let rest = above_lines s name xs p.1 all.1 p.3 in
    subst (AllByRecursion (IsAbove name)) (sym p.4)
    (with_named (AllByRecursion (IsAbove name)) x.0 x.1.told p.2.0 p.0 p.1 p.2.2 rest
    (λ first e. (ap (view_name_cmp name) e ∙ all.0, rest)))

rising_lines : (s : State) (watches : Watches) (lines : List Reply) → AreByName watches → AreLines s watches lines
    → IsRising line_cmp lines
rising_lines s [] lines r p = subst (IsRising line_cmp) (sym p) tt
rising_lines s (x ∷ xs) lines r p =
    let rest = rising_lines s xs p.1 r.1 p.3 in
    subst (IsRising line_cmp) (sym p.4)
    (with_named (IsRising line_cmp) x.0 x.1.told p.2.0 p.0 p.1 p.2.2 rest
    (λ first e. (
      subst (λ (n : List ℕ). AllByRecursion (IsAbove n) p.1) (sym e)
          (above_lines s x.0 xs p.1 r.0 p.3),
      rest,
    )))

-- ---- if all amounts are reported already

-- its amount was reported, and something is wanted
abbrev pub IsCalm : State → Watch → Type 0
IsCalm s watch = wants watch × IsAmountOf s (view_at s.views watch.view) watch watch.told

calm_has : (s : State) (o : Option View) (watch : Watch) → wants watch → IsAmountOf s o watch watch.told
    → HasAmount s o watch.target watch.wanted watch.uid (Some watch.told)
calm_has s None watch some is = absurd is
calm_has s (Some view) watch some is =
    amount_has s (Some view) watch.target watch.wanted watch.uid is.0 watch.told some refl is.1 is.2

calm_line : (name : List ℕ) (told : ℕ) → None ≡ line_by name told (Some told)
calm_line name told = by (told == told) refl
  where
    by : (b : Bool) → (told == told) ≡ b → None ≡ (if b then None else Some (replies.WatchAmount name told))
    by true e = refl
    by false e = absurd (eqb-false told told e refl)

pub calm_lines : (s : State) (watches : Watches) → AllByRecursion (λ (e : List ℕ × Watch). IsCalm s e.1) watches
    → AreLines s watches []
calm_lines s [] all = refl
calm_lines s (x ∷ xs) all = (
  None,
  [],
  (Some x.1.told, calm_has s (view_at s.views x.1.view) x.1 all.0.0 all.0.1, calm_line x.0 x.1.told),
  calm_lines s xs all.1,
  refl,
)

-- ---- runs

module _ (rows : PolicyRows)
    (spelled : (line : List ℕ) (command : Command) → command_of line ≡ Some command → HasSpelling command)
  where
    run_told : (lines : List (List ℕ)) (old : Scene) (before told : List Reply) (new : Scene)
        → Run rows old lines told new → IsTold before old.whole → IsTold (before ++ told) new.whole
    run_told [] old before told new r t =
        subst (λ (rs : List Reply). IsTold (before ++ rs) new.whole) (sym r.0)
        (subst (λ (rs : List Reply). IsTold rs new.whole) (sym (append-nil before))
        (subst (λ (s : Scene). IsTold before s.whole) (sym r.1) t))
    run_told (line ∷ lines) old before told new r t =
        let step : Step rows old line r.0 r.1 r.2 = r.4 in
        let replied : AreTold (before ++ listed r.0) step.mid.watches =
        step_told before rows old.whole
        (served_in old (use_of (command_in_line line))) step.mid t.are spelled line r.0 step.does in
        let one : IsTold ((before ++ listed r.0) ++ r.1) r.2.whole =
        tells_told (before ++ listed r.0) r.1 step.mid r.2.whole step.tells replied in
        let rest : IsTold (((before ++ listed r.0) ++ r.1) ++ r.3) new.whole =
        run_told lines r.2 ((before ++ listed r.0) ++ r.1) r.3 new r.5 one in
        subst (λ (rs : List Reply). IsTold rs new.whole)
        (ap (λ (rs : List Reply). rs ++ r.3) (append_assoc before (listed r.0) r.1)
        ∙ append_assoc before (listed r.0 ++ r.1) r.3 ∙ ap (λ (rs : List Reply). before ++ rs) (sym r.6)) rest

    pub reached_told : (world : World) (lines : List (List ℕ)) (told : List Reply) (s : Scene)
        → Run rows (opening world) lines told s → IsTold told s.whole
    reached_told world lines told s r =
        run_told lines (opening world) [] told s r
        (record {
          are = record { order = tt; some = tt; last = λ name watch e. absurd (cc e) };
          now = λ name watch e. absurd (cc e);
        })

    pub watches_true : WatchesAreTrue rows
    watches_true world lines told last name watch r e =
        let t = reached_told world lines told last r in
        record { amount = watch.told; last = t.are.last name watch e; now = t.now name watch e }

    pub lines_news : WatchLinesAreNews rows
    lines_news world lines told old line reply behind new r step =
        let t = reached_told world lines told old r in
        let a = step_told told rows old.whole
        (served_in old (use_of (command_in_line line))) step.mid t.are spelled line reply step.does in
        record {
          each =
              news_of (told ++ listed reply) step.mid.state step.mid.watches behind
              (each_found
              (λ (name : List ℕ) (watch : Watch). IsLast (amounts_in name (told ++ listed reply)) watch.told)
              step.mid.watches a.order a.last) step.tells.lines_are;
          order = rising_lines step.mid.state step.mid.watches behind a.order step.tells.lines_are;
        }
