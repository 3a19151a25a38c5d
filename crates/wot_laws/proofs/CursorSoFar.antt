-- A cursor since it began: what it depends on, and how far it has come.
use Rattle.std.proofs.Common.{◌≡◌, ◌⊎◌, inl, inr, ℕ, ◌<◌, ◌≤◌, ◌==◌, Bool, true, false, List, [], ◌∷◌, ◌++◌}
use Rattle.std.proofs.Common.{length, map, Option, Some, None, refl, sym, ap, subst, ◌∙◌, arith, append_assoc}
use Rattle.std.proofs.Common.{append-nil}
use Rattle.std.specs.Prelude.{◌&&◌, MatchBool, if◌then◌else◌, is_some}
use Rattle.std.specs.declared.cmp.Ordering.{Ordering}
use Rattle.std.specs.declared.cmp.Ordering.TheVariants.{Less, Equal, Greater}
use Rattle.std.specs.Map.{set_value}
use Rattle.std.specs.Option.{option_map_or, unwrap_or}
use Rattle.std.specs.Ordering.{is_eq, ordering_reverse}
use Rattle.std.proofs.lemmas.Bool.{eqb-true, or_parts}
use Rattle.std.proofs.lemmas.Cmp.{nat_list_cmp_total}
use Rattle.std.proofs.lemmas.List.{length-map, length-take}
use Rattle.std.proofs.lemmas.Option.{same_Some}
use Rattle.wot_types.specs.ViewName.{view_name_cmp}
use Rattle.wot_types.specs.declared.place.Place.{Place}
use Rattle.wot_policy.specs.declared.rows.PolicyRows.{PolicyRows}
use Rattle.wot_component.specs.Ranked.{IsRising}
use Rattle.wot_script.specs.declared.command.Command.{Command}
use Rattle.wot_script.specs.declared.reply.Reply.{Reply}
use Rattle.wot_script.specs.declared.reply.Reply.TheVariants as replies
use Rattle.wot_cache.specs.declared.view.View.{View}
use Rattle.wot_cache.specs.Revisions.{revision_at}
use Rattle.wot_cache.specs.Views.{view_at}
use Rattle.wot_cursor.specs.Age.{age_of}
use Rattle.wot_table.specs.Table.{entry_at, is_name, with_entry, without_entry}
use Rattle.wot_cursor.specs.Cursors.{Cursor, Cursors, begun, is_full, with_place}
use Rattle.wot_cursor.specs.declared.stamps.Age.{Age}
use Rattle.wot_cursor.specs.declared.stamps.Age.TheVariants as ages
use Rattle.wot_explain.specs.declared.bind.Bind.{Bind}
use Rattle.wot_explain.specs.Piece.{binds_after, piece_of}
use Rattle.wot_keyring_spec.specs.Held.{Held}
use Rattle.wot_network.specs.Records.{record_of}
use Rattle.wot_watch.specs.Watches.{Watches}
use Rattle.wot_explain.specs.Listing.{IsListed, pairs_in}
use Rattle.wot_plain.specs.declared.class.Class.{Class}
use Rattle.wot_plain.specs.declared.class.Class.TheVariants.{State as OfState, Cursor as OfCursor, Watch as OfWatch}
use Rattle.wot_plain.specs.declared.class.CursorCommand.TheVariants as paces
use Rattle.wot_plain.specs.Classes.{class_of}
use Rattle.wot_laws.specs.Exchanges.{Exchange, Passes}
use Rattle.wot_laws.specs.Joined.{Given, IsNext, given_by, given_in, has_restart, is_done}
use Rattle.wot_laws.specs.Joined.{given_to, is_restart, is_restart_by, pieces_in}
use Rattle.wot_plain.specs.Entry.{use_of}
use Rattle.wot_plain.specs.Lines.{command_in_line}
use Rattle.wot_plain.specs.LineStep.{LineStep, CommandStep}
use Rattle.wot_plain.specs.Listing.{AreBindings, bind_line}
use Rattle.wot_plain.specs.Pacing.{Begins, Ends, GivesPiece, Goes, GoesBy, GoesFrom, Leaves, Paces, behind, is_pacing}
use Rattle.wot_plain.specs.Pacing.{last_place, piece, stamps_in}
use Rattle.wot_plain.specs.Scene.{Scene, served_in}
use Rattle.wot_plain.specs.Served.{Served}
use Rattle.wot_plain.specs.Watching.{ReportsWatches, told_all}
use Rattle.wot_plain.specs.Session.{IsCounted, Session, turning_of, watched}
use Rattle.wot_plain.proofs.Entries.{apart, found_set, other_put, other_set, other_without}
use Rattle.wot_laws.proofs.LineByCommand.{Hears, hears, step_keeps}
use Rattle.wot_plain.proofs.Paced.{paced_cases, plain_paces}
use Rattle.wot_laws.proofs.Behind.{HasCome, next_piece, place_behind}
use Rattle.wot_laws.proofs.SortedStates.{bind_cmp}
use Rattle.wot_plain.proofs.Viewed.{AreViewsInOrder, IsShown, does_views, order_by, same_name, shown_by, turns_more}
use Rattle.wot_laws.proofs.StaleTold.{Aged, aged}

-- ---- what a list depends on

-- either what is held and the count of changes are unchanged, or the count rose
abbrev pub IsHeld : Session → Session → Type 0
IsHeld was now = ((now.state.held ≡ was.state.held) × (now.changes ≡ was.changes)) ⊎ (was.changes < now.changes)

held_by : (was old new : Session) → IsCounted old new → IsHeld was old → IsHeld was new
held_by was old new (inl c) (inl h) = inl (c.0 ∙ h.0, c.1 ∙ h.1)
held_by was old new (inl c) (inr more) = inr (omega (arith, c.1, more))
held_by was old new (inr c) (inl h) = inr (omega (arith, c.1, h.1))
held_by was old new (inr c) (inr more) = inr (omega (arith, c.1, more))

pub record IsLater (view : List ℕ) (was now : Session) : Type 0 where
  pub order : AreViewsInOrder now.state.views
  pub revisions : was.revisions.count ≤ now.revisions.count
  pub held : IsHeld was now
  pub shown : IsShown view was.state.views was.revisions now.state.views now.revisions

pub later_itself : (view : List ℕ) (was : Session) → AreViewsInOrder was.state.views → IsLater view was was
later_itself view was order = record {
  order = order;
  revisions = omega arith;
  held = inl (refl, refl);
  shown =
      inl (refl, refl);
}

-- watches don't matter to it
later_watched : (view : List ℕ) (was now : Session) (watches : Watches) → IsLater view was now
    → IsLater view was (watched now watches)
later_watched view was now watches l = record { order = l.order; revisions = l.revisions; held = l.held; shown = l.shown }

pub later_obeys : (rows : PolicyRows) (view : List ℕ) (was old : Session) (class : Class) (answer : Served)
    (reply : Reply) (new : Session)
    → CommandStep rows old class answer reply new → IsLater view was old → IsLater view was new
later_obeys rows view was old class answer reply new o l =
    let views = does_views rows old.state class answer reply new.state o.does in
    let more = turns_more (turning_of class) old.state.views old.revisions new.state.views new.revisions o.turned in
    record {
      order = order_by (turning_of class) old.state.views new.state.views views l.order;
      revisions = omega (arith, more, l.revisions);
      held = held_by was old new o.counted l.held;
      shown =
          shown_by view was.state.views was.revisions (turning_of class) old.state.views old.revisions new.state.views
          new.revisions l.order l.revisions views o.turned l.shown;
    }

held_same : (was now : Session) → IsHeld was now → was.changes ≡ now.changes → now.state.held ≡ was.state.held
held_same was now (inl h) e = h.0
held_same was now (inr more) e = absurd (omega (arith, more, e))

view_same : (view : List ℕ) (was now : Session) (shown : View) → unwrap_or (revision_at was.revisions view) 0 ≤ was.revisions.count
    → IsShown view was.state.views was.revisions now.state.views now.revisions
    → unwrap_or (revision_at was.revisions view) 0 ≡ unwrap_or (revision_at now.revisions view) 0
    → view_at now.state.views view ≡ Some shown → view_at was.state.views view ≡ Some shown
view_same view was now shown few (inl p) e seen = sym p.0 ∙ seen
view_same view was now shown few (inr (inl none)) e seen = let never : None ≡ Some shown = sym none ∙ seen in
    absurd (cc never)
view_same view was now shown few (inr (inr later)) e seen = absurd (omega (arith, few, later, e))

-- ---- other cursors

turned_eq : (o : Ordering) → is_eq (ordering_reverse o) ≡ is_eq o
turned_eq Less = refl
turned_eq Equal = refl
turned_eq Greater = refl

other_name : (name other : List ℕ) → is_name name other ≡ false → is_name other name ≡ false
other_name name other e = ap is_eq (nat_list_cmp_total.antisymm other name) ∙ turned_eq (view_name_cmp name other) ∙ e

module _ (name other : List ℕ) (cursors : Cursors) (e : is_name name other ≡ false) where
  others_begun : (cursor : Cursor) → entry_at (with_entry cursors other cursor) name ≡ entry_at cursors name
  others_begun cursor =
      other_put view_name_cmp nat_list_cmp_total other name cursor cursors
      (apart view_name_cmp nat_list_cmp_total other name (other_name name other e))

  others_ended : entry_at (without_entry cursors other) name ≡ entry_at cursors name
  others_ended = other_without view_name_cmp nat_list_cmp_total other name cursors
      (apart view_name_cmp nat_list_cmp_total other name (other_name name other e))

  others_moved : (place : Place) → entry_at (with_place cursors other place) name ≡ entry_at cursors name
  others_moved place = by (entry_at cursors other)
    where
      by : (o : Option Cursor)
          → entry_at (option_map_or (λ cursor. set_value (is_name other) cursors
          (record cursor { place = Some place })) o cursors) name ≡ entry_at cursors name
      by None = refl
      by (Some cursor) =
          other_set view_name_cmp nat_list_cmp_total other name (record cursor { place = Some place }) cursors
          (apart view_name_cmp nat_list_cmp_total other name (other_name name other e))

  others_behind : (binds : List Bind) → entry_at (behind cursors other binds) name ≡ entry_at cursors name
  others_behind [] = refl
  others_behind (bind ∷ binds) = others_moved (last_place bind binds)

-- ---- a piece of another cursor

module _ (now : Session) (name other : List ℕ) (count : ℕ) (reply : Reply) (cursors : Cursors)
    (e : is_name name other ≡ false) where
  abbrev Same : Type 0
  Same = entry_at cursors name ≡ entry_at now.cursors name

  same_left : cursors ≡ now.cursors → Same
  same_left left = ap (λ (cs : Cursors). entry_at cs name) left

  gives_other : (cursor : Cursor) (view : View) → GivesPiece now other count cursor view reply cursors → Same
  gives_other cursor view = by (cursor.wanted == 0)
    where
      by : (b : Bool)
          → MatchBool b (Leaves (piece []) now.cursors reply cursors)
          ((all : List Bind) × AreBindings now.state view cursor.wanted all
          × Leaves (piece (piece_of cursor.place count all))
          (behind now.cursors other (piece_of cursor.place count all)) reply cursors)
          → Same
      by true g = same_left g.1
      by false g = ap (λ (cs : Cursors). entry_at cs name) g.2.1 ∙ others_behind name other now.cursors e
          (piece_of cursor.place count g.0)

  goes_other_by : (age : Age) (cursor : Cursor) (view : View) → GoesBy age now other count cursor view reply cursors
      → Same
  goes_other_by ages.Same cursor view g = gives_other cursor view g
  goes_other_by (ages.Keyring was is) cursor view g = same_left g.1
  goes_other_by (ages.View was is) cursor view g = same_left g.1

  goes_other_from : (o : Option View) (cursor : Cursor) → GoesFrom o now other count cursor reply cursors → Same
  goes_other_from None cursor g = same_left g.1
  goes_other_from (Some view) cursor g = goes_other_by (age_of cursor.stamps (stamps_in now cursor.view)) cursor view g

  goes_other : (o : Option Cursor) → Goes o now other count reply cursors → Same
  goes_other None g = same_left g.1
  goes_other (Some cursor) g = goes_other_from (view_at now.state.views cursor.view) cursor g

-- ---- commands that aren't of cursors

plain_given : (name : List ℕ) (class : Class) (reply : Option Reply) → is_pacing class ≡ false
    → given_to name class reply ≡ []
plain_given name (OfState command) reply e = refl
plain_given name (OfWatch watch command) reply e = refl
plain_given name (OfCursor cursor command) reply e = absurd (cc e)

-- ---- the cursor

-- A cursor began in a state from an open view; this is the list there.
pub record Began (name view : List ℕ) (wanted : ℕ) (was : Session) (shown : View) (all : List Bind) : Type 0 where
  pub few : unwrap_or (revision_at was.revisions view) 0 ≤ was.revisions.count
  pub wants : 1 ≤ wanted
  pub seen : view_at was.state.views view ≡ Some shown
  pub list : AreBindings was.state shown wanted all
  pub rising : IsRising bind_cmp all
  pub one : (others : List Bind) → AreBindings was.state shown wanted others → others ≡ all

not_restart : (b : Bool) → (b && true) ≡ false → b ≡ false
not_restart true e = e
not_restart false e = refl

module _ (name view : List ℕ) (wanted : ℕ) (was : Session) (shown : View) (all : List Bind)
    (began : Began name view wanted was shown all) where
  abbrev at_place : Option Place → Cursor
  at_place place = record { view = view; wanted = wanted; stamps = stamps_in was view; place = place }

  -- the cursor exists, and has come this far
  pub record HasCursor (cursors : Cursors) (given : List Given) : Type 0 where
    pub place : Option Place
    pub there : entry_at cursors name ≡ Some (at_place place)
    pub come : HasCome all place given

  stays : (old new : Cursors) (given : List Given) → entry_at new name ≡ entry_at old name → HasCursor old given
      → HasCursor new given
  stays old new given e h = record { place = h.place; there = e ∙ h.there; come = h.come }

  left : (old new : Cursors) (given : List Given) → new ≡ old → HasCursor old given → HasCursor new given
  left old new given e h = stays old new given (ap (λ (cs : Cursors). entry_at cs name) e) h

  more_of : (cursors : Cursors) (given more : List Given) → more ≡ [] → HasCursor cursors given
      → HasCursor cursors (given ++ more)
  more_of cursors given more e h =
      subst (HasCursor cursors) (sym (ap (λ (gs : List Given). given ++ gs) e ∙ append-nil given)) h

  -- ---- a piece of this cursor

  module _ (now : Session) (count : ℕ) (reply : Reply) (cursors : Cursors) (given : List Given)
      (later : IsLater view was now) (h : HasCursor now.cursors given) where
    abbrev Goal : Type 0
    Goal = HasCursor cursors (given ++ given_by count (Some reply)) × IsNext was now view count reply

    -- it doesn't move after this reply
    unmoved : (told : Reply) → given_by count (Some told) ≡ [] → IsNext was now view count told
        → Leaves told now.cursors reply cursors → Goal
    unmoved told none next l = (
      more_of cursors given (given_by count (Some reply)) (ap (λ (r : Reply). given_by count (Some r)) l.0 ∙ none)
          (left now.cursors cursors given l.1 h),
      subst (IsNext was now view count) (sym l.0) next,
    )

    moved : (p : List Bind) → entry_at (behind now.cursors name p) name ≡ Some (at_place (place_behind h.place p))
    moved [] = h.there
    moved (bind ∷ binds) =
        let place = last_place bind binds in
        ap (λ (o : Option Cursor). entry_at
        (option_map_or (λ cursor. set_value (is_name name) now.cursors (record cursor { place = Some place })) o
        now.cursors) name) h.there
        ∙ found_set (is_name name) (at_place (Some place)) now.cursors (ap is_some h.there)

    piece_moves : Leaves (piece (piece_of h.place count all)) (behind now.cursors name (piece_of h.place count all))
        reply cursors
        → stamps_in now view ≡ stamps_in was view → Goal
    piece_moves l same =
        let p = piece_of h.place count all in
        let few : length (map bind_line p) ≤ count =
        omega (arith, length-map p bind_line, length-take count (binds_after h.place all)) in (
          subst (λ (r : Reply). HasCursor cursors (given ++ given_by count (Some r))) (sym l.0)
              (record {
                place = place_behind h.place p;
                there = ap (λ (cs : Cursors). entry_at cs name) l.1 ∙ moved p;
                come = next_piece all h.place given count began.rising h.come;
              }),
          subst (IsNext was now view count) (sym l.0) (same, sym (length-map p bind_line), few),
        )

    gives_own : (v : View) → view_at now.state.views view ≡ Some v → was.changes ≡ now.changes
        → unwrap_or (revision_at was.revisions view) 0 ≡ unwrap_or (revision_at now.revisions view) 0
        → GivesPiece now name count (at_place h.place) v reply cursors → Goal
    gives_own v seen same revision = by (wanted == 0) refl
      where
        held : now.state.held ≡ was.state.held
        held = held_same was now later.held same

        here : v ≡ shown
        here = same_Some v shown (sym (view_same view was now v began.few later.shown revision seen) ∙ began.seen)

        stamps : stamps_in now view ≡ stamps_in was view
        stamps = λ i. record { keyring = sym same i; view = sym revision i }

        listed : (others : List Bind) → AreBindings now.state v wanted others
            → AreBindings was.state shown wanted others
        listed others l =
            subst (λ (x : View). IsListed (record_of was.state.held.certs was.state.held.verdicts x.time) x.roots wanted
            (pairs_in was.state.held.certs) others) here
            (subst (λ (k : Held). IsListed (record_of k.certs k.verdicts v.time) v.roots wanted (pairs_in k.certs)
            others) held l)

        by : (b : Bool) → (wanted == 0) ≡ b
            → MatchBool b (Leaves (piece []) now.cursors reply cursors)
            ((others : List Bind) × AreBindings now.state v wanted others
            × Leaves (piece (piece_of h.place count others)) (behind now.cursors name (piece_of h.place count others))
            reply cursors)
            → Goal
        by true none g = let zero = eqb-true wanted 0 none in absurd (omega (arith, zero, began.wants))
        by false some g =
            piece_moves
            (subst (λ (binds : List Bind). Leaves (piece (piece_of h.place count binds))
            (behind now.cursors name (piece_of h.place count binds)) reply cursors)
            (began.one g.0 (listed g.0 g.1)) g.2) stamps

    goes_by : (age : Age) (v : View) → view_at now.state.views view ≡ Some v
        → Aged (stamps_in was view) (stamps_in now view) age
        → GoesBy age now name count (at_place h.place) v reply cursors → Goal
    goes_by ages.Same v seen a g = gives_own v seen a.0 a.1 g
    goes_by (ages.Keyring old new) v seen a g =
        unmoved (replies.StaleKeyring old new) refl (record { then_is = a.0; now_is = a.1; other = a.2 }) g
    goes_by (ages.View old new) v seen a g = unmoved (replies.StaleView old new) refl
        (record { then_is = a.0; now_is = a.1; other = a.2 }) g

    goes_from : (o : Option View) → view_at now.state.views view ≡ o
        → GoesFrom o now name count (at_place h.place) reply cursors → Goal
    goes_from None none g = unmoved replies.View refl none g
    goes_from (Some v) seen g = goes_by (age_of (stamps_in was view) (stamps_in now view)) v seen
        (aged (stamps_in was view) (stamps_in now view)) g

    pub goes_own : Goes (entry_at now.cursors name) now name count reply cursors → Goal
    goes_own g =
        goes_from (view_at now.state.views view) refl
        (subst (λ (o : Option Cursor). Goes o now name count reply cursors) h.there g)

  -- ---- each command of a cursor

  module _ (now : Session) (reply : Reply) (cursors : Cursors) (given : List Given) (later : IsLater view was now)
      (h : HasCursor now.cursors given) where
    abbrev Comes : Class → Type 0
    Comes class = is_restart_by name class (Some reply) ≡ false →
        HasCursor cursors (given ++ given_to name class (Some reply))

    over_comes : (other from : List ℕ) (n : ℕ) (o : Option View) → Begins now other from n o reply cursors
        → Comes (OfCursor other (paces.Over from n))
    over_comes other from n None l fresh = more_of cursors given [] refl (left now.cursors cursors given l.1 h)
    over_comes other from n (Some there) l fresh = by (is_full now.cursors other) l
      where
        by : (b : Bool)
            → MatchBool b (Leaves replies.FullCursors now.cursors reply cursors)
            (Leaves replies.Done (with_entry now.cursors other (begun from n (stamps_in now from))) reply cursors)
            → HasCursor cursors (given ++ [])
        by true l = more_of cursors given [] refl (left now.cursors cursors given l.1 h)
        by false l =
            let apart = not_restart (is_name name other) (ap (λ (r : Reply). is_name name other && is_done (Some r))
            (sym l.0) ∙ fresh) in
            more_of cursors given [] refl
            (stays now.cursors cursors given (ap (λ (cs : Cursors). entry_at cs name) l.1
            ∙ others_begun name other now.cursors apart (begun from n (stamps_in now from))) h)

    close_comes : (other : List ℕ) → Ends now other reply cursors → Comes (OfCursor other paces.Close)
    close_comes other l fresh = by (is_some (entry_at now.cursors other)) l
      where
        by : (b : Bool)
            → MatchBool b (Leaves replies.Done (without_entry now.cursors other) reply cursors)
            (Leaves replies.NoCursor now.cursors reply cursors)
            → HasCursor cursors (given ++ [])
        by true l =
            let apart = not_restart (is_name name other) (ap (λ (r : Reply). is_name name other && is_done (Some r))
            (sym l.0) ∙ fresh) in
            more_of cursors given [] refl
            (stays now.cursors cursors given (ap (λ (cs : Cursors). entry_at cs name) l.1
            ∙ others_ended name other now.cursors apart) h)
        by false l = more_of cursors given [] refl (left now.cursors cursors given l.1 h)

    next_comes : (other : List ℕ) (count : ℕ) → Goes (entry_at now.cursors other) now other count reply cursors
        → Comes (OfCursor other (paces.Next count))
    next_comes other count g fresh = by (is_name name other) refl
      where
        by : (b : Bool) → is_name name other ≡ b
            → HasCursor cursors (given ++ (if b then given_by count (Some reply) else []))
        by true e =
            (goes_own now count reply cursors given later h
            (subst (λ (n : List ℕ). Goes (entry_at now.cursors n) now n count reply cursors)
            (sym (same_name name other e)) g)).0
        by false e =
            more_of cursors given [] refl
            (stays now.cursors cursors given (goes_other now name other count reply cursors e
            (entry_at now.cursors other) g) h)

    comes : (class : Class) → Paces now class reply cursors → Comes class
    comes class p fresh = by (is_pacing class) refl
      where
        by : (b : Bool) → is_pacing class ≡ b → HasCursor cursors (given ++ given_to name class (Some reply))
        by true k =
            paced_cases (λ (c : Class). Paces now c reply cursors → Comes c)
            (λ other from n. over_comes other from n (view_at now.state.views from))
            (λ other count. next_comes other count) (λ other. close_comes other) class k p fresh
        by false k =
            more_of cursors given (given_to name class (Some reply)) (plain_given name class (Some reply) k)
            (left now.cursors cursors given (plain_paces now class reply cursors k p) h)

  -- ---- lines

  module _ (rows : PolicyRows) where
    step_later : (old : Session) (line : List ℕ) (answer : Served) (reply : Option Reply) (new : Session)
        → LineStep rows old line answer reply new
        → IsLater view was old → IsLater view was new
    step_later = step_keeps rows (IsLater view was) (λ old command answer reply new. later_obeys rows view was old
        command answer reply new)

    step_comes : (old : Session) (line : List ℕ) (answer : Served) (reply : Option Reply) (new : Session)
        (given : List Given) → LineStep rows old line answer reply new
        → is_restart name (command_in_line line) reply ≡ false → IsLater view was old → HasCursor old.cursors given
        → HasCursor new.cursors (given ++ given_in name (command_in_line line) reply)
    step_comes old line answer reply new given step fresh later h =
        by (command_in_line line) reply fresh (hears rows old line answer reply new step)
      where
        by : (o : Option Command) (r : Option Reply) → is_restart name o r ≡ false → Hears rows old o answer r new
            → HasCursor new.cursors (given ++ given_in name o r)
        by None r f e = more_of new.cursors given [] refl
            (left old.cursors new.cursors given (ap (λ (w : Session). w.cursors) e) h)
        by (Some command) None f g = absurd g
        by (Some command) (Some r) f g = comes old r new.cursors given later h (class_of command)
            g.paces f

    pub record Stands (now : Session) (given : List Given) : Type 0 where
      pub later : IsLater view was now
      pub cursor : HasCursor now.cursors given

    -- watch lines don't matter to it
    pub stands_told : (now : Session) (told : List Reply) (new : Session) (given : List Given) → ReportsWatches now told new
        → Stands now given → Stands new given
    stands_told now told new given t s =
        subst (λ (w : Session). Stands w given) (sym t.left)
        (record { later = later_watched view was now (told_all now.watches told) s.later; cursor = s.cursor })

    pub passes_on : (exchanges : List Exchange) (old new : Scene) (given : List Given) → Passes rows old exchanges new
        → has_restart name exchanges ≡ false → Stands old.whole given
        → Stands new.whole (given ++ pieces_in name exchanges)
    passes_on [] old new given e fresh s =
        subst (λ (scene : Scene). Stands scene.whole (given ++ [])) (sym e)
        (subst (Stands old.whole) (sym (append-nil given)) s)
    passes_on (x ∷ exchanges) old new given p fresh s =
        let parts = or_parts (is_restart name (command_in_line x.line) x.reply) (has_restart name exchanges) fresh in
        let answer = served_in old (use_of (command_in_line x.line)) in
        let more = given_in name (command_in_line x.line) x.reply in
        let mid : Stands p.1.mid (given ++ more) = record {
          later = step_later old.whole x.line answer x.reply p.1.mid p.1.does s.later;
          cursor = step_comes old.whole x.line answer x.reply p.1.mid given p.1.does parts.0 s.later s.cursor;
        } in
        let after : Stands p.0.whole (given ++ more) = stands_told p.1.mid x.reported p.0.whole (given ++ more) p.1.tells
        mid in
        subst (Stands new.whole) (append_assoc given more (pieces_in name exchanges))
        (passes_on exchanges p.0 new (given ++ more) p.2 parts.1 after)
