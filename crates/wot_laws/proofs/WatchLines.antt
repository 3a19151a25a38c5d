-- What the watch lines of a state say about one watch, and what is left of it after they were reported.
use Rattle.std.proofs.Common.{◌≡◌, inl, inr, ℕ, Bool, true, false, cond, List, [], ◌∷◌, ◌++◌, Option, Some, None, refl}
use Rattle.std.proofs.Common.{sym, ap, subst, ◌∙◌}
use Rattle.std.specs.Prelude.{◌==◌, if◌then◌else◌, is_some}
use Rattle.std.specs.List.{AllByRecursion}
use Rattle.std.specs.Map.{set_value}
use Rattle.std.specs.Option.{option_map, option_map_or}
use Rattle.std.proofs.lemmas.Bool.{eqb-true}
use Rattle.std.proofs.lemmas.Cmp.{nat_list_cmp_total, tied_itself}
use Rattle.std.proofs.lemmas.Grind.{flat_map-append}
use Rattle.std.proofs.lemmas.List.{append-nil}
use Rattle.std.proofs.lemmas.Map.Text.{is_eq-slice_cmp}
use Rattle.std.proofs.lemmas.Option.{same_Some}
use Rattle.std.proofs.lemmas.Slice.Eq.{bytes_eq-Decides}
use Rattle.std.specs.Ordering.{is_eq}
use Rattle.wot_types.specs.ViewName.{view_name_cmp}
use Rattle.wot_cache.specs.State.{State}
use Rattle.wot_cache.specs.Views.{view_at}
use Rattle.wot_table.specs.Table.{entry_at, is_name, without_entry}
use Rattle.wot_watch.specs.Watches.{Watch, Watches, with_told}
use Rattle.wot_plain.specs.Watching.{HasAmount, AreLines, IsLine, IsWatchLine, line_by, told_all, told_by, with_line}
use Rattle.wot_script.specs.declared.reply.Reply.{Reply}
use Rattle.wot_script.specs.declared.reply.Reply.TheVariants as replies
use Rattle.wot_laws.specs.TrueWatches.{IsLast, amounts_in}
use Rattle.wot_laws.specs.Numbers.{amount_in}
use Rattle.wot_component.specs.Ranked.{IsBelow}
use Rattle.wot_plain.proofs.Entries.{AllValues, AreInOrder, all_found, all_set, all_without, apart, by_key, found_set}
use Rattle.wot_plain.proofs.Entries.{gone_without, other_set, other_without, rising_set, rising_without}

-- ---- names

pub same_name : (name other : List ℕ) → is_name name other ≡ true → name ≡ other
same_name name other e = (bytes_eq-Decides name other).0 (sym (is_eq-slice_cmp name other) ∙ e)

pub is_itself : (name : List ℕ) → is_name name name ≡ true
is_itself name = ap is_eq (tied_itself nat_list_cmp_total name)

-- names differ in either order
pub other_way : (name other : List ℕ) → is_name name other ≡ false → is_name other name ≡ false
other_way name other e = by (is_name other name) refl
  where
    by : (b : Bool) → is_name other name ≡ b → is_name other name ≡ false
    by false h = h
    by true h =
        let never : true ≡ false = sym (is_itself name) ∙ ap (is_name name) (sym (same_name other name h)) ∙ e in
        absurd cc

abbrev pub AreByName : Watches → Type 0
AreByName watches = AreInOrder view_name_cmp watches

-- ---- what a line does to the named watch

abbrev left_by : List ℕ → Option Watch → Reply → Option Watch
left_by name found (replies.WatchAmount other amount) =
    if is_name name other then option_map (λ (w : Watch). record w { told = amount }) found else found
left_by name found (replies.WatchGone other) = if is_name name other then None else found
left_by name found _ = found

abbrev left_all : List ℕ → Option Watch → List Reply → Option Watch
left_all name found [] = found
left_all name found (line ∷ lines) = left_all name (left_by name found line) lines

amount_left : (name other : List ℕ) (amount : ℕ) (watches : Watches)
    → entry_at (told_by watches (replies.WatchAmount other amount)) name
    ≡ left_by name (entry_at watches name) (replies.WatchAmount other amount)
amount_left name other amount watches = by (is_name name other) refl
  where
    new : Watch → Watch
    new w = record w { told = amount }

    at_it : (o : Option Watch) → entry_at watches other ≡ o
        → entry_at
        (option_map_or (λ (w : Watch). set_value (is_name other) watches (record w { told = amount })) o watches) other
        ≡ option_map (λ (w : Watch). record w { told = amount }) o
    at_it None h = h
    at_it (Some w) h = found_set (is_name other) (record w { told = amount }) watches (ap is_some h)

    elsewhere : is_name name other ≡ false → (o : Option Watch)
        → entry_at
        (option_map_or (λ (w : Watch). set_value (is_name other) watches (record w { told = amount })) o watches) name
        ≡ entry_at watches name
    elsewhere e None = refl
    elsewhere e (Some w) =
        other_set view_name_cmp nat_list_cmp_total other name (record w { told = amount }) watches
        (apart view_name_cmp nat_list_cmp_total other name (other_way name other e))

    by : (b : Bool) → is_name name other ≡ b
        → entry_at (told_by watches (replies.WatchAmount other amount)) name
        ≡ (if b then option_map (λ (w : Watch). record w { told = amount })
        (entry_at watches name) else entry_at watches name)
    by true e =
        subst (λ (n : List ℕ). entry_at (with_told watches other amount) n
        ≡ option_map (λ (w : Watch). record w { told = amount }) (entry_at watches n))
        (sym (same_name name other e)) (at_it (entry_at watches other) refl)
    by false e = elsewhere e (entry_at watches other)

gone_left : (name other : List ℕ) (watches : Watches) → AreByName watches
    → entry_at (told_by watches (replies.WatchGone other)) name
    ≡ left_by name (entry_at watches name) (replies.WatchGone other)
gone_left name other watches r = by (is_name name other) refl
  where
    by : (b : Bool) → is_name name other ≡ b
        → entry_at (without_entry watches other) name ≡ (if b then None else entry_at watches name)
    by true e =
        subst (λ (n : List ℕ). entry_at (without_entry watches other) n ≡ None) (sym (same_name name other e))
        (gone_without view_name_cmp nat_list_cmp_total other watches r)
    by false e =
        other_without view_name_cmp nat_list_cmp_total other name watches
        (apart view_name_cmp nat_list_cmp_total other name (other_way name other e))

told_order : (name : List ℕ) (amount : ℕ) (watches : Watches) → AreByName watches
    → AreByName (with_told watches name amount)
told_order name amount watches r = by (entry_at watches name)
  where
    by : (o : Option Watch)
        → AreByName
        (option_map_or (λ (w : Watch). set_value (is_name name) watches (record w { told = amount })) o watches)
    by None = r
    by (Some w) = rising_set view_name_cmp (is_name name) (record w { told = amount }) watches r

one_left : (name : List ℕ) (told : Reply) (watches : Watches) → AreByName watches → IsWatchLine told
    → entry_at (told_by watches told) name ≡ left_by name (entry_at watches name) told
one_left name told watches r (inl is) =
    subst (λ (l : Reply). entry_at (told_by watches l) name ≡ left_by name (entry_at watches name) l) (sym is.2)
    (amount_left name is.0 is.1 watches)
one_left name told watches r (inr is) =
    subst (λ (l : Reply). entry_at (told_by watches l) name ≡ left_by name (entry_at watches name) l) (sym is.1)
    (gone_left name is.0 watches r)

one_order : (told : Reply) (watches : Watches) → AreByName watches → IsWatchLine told → AreByName (told_by watches told)
one_order told watches r (inl is) =
    subst (λ (l : Reply). AreByName (told_by watches l)) (sym is.2) (told_order is.0 is.1 watches r)
one_order told watches r (inr is) =
    subst (λ (l : Reply). AreByName (told_by watches l)) (sym is.1)
    (rising_without view_name_cmp nat_list_cmp_total (is_name is.0) watches r)

-- what holds of each watch, whatever its last amount, holds of those that are left
module _ (P : Watch → Type 0)
    (again : (watch : Watch) (amount : ℕ) → P watch → P (record watch { told = amount })) where
  one_keeps : (told : Reply) (watches : Watches) → AllValues P watches → IsWatchLine told
      → AllValues P (told_by watches told)
  one_keeps told watches all (inl is) =
      subst (λ (l : Reply). AllValues P (told_by watches l)) (sym is.2) (by (entry_at watches is.0) refl)
    where
      by : (o : Option Watch) → entry_at watches is.0 ≡ o
          → AllValues P
          (option_map_or (λ (w : Watch). set_value (is_name is.0) watches (record w { told = is.1 })) o watches)
      by None e = all
      by (Some w) e =
          all_set P (is_name is.0) (record w { told = is.1 }) watches
          (again w is.1 (all_found P (is_name is.0) w watches all e)) all
  one_keeps told watches all (inr is) =
      subst (λ (l : Reply). AllValues P (told_by watches l)) (sym is.1) (all_without P (is_name is.0) watches all)

  pub all_keep : (lines : List Reply) (watches : Watches) → AllValues P watches → AllByRecursion IsWatchLine lines
      → AllValues P (told_all watches lines)
  all_keep [] watches all are = all
  all_keep (told ∷ lines) watches all are =
      all_keep lines (told_by watches told) (one_keeps told watches all are.0) are.1

all_left : (name : List ℕ) (lines : List Reply) (watches : Watches) → AreByName watches
    → AllByRecursion IsWatchLine lines
    → entry_at (told_all watches lines) name ≡ left_all name (entry_at watches name) lines
all_left name [] watches r all = refl
all_left name (line ∷ lines) watches r all =
    all_left name lines (told_by watches line) (one_order line watches r all.0) all.1
    ∙ ap (λ (o : Option Watch). left_all name o lines) (one_left name line watches r all.0)

pub all_order : (lines : List Reply) (watches : Watches) → AreByName watches → AllByRecursion IsWatchLine lines
    → AreByName (told_all watches lines)
all_order [] watches r all = r
all_order (line ∷ lines) watches r all = all_order lines (told_by watches line) (one_order line watches r all.0) all.1

-- ---- the lines of a state

-- none of these has the name
abbrev pub AreOthers : List ℕ → Watches → Type 0
AreOthers name watches = AllByRecursion (λ (e : List ℕ × Watch). is_name name e.0 ≡ false) watches

-- these lines do the same to the named watch
abbrev AreSame : List ℕ → List Reply → List Reply → Type 0
AreSame name lines others =
    ((found : Option Watch) → left_all name found lines ≡ left_all name found others)
    × (amounts_in name lines ≡ amounts_in name others)

-- the line of another watch does nothing to it
with_other : (name other : List ℕ) (told : ℕ) (amount : Option ℕ) (line : Option Reply) (others : List Reply)
    → is_name name other ≡ false → line ≡ line_by other told amount → AreSame name (with_line line others) others
with_other name other told amount line others e is =
    subst (λ (o : Option Reply). AreSame name (with_line o others) others) (sym is) (by amount)
  where
    unless : (b : Bool) (a : ℕ)
        → AreSame name (with_line (if b then None else Some (replies.WatchAmount other a)) others) others
    unless true a = (λ found. refl, refl)
    unless false a = (
      λ found. ap
          (λ (b : Bool). left_all name
          (if b then option_map (λ (w : Watch). record w { told = a }) found else found) others) e,
      ap (λ (b : Bool). (if b then a ∷ [] else []) ++ amounts_in name others) e,
    )

    by : (amount : Option ℕ) → AreSame name (with_line (line_by other told amount) others) others
    by None = (λ found. ap (λ (b : Bool). left_all name (if b then None else found) others) e, refl)
    by (Some a) = unless (a == told) a

nothing_for : (s : State) (watches : Watches) (lines : List Reply) (name : List ℕ) → AreOthers name watches
    → AreLines s watches lines → AreSame name lines []
nothing_for s [] lines name all p = subst (λ (ls : List Reply). AreSame name ls []) (sym p) (λ found. refl, refl)
nothing_for s (e ∷ watches) lines name all p =
    let one = with_other name e.0 e.1.told p.2.0 p.0 p.1 all.0 p.2.2 in
    let rest = nothing_for s watches p.1 name all.1 p.3 in
    subst (λ (ls : List Reply). AreSame name ls []) (sym p.4) (λ found. one.0 found ∙ rest.0 found, one.1 ∙ rest.1)

-- the amount that is reported if the first one was the last reported and the second one is current
abbrev new_amounts : ℕ → Option ℕ → List ℕ
new_amounts told None = []
new_amounts told (Some amount) = if amount == told then [] else amount ∷ []

-- the effect of a state's lines on an existing watch
record AreLinesOf (s : State) (name : List ℕ) (watch : Watch) (lines : List Reply) : Type 0 where
  amount : Option ℕ
  has : HasAmount s (view_at s.views watch.view) watch.target watch.wanted watch.uid amount
  left : left_all name (Some watch) lines ≡ option_map (λ (a : ℕ). record watch { told = a }) amount
  amounts : amounts_in name lines ≡ new_amounts watch.told amount

own_line : (s : State) (name other : List ℕ) (watch : Watch) (line : Option Reply) (others : List Reply)
    → is_name name other ≡ true → IsLine s other watch line → AreSame name others []
    → AreLinesOf s name watch (with_line line others)
own_line s name other watch line others e is n = record {
  amount = is.0;
  has = is.1;
  left =
      subst (λ (o : Option Reply). left_all name (Some watch) (with_line o others)
      ≡ option_map (λ (a : ℕ). record watch { told = a }) is.0) (sym is.2)
      (left_so is.0);
  amounts =
      subst (λ (o : Option Reply). amounts_in name (with_line o others) ≡ new_amounts watch.told is.0) (sym is.2)
      (told_so is.0);
}
  where
    left_if : (b : Bool) (a : ℕ) → (a == watch.told) ≡ b
        → left_all name (Some watch) (with_line (if b then None else Some (replies.WatchAmount other a)) others)
        ≡ Some (record watch { told = a })
    left_if true a h =
        n.0 (Some watch) ∙ ap (λ (t : ℕ). Some (record watch { told = t })) (sym (eqb-true a watch.told h))
    left_if false a h =
        ap (λ (b : Bool). left_all name (if b then Some (record watch { told = a }) else Some watch) others) e
        ∙ n.0 (Some (record watch { told = a }))

    left_so : (o : Option ℕ)
        → left_all name (Some watch) (with_line (line_by other watch.told o) others)
        ≡ option_map (λ (a : ℕ). record watch { told = a }) o
    left_so None = ap (λ (b : Bool). left_all name (if b then None else Some watch) others) e ∙ n.0 None
    left_so (Some a) = left_if (a == watch.told) a refl

    told_if : (b : Bool) (a : ℕ)
        → amounts_in name (with_line (if b then None else Some (replies.WatchAmount other a)) others)
        ≡ (if b then [] else a ∷ [])
    told_if true a = n.1
    told_if false a =
        ap (λ (b : Bool). (if b then a ∷ [] else []) ++ amounts_in name others) e ∙ ap (λ (ns : List ℕ). a ∷ ns) n.1

    told_so : (o : Option ℕ)
        → amounts_in name (with_line (line_by other watch.told o) others) ≡ new_amounts watch.told o
    told_so None = n.1
    told_so (Some a) = told_if (a == watch.told) a

other_line : (s : State) (name : List ℕ) (watch : Watch) (lines others : List Reply) → AreSame name lines others
    → AreLinesOf s name watch others → AreLinesOf s name watch lines
other_line s name watch lines others same of = record {
  amount = of.amount;
  has = of.has;
  left = same.0 (Some watch) ∙ of.left;
  amounts = same.1 ∙ of.amounts;
}

pub behind : (name other : List ℕ) (watch : Watch) (watches : Watches) → is_name name other ≡ true
    → IsBelow (by_key view_name_cmp) (other, watch) watches → AreOthers name watches
behind name other watch [] e all = tt
behind name other watch (x ∷ xs) e all = (
  ap (λ (n : List ℕ). is_eq (view_name_cmp n x.0)) (same_name name other e)
      ∙ ap is_eq all.0,
  behind name other watch xs e all.1,
)

pub none_of : (name : List ℕ) (watches : Watches) → AreOthers name watches → entry_at watches name ≡ None
none_of name [] all = refl
none_of name (x ∷ xs) all = ap (λ (b : Bool). cond b (Some x.1) (entry_at xs name)) all.0 ∙ none_of name xs all.1

pub missing : (name : List ℕ) (watches : Watches) → entry_at watches name ≡ None → AreOthers name watches
missing name [] e = tt
missing name (x ∷ xs) e = by (missing name xs) (is_name name x.0) refl e
  where
    by : (entry_at xs name ≡ None → AreOthers name xs) → (b : Bool) → is_name name x.0 ≡ b
        → cond b (Some x.1) (entry_at xs name) ≡ None → AreOthers name (x ∷ xs)
    by rest true h g = absurd (cc g)
    by rest false h g = (h, rest g)

lines_of : (s : State) (watches : Watches) (lines : List Reply) (name : List ℕ) (watch : Watch) → AreByName watches
    → AreLines s watches lines → entry_at watches name ≡ Some watch → AreLinesOf s name watch lines
lines_of s [] lines name watch r p e = absurd (cc e)
lines_of s (x ∷ xs) lines name watch r p e = by (lines_of s xs p.1 name watch r.1 p.3) (is_name name x.0) refl e
  where
    by : (entry_at xs name ≡ Some watch → AreLinesOf s name watch p.1) → (b : Bool) → is_name name x.0 ≡ b
        → cond b (Some x.1) (entry_at xs name) ≡ Some watch → AreLinesOf s name watch lines
    by rest true h g =
        subst (λ (w : Watch). AreLinesOf s name w lines) (same_Some x.1 watch g)
        (subst (AreLinesOf s name x.1) (sym p.4)
        (own_line s name x.0 x.1 p.0 p.1 h p.2 (nothing_for s xs p.1 name (behind name x.0 x.1 xs h r.0) p.3)))
    by rest false h g =
        subst (AreLinesOf s name watch) (sym p.4)
        (other_line s name watch (with_line p.0 p.1) p.1 (with_other name x.0 x.1.told p.2.0 p.0 p.1 h p.2.2)
        (rest g))

-- ---- after they were reported

-- The watch exists, its view is open, and this is its current amount, which was the last one reported or is reported
-- now.
pub record WasThere (s : State) (watches : Watches) (lines : List Reply) (name : List ℕ) (watch : Watch) : Type 0 where
  pub was : Watch
  pub there : entry_at watches name ≡ Some was
  pub same : watch ≡ record was { told = watch.told }
  pub has : HasAmount s (view_at s.views was.view) was.target was.wanted was.uid (Some watch.told)
  pub amounts : amounts_in name lines ≡ (if watch.told == was.told then [] else watch.told ∷ [])

pub was_there : (s : State) (watches : Watches) (lines : List Reply) (name : List ℕ) (watch : Watch) → AreByName watches
    → AllByRecursion IsWatchLine lines → AreLines s watches lines → entry_at (told_all watches lines) name ≡ Some watch
    → WasThere s watches lines name watch
was_there s watches lines name watch r all p e =
    by (entry_at watches name) refl (sym (all_left name lines watches r all) ∙ e)
  where
    at_amount : (was : Watch) → entry_at watches name ≡ Some was
        → (of : AreLinesOf s name was lines) (amount : Option ℕ)
        → of.amount ≡ amount → option_map (λ (a : ℕ). record was { told = a }) amount ≡ Some watch
        → WasThere s watches lines name watch
    at_amount was h of None f g = absurd (cc g)
    at_amount was h of (Some a) f g =
        let same : record was { told = a } ≡ watch = same_Some (record was { told = a }) watch g in
        let now : a ≡ watch.told = ap (λ (w : Watch). w.told) same in
        record {
          was = was;
          there = h;
          same = sym same ∙ ap (λ (t : ℕ). record was { told = t }) now;
          has =
              subst (λ (o : Option ℕ). HasAmount s (view_at s.views was.view) was.target was.wanted was.uid o)
              (f ∙ ap (λ (t : ℕ). Some t) now) of.has;
          amounts = of.amounts ∙ ap (new_amounts was.told) (f ∙ ap (λ (t : ℕ). Some t) now);
        }

    by : (found : Option Watch) → entry_at watches name ≡ found → left_all name found lines ≡ Some watch
        → WasThere s watches lines name watch
    by None h g =
        let never : None ≡ Some watch = sym ((nothing_for s watches lines name (missing name watches h) p).0 None)
        ∙ g in
        absurd (cc never)
    by (Some was) h g =
        let of : AreLinesOf s name was lines = lines_of s watches lines name was r p h in
        at_amount was h of of.amount refl (sym of.left ∙ g)

-- ---- the last amount reported

pub last_behind : (name : List ℕ) (told lines : List Reply) (was now : ℕ) → IsLast (amounts_in name told) was
    → amounts_in name lines ≡ (if now == was then [] else now ∷ []) → IsLast (amounts_in name (told ++ lines)) now
last_behind name told lines was now last e = by (now == was) refl e
  where
    both : amounts_in name (told ++ lines) ≡ amounts_in name told ++ amounts_in name lines
    both = flat_map-append (amount_in name) told lines

    by : (b : Bool) → (now == was) ≡ b → amounts_in name lines ≡ (if b then [] else now ∷ [])
        → IsLast (amounts_in name (told ++ lines)) now
    by true h f = (
      last.0,
      both ∙ ap (λ (ns : List ℕ). amounts_in name told ++ ns) f ∙ append-nil (amounts_in name told) ∙ last.1
          ∙ ap (λ (n : ℕ). last.0 ++ n ∷ []) (sym (eqb-true now was h)),
    )
    by false h f = (amounts_in name told, both ∙ ap (λ (ns : List ℕ). amounts_in name told ++ ns) f)
