-- The commands of a dump restore the dumped state in a fresh engine.
use Rattle.std.proofs.Common.{◌≡◌, ℕ, ◌<◌, ◌≤◌, ◌==◌, Bool, false, List, [], ◌∷◌, ◌++◌, length, map, Option, Some, None}
use Rattle.std.proofs.Common.{refl, sym, ap, ◌∙◌, subst, arith, append_assoc, append-nil, length-append}
use Rattle.std.specs.Prelude.{◌&&◌, nat_lt, nat_le, is_none, if◌then◌else◌, IsSomeAnd}
use Rattle.std.specs.Option.{unwrap_or, option_map}
use Rattle.std.specs.Cmp.{IsTotalOrder}
use Rattle.std.specs.BTreeMap.{insert_entry, is_at}
use Rattle.std.specs.Map.{keys_of, remove_entry, set_value}
use Rattle.std.specs.List.{AllByRecursion, flat_map}
use Rattle.std.specs.List.Sorted.{IsStrictlySortedBy}
use Rattle.std.proofs.lemmas.Bool.{lt-leb, and_right}
use Rattle.std.proofs.lemmas.Bool.{ne_eqb}
use Rattle.std.proofs.lemmas.Cmp.{nat_list_cmp_total, tied_itself}
use Rattle.wot_types.specs.declared.fpr.Fpr.{Fpr}
use Rattle.wot_types.specs.declared.limits.Limits.{Limits}
use Rattle.wot_types.specs.declared.limits.Limit.TheVariants as words
use Rattle.wot_types.specs.Fpr.{fpr_cmp}
use Rattle.wot_types.specs.FprLaws.{fpr_total}
use Rattle.wot_types.specs.ViewName.{view_name_cmp}
use Rattle.wot_policy.specs.declared.rows.PolicyRows.{PolicyRows}
use Rattle.wot_fields.specs.declared.state_line.StateLine.{StateLine}
use Rattle.wot_fields.specs.declared.state_line.StateLine.TheVariants.{Import, Good, Bad, Time, Root}
use Rattle.wot_keyring.specs.Dump as keyrings
use Rattle.wot_keyring.specs.Dump.{after_all, judged_by}
use Rattle.wot_keyring_spec.specs.Held.{Held, held_of, nothing}
use Rattle.wot_edge.specs.Roots.{IsRoots, AreAmounts, root_amount}
use Rattle.wot_cache.specs.declared.view.View.{View}
use Rattle.wot_cache.specs.declared.view.ViewFault.{ViewFault}
use Rattle.wot_cache.specs.declared.view.ViewFault.TheVariants as faults
use Rattle.wot_cache.specs.Views.{Views, AreWithinLimits, root_fault, rooted, timed, view_at, with_amount, is_name}
use Rattle.wot_cache.specs.State.{Engine, State, rooting, start, state_of, timing}
use Rattle.wot_cache.specs.Dump.{AreSortedByName, CarriesOver, HaveRoots, IsRestored, after, commands_of, root_of}
use Rattle.wot_cache.specs.Dump.{unless_refused, view_commands}
use Rattle.wot_keyring.specs.Behind.{AreBelow, all_at, below_next, last_found, last_set, none_before, put_behind}

-- ---- the keyring's commands

-- a state from what is held and views
abbrev over : Views → Held → State
over views held = record { held = held; views = views }

abbrev over_some : Views → Option Held → Option State
over_some views o = option_map (over views) o

one_over : (rows : PolicyRows) (l : Limits) (views : Views) (command : StateLine) (held new : Held) →
    keyrings.after rows l command held ≡ Some new
    → after rows l command (over views held) ≡ Some (over views new)
one_over rows l views (Import octets) held new e = ap (over_some views) e
one_over rows l views (Good number fpr) held new e = ap (over_some views) e
one_over rows l views (Bad number) held new e = ap (over_some views) e
one_over rows l views command held new e = cc e

refused_stays : (rows : PolicyRows) (l : Limits) (commands : List StateLine) →
    after_all (keyrings.after rows l) commands None ≡ None
refused_stays rows l [] = refl
refused_stays rows l (command ∷ commands) = refl

further : (rows : PolicyRows) (l : Limits) (views : Views) (command : StateLine) (commands : List StateLine)
    (held new : Held)
    → ((mid : Held) → after_all (keyrings.after rows l) commands (Some mid) ≡ Some new →
    after_all (after rows l) commands (Some (over views mid)) ≡ Some (over views new))
    → (o : Option Held) → keyrings.after rows l command held ≡ o → after_all (keyrings.after rows l) commands o ≡ Some
    new
    → after_all (after rows l) commands (after rows l command (over views held)) ≡ Some (over views new)
further rows l views command commands held new rest None was e = let none = refused_stays rows l commands in
    cc (none, e)
further rows l views command commands held new rest (Some mid) was e =
    ap (after_all (after rows l) commands) (one_over rows l views command held mid was) ∙ rest mid e

all_over : (rows : PolicyRows) (l : Limits) (views : Views) (commands : List StateLine) (held new : Held)
    → after_all (keyrings.after rows l) commands (Some held) ≡ Some new →
    after_all (after rows l) commands (Some (over views held)) ≡ Some (over views new)
all_over rows l views [] held new e = ap (over_some views) e
all_over rows l views (command ∷ commands) held new e =
    further rows l views command commands held new (λ mid. all_over rows l views commands mid new)
    (keyrings.after rows l command held) refl e

-- ---- views

names_total : IsTotalOrder view_name_cmp
names_total = nat_list_cmp_total

fprs_total : IsTotalOrder fpr_cmp
fprs_total = fpr_total

-- the state with its views replaced
abbrev with_views : State → Views → State
with_views s views = record s { views = views }

timed_new : (views : Views) (name : List ℕ) (t : ℕ) (o : Option View) → o ≡ None
    → timed views name t o ≡ insert_entry view_name_cmp views name (record { time = t; roots = [] })
timed_new views name t o h = ap (timed views name t) h

-- opening a view whose name follows all others
opened : (rows : PolicyRows) (l : Limits) (s : State) (prefix : Views) (name : List ℕ) (t : ℕ) →
    AreBelow view_name_cmp name prefix → length prefix < l.views
    → after rows l (Time name t) (with_views s prefix) ≡ Some
    (with_views s (prefix ++ (name, record { time = t; roots = [] }) ∷ []))
opened rows l s prefix name t below room =
    let new : View = record { time = t; roots = [] } in
    let free : (is_none (view_at prefix name) && nat_le l.views (length prefix)) ≡ false =
    and_right (is_none (view_at prefix name)) (nat_le l.views (length prefix)) (lt-leb l.views (length prefix) room) in
    let Full : Bool → Option ViewFault = λ b. if b then Some (faults.Full words.Views) else None in
    ap (λ b. unless_refused (Full b) (timing name t (with_views s prefix))) free
    ∙ ap (λ (views : Views). Some (with_views s views)) (timed_new prefix name t (view_at prefix name)
    (none_before view_name_cmp names_total prefix name below)
    ∙ put_behind view_name_cmp names_total prefix name new below)

-- setting a root whose fingerprint follows all others, in the last view
rooted_next : (rows : PolicyRows) (l : Limits) (s : State) (prefix : Views) (name : List ℕ) (t : ℕ)
    (roots : List (Fpr × ℕ)) (fpr : Fpr) (amount : ℕ)
    → AreBelow view_name_cmp name prefix → AreBelow fpr_cmp fpr roots → 0 < amount → length roots < l.roots
    → after rows l (Root name fpr amount) (with_views s (prefix ++ (name, record { time = t; roots = roots }) ∷ []))
    ≡ Some (with_views s (prefix ++ (name, record { time = t; roots = roots ++ (fpr, amount) ∷ [] }) ∷ []))
rooted_next rows l s prefix name t roots fpr amount below lower some room =
    let old : View = record { time = t; roots = roots } in
    let views : Views = prefix ++ (name, old) ∷ [] in
    let there : view_at views name ≡ Some old = last_found view_name_cmp names_total prefix name old below
    (tied_itself names_total name) in
    let zero : root_amount roots fpr ≡ 0 = ap (λ o. unwrap_or o 0) (none_before fpr_cmp fprs_total roots fpr lower) in
    let more : (amount == 0) ≡ false = ne_eqb amount 0 (λ e. omega arith) in
    let free : nat_le l.roots (length roots) ≡ false = lt-leb l.roots (length roots) room in
    let Says : ℕ → Bool → Bool → Option ViewFault = λ n b c.
    if nat_lt 0 n then None else if b then Some faults.Absent else if c then Some (faults.Full words.Roots) else None in
    let sound : root_fault l (view_at views name) fpr amount ≡ None =
    ap (λ o. root_fault l o fpr amount) there
    ∙ ap (λ n. Says n (amount == 0) (nat_le l.roots (length roots))) zero
    ∙ ap (λ b. Says 0 b (nat_le l.roots (length roots))) more
    ∙ ap (λ c. Says 0 false c) free in
    let grown : with_amount roots fpr amount ≡ roots ++ (fpr, amount) ∷ [] =
    ap (λ b. if b then remove_entry (is_at (fpr_cmp fpr)) roots else insert_entry fpr_cmp roots fpr amount) more
    ∙ put_behind fpr_cmp fprs_total roots fpr amount lower in
    let changed : rooted views name fpr amount (view_at views name) ≡ prefix ++ (
      name,
      record {
        time = t;
        roots =
            roots ++ (fpr, amount) ∷ [];
      },
    ) ∷ [] =
    ap (rooted views name fpr amount) there
    ∙ ap (λ (rs : List (Fpr × ℕ)). set_value (is_name name) views (record { time = t; roots = rs })) grown
    ∙ last_set view_name_cmp names_total prefix name old (record { time = t; roots = roots ++ (fpr, amount) ∷ [] })
    below (tied_itself names_total name) in
    ap (λ f. unless_refused f (rooting name fpr amount (with_views s views))) sound
    ∙ ap (λ (vs : Views). Some (with_views s vs)) changed

-- the state whose last view has these roots
abbrev with_last : State → Views → List ℕ → ℕ → List (Fpr × ℕ) → Option State
with_last s prefix name t roots = Some (with_views s (prefix ++ (name, record { time = t; roots = roots }) ∷ []))

roots_set : (rows : PolicyRows) (l : Limits) (s : State) (prefix : Views) (name : List ℕ) (t : ℕ) →
    AreBelow view_name_cmp name prefix
    → (all : List (Fpr × ℕ)) → IsRoots all → length all ≤ l.roots → (done rest : List (Fpr × ℕ)) → done ++ rest ≡ all
    → after_all (after rows l) (map (root_of name) rest) (with_last s prefix name t done) ≡ with_last s prefix name t
    all
roots_set rows l s prefix name t below all roots few done [] parts =
    ap (with_last s prefix name t) (sym (append-nil done) ∙ parts)
roots_set rows l s prefix name t below all roots few done (r ∷ rest) parts =
    let Sorted : List (Fpr × ℕ) → Type 0 = λ rs. IsStrictlySortedBy fpr_cmp (keys_of rs) in
    let some = all_at (λ (r : Fpr × ℕ). (0 < r.1) × (r.1 ≤ 255)) done r rest
    (subst AreAmounts (sym parts) roots.amounts) in
    let lower = below_next fpr_cmp done r rest (subst Sorted (sym parts) roots.order) in
    let room : length done < l.roots = omega (arith, ap length parts, length-append done (r ∷ rest), few) in
    ap (after_all (after rows l) (map (root_of name) rest)) (rooted_next rows l s prefix name t done r.0 r.1 below lower
    some.0 room)
    ∙ roots_set rows l s prefix name t below all roots few (done ++ r ∷ []) rest (append_assoc done (r ∷ []) rest
    ∙ parts)

view_made : (rows : PolicyRows) (l : Limits) (s : State) (prefix : Views) (e : List ℕ × View) →
    AreBelow view_name_cmp e.0 prefix → length prefix < l.views
    → IsRoots e.1.roots → length e.1.roots ≤ l.roots
    → after_all (after rows l) (view_commands e) (Some (with_views s prefix)) ≡ Some (with_views s (prefix ++ e ∷ []))
view_made rows l s prefix e below room roots few =
    ap (after_all (after rows l) (map (root_of e.0) e.1.roots)) (opened rows l s prefix e.0 e.1.time below room)
    ∙ roots_set rows l s prefix e.0 e.1.time below e.1.roots roots few [] e.1.roots refl

after_both : (rows : PolicyRows) (l : Limits) (cs ds : List StateLine) (o : Option State)
    → after_all (after rows l) (cs ++ ds) o ≡ after_all (after rows l) ds (after_all (after rows l) cs o)
after_both rows l [] ds o = refl
after_both rows l (c ∷ cs) [] None = refl
after_both rows l (c ∷ cs) (d ∷ ds) None = refl
after_both rows l (c ∷ cs) ds (Some s) = after_both rows l cs ds (after rows l c s)

views_made : (rows : PolicyRows) (l : Limits) (s : State) (all : Views) → AreWithinLimits l all → HaveRoots all →
    AreSortedByName all
    → (prefix rest : Views) → prefix ++ rest ≡ all
    → after_all (after rows l) (flat_map view_commands rest) (Some (with_views s prefix)) ≡ Some (with_views s all)
views_made rows l s all within roots order prefix [] parts = ap (λ (views : Views). Some (with_views s views))
    (sym (append-nil prefix) ∙ parts)
views_made rows l s all within roots order prefix (e ∷ rest) parts =
    let Few : Views → Type 0 = λ views. AllByRecursion (λ (e : List ℕ × View). length e.1.roots ≤ l.roots) views in
    let Rooted : Views → Type 0 = λ views. HaveRoots views in
    let Sorted : Views → Type 0 = λ views. AreSortedByName views in
    let room : length prefix < l.views = omega (arith, ap length parts, length-append prefix (e ∷ rest), within.few) in
    after_both rows l (view_commands e) (flat_map view_commands rest) (Some (with_views s prefix))
    ∙ ap (after_all (after rows l) (flat_map view_commands rest))
    (view_made rows l s prefix e (below_next view_name_cmp prefix e rest (subst Sorted (sym parts) order)) room
    (all_at (λ (e : List ℕ × View). IsRoots e.1.roots) prefix e rest (subst Rooted (sym parts) roots))
    (all_at (λ (e : List ℕ × View). length e.1.roots ≤ l.roots) prefix e rest (subst Few (sym parts) within.few_roots)))
    ∙ views_made rows l s all within roots order (prefix ++ e ∷ []) rest (append_assoc prefix (e ∷ []) rest ∙ parts)

-- ---- all commands

carried : (rows : PolicyRows) (s new : State) (o : Option State) → o ≡ Some new → CarriesOver rows s new →
    IsSomeAnd o (CarriesOver rows s)
carried rows s new o e same = subst (λ (o : Option State). IsSomeAnd o (CarriesOver rows s)) (sym e) same

pub restored : (rows : PolicyRows) (engine : Engine) → keyrings.IsRestored rows engine.keyring →
    AreWithinLimits engine.keyring.limits engine.views
    → HaveRoots engine.views → AreSortedByName engine.views → IsRestored rows engine
restored rows engine keyring within roots order =
    let l : Limits = engine.keyring.limits in
    let held : Held = held_of engine.keyring in
    let new : Held = judged_by rows held in
    carried rows (state_of engine) (over engine.views new) (after_all (after rows l) (commands_of (state_of engine))
    (Some start))
    (after_both rows l (keyrings.commands_of held) (flat_map view_commands engine.views) (Some start)
    ∙ ap (after_all (after rows l) (flat_map view_commands engine.views))
    (all_over rows l [] (keyrings.commands_of held) nothing new keyring)
    ∙ views_made rows l (over [] new) engine.views within roots order [] engine.views refl)
    (record { held = refl; views = refl })
