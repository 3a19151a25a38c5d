-- Views by name, each with a time and roots, and how they change.
use Rattle.std.specs.Prelude.{◌≡◌, ℕ, ◌≤◌, ◌==◌, ◌&&◌, nat_lt, nat_le, Bool, true, false, if◌then◌else◌}
use Rattle.std.specs.Prelude.{List, [], length, Option, Some, None, is_none, is_some, Result, Ok, Err}
use Rattle.std.specs.Option.{MatchOption}
use Rattle.std.specs.List.{AllByRecursion}
use Rattle.std.specs.BTreeMap.{insert_entry, is_at}
use Rattle.std.specs.Map.{lookup, remove_entry, set_value}
use Rattle.wot_types.specs.declared.fpr.Fpr.{Fpr}
use Rattle.wot_types.specs.declared.limits.Limits.{Limits}
use Rattle.wot_types.specs.declared.limits.Limit.TheVariants as words
use Rattle.wot_types.specs.Fpr.{fpr_cmp}
use Rattle.wot_types.specs.ViewName.{view_name_cmp}
use Rattle.wot_edge.specs.Roots.{root_amount}
use Rattle.wot_answers.specs.declared.fault.AskFault.{AskFault}
use Rattle.wot_answers.specs.declared.fault.AskFault.TheVariants as asked
use Rattle.wot_cache.specs.declared.view.View.{View}
use Rattle.wot_cache.specs.declared.view.ViewFault.{ViewFault}
use Rattle.wot_cache.specs.declared.view.ViewFault.TheVariants as faults
pub use Rattle.wot_answers.specs.Names.{is_name}

-- the open views in the order of their names, which are seen as octets
abbrev pub Views : Type 0
Views = List (List ℕ × View)

-- the view of this name; None if it isn't open
abbrev pub view_at : Views → List ℕ → Option View
view_at views name = lookup (is_name name) views

-- ---- times

-- a view at this time: an open view keeps its roots, a new one has none
abbrev pub timed : Views → List ℕ → ℕ → Option View → Views
timed views name t None = insert_entry view_name_cmp views name (record { time = t; roots = [] })
timed views name t (Some view) = set_value (is_name name) views (record view { time = t })

-- the views with this one open at this time
abbrev pub with_time : Views → List ℕ → ℕ → Views
with_time views name t = timed views name t (view_at views name)

-- The time of an open view was moved; `done` says whether it is open.
abbrev pub MovesTime : Bool → List ℕ → ℕ → Views → Views → Type 0
MovesTime done name t old new =
    MatchOption (view_at old name) ((done ≡ false) × (new ≡ old))
    (λ (view : View). (done ≡ true) × (new ≡ set_value (is_name name) old (record view { time = t })))

-- why a view's time can't be set: the view is new and the number of views is at its limit
abbrev pub time_fault : Limits → Views → List ℕ → Option ViewFault
time_fault limits views name =
    if is_none (view_at views name) && nat_le limits.views (length views) then Some (faults.Full words.Views) else None

-- ---- roots

-- the roots with this amount; 0 removes the root
abbrev pub with_amount : List (Fpr × ℕ) → Fpr → ℕ → List (Fpr × ℕ)
with_amount roots fpr amount =
    if amount == 0 then remove_entry (is_at (fpr_cmp fpr)) roots else insert_entry fpr_cmp roots fpr amount

abbrev pub rooted : Views → List ℕ → Fpr → ℕ → Option View → Views
rooted views name fpr amount None = views
rooted views name fpr amount (Some view) =
    set_value (is_name name) views (record view { roots = with_amount view.roots fpr amount })

-- the views with this root amount in an open view
abbrev pub with_root : Views → List ℕ → Fpr → ℕ → Views
with_root views name fpr amount = rooted views name fpr amount (view_at views name)

-- the amount of a root was set in an open view
abbrev pub SetsAmount : List ℕ → Fpr → ℕ → Views → Views → Type 0
SetsAmount name fpr amount old new =
    MatchOption (view_at old name) ⊥
    (λ (view : View). new ≡ set_value (is_name name) old (record view { roots = with_amount view.roots fpr amount }))

-- why a root can't be set in an open view: there is none to remove, or the number of roots is at its limit
abbrev pub amount_fault : Limits → List (Fpr × ℕ) → Fpr → ℕ → Option ViewFault
amount_fault limits roots fpr amount =
    if nat_lt 0 (root_amount roots fpr) then None
    else if amount == 0 then Some faults.Absent
    else if nat_le limits.roots (length roots) then Some (faults.Full words.Roots)
    else None

abbrev pub root_fault : Limits → Option View → Fpr → ℕ → Option ViewFault
root_fault limits None fpr amount = Some faults.View
root_fault limits (Some view) fpr amount = amount_fault limits view.roots fpr amount

-- ---- closing

-- the views without this one
abbrev pub without_view : Views → List ℕ → Views
without_view views name = remove_entry (is_name name) views

-- the limits on views and on the roots of each
pub record AreWithinLimits (l : Limits) (views : Views) : Type 0 where
  pub few : length views ≤ l.views
  pub few_roots : AllByRecursion (λ (e : List ℕ × View). length e.1.roots ≤ l.roots) views

-- ---- refusals

-- Ok comes exactly if there is no such fault, and each fault if it is this one. The only other answer is out of memory.
abbrev pub TellsFault : {T : Type 0} → Result T ViewFault → Option ViewFault → Type 0
TellsFault (Ok done) fault = fault ≡ None
TellsFault (Err faults.Memory) fault = fault ≡ None
TellsFault (Err why) fault = fault ≡ Some why

-- Ok comes only if the view is open, and the fault `View` exactly if it isn't. The only other answer is out of memory.
abbrev pub TellsOpen : {T : Type 0} → Result T AskFault → Option View → Type 0
TellsOpen (Ok done) view = is_some view ≡ true
TellsOpen (Err asked.View) view = view ≡ None
TellsOpen (Err asked.Memory) view = is_some view ≡ true
