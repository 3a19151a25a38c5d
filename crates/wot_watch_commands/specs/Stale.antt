-- How much asking the watches may make: what is stale in the view of each, counted once for each view.
use Rattle.std.specs.Prelude.{ℕ, if◌then◌else◌, List, [], ◌∷◌}
use Rattle.std.specs.List.{list_any}
use Rattle.std.specs.Option.{option_map_or}
use Rattle.wot_component.specs.Counts.{sum_of}
use Rattle.wot_network.specs.Net.{stale_signatures}
use Rattle.wot_cache.specs.declared.view.View.{View}
use Rattle.wot_cache.specs.State.{Engine, marks_at}
use Rattle.wot_cache.specs.Views.{is_name, view_at}
use Rattle.wot_watch.specs.Watches.{Watches}

-- how many signatures the certificates have that are stale for a view; 0 if it isn't open
abbrev pub stale_for : Engine → List ℕ → ℕ
stale_for engine name =
    option_map_or (λ (v : View). stale_signatures (marks_at engine name) v.time engine.keyring)
    (view_at engine.views name) 0

-- with this name too, once
abbrev pub with_name : List ℕ → List (List ℕ) → List (List ℕ)
with_name name names = if list_any (is_name name) names then names else name ∷ names

-- the views that watches ask, each once
abbrev pub views_of : Watches → List (List ℕ)
views_of [] = []
views_of (entry ∷ watches) = with_name entry.1.view (views_of watches)

-- the sum over the views that watches ask
abbrev pub stale_in : Engine → Watches → ℕ
stale_in engine watches = sum_of (stale_for engine) (views_of watches)
