-- The commands that restore a state.
use Rattle.std.specs.Prelude.{◌≡◌, ℕ, List, [], ◌∷◌, ◌++◌, map, Option, Some, None, IsSomeAnd}
use Rattle.std.specs.List.{AllByRecursion, flat_map}
use Rattle.std.specs.List.Sorted.{IsStrictlySortedBy}
use Rattle.std.specs.Map.{keys_of}
use Rattle.std.specs.Option.{option_map}
use Rattle.wot_types.specs.ViewName.{view_name_cmp}
use Rattle.wot_types.specs.declared.fpr.Fpr.{Fpr}
use Rattle.wot_types.specs.declared.limits.Limits.{Limits}
use Rattle.wot_edge.specs.Roots.{IsRoots}
use Rattle.wot_policy.specs.declared.rows.PolicyRows.{PolicyRows}
use Rattle.wot_fields.specs.declared.state_line.StateLine.{StateLine}
use Rattle.wot_fields.specs.declared.state_line.StateLine.TheVariants.{Time, Root}
use Rattle.wot_keyring.specs.Dump as keyrings
use Rattle.wot_keyring.specs.Dump.{after_all, judged_by}
use Rattle.wot_keyring_spec.specs.Keyring.{Keyring}
use Rattle.wot_cache.specs.declared.view.View.{View}
use Rattle.wot_cache.specs.declared.view.ViewFault.{ViewFault}
use Rattle.wot_cache.specs.Revisions.{no_revisions}
use Rattle.wot_cache.specs.Views.{Views, AreWithinLimits, root_fault, time_fault, view_at}
use Rattle.wot_cache.specs.State.{Engine, State, start, state_of, with_held, rooting, timing}

abbrev pub root_of : List ℕ → Fpr × ℕ → StateLine
root_of view root = Root view root.0 root.1

-- a view's time, followed by its roots
abbrev pub view_commands : List ℕ × View → List StateLine
view_commands e = Time e.0 e.1.time ∷ map (root_of e.0) e.1.roots

-- the keyring's commands, followed by the views by name, each with its roots by fingerprint
abbrev pub commands_of : State → List StateLine
commands_of s = keyrings.commands_of s.held ++ flat_map view_commands s.views

-- ---- running the commands in a fresh engine

abbrev pub unless_refused : Option ViewFault → State → Option State
unless_refused (Some fault) new = None
unless_refused None new = Some new

-- the state after a command; None if the command is refused
abbrev pub after : PolicyRows → Limits → StateLine → State → Option State
after rows l (Time view t) s = unless_refused (time_fault l s.views view) (timing view t s)
after rows l (Root view fpr amount) s =
    unless_refused (root_fault l (view_at s.views view) fpr amount) (rooting view fpr amount s)
after rows l command s = option_map (with_held s) (keyrings.after rows l command s.held)

-- The new state is the old one, with certificates and verdicts judged by the new policy rows.
pub record CarriesOver (rows : PolicyRows) (old new : State) : Type 0 where
  pub held : new.held ≡ judged_by rows old.held
  pub views : new.views ≡ old.views

-- an engine with this keyring and these views that hasn't been asked anything
abbrev pub engine_of : Keyring → Views → Engine
engine_of keyring views =
    record { keyring = keyring; views = views; marks = []; revisions = no_revisions; answers = [] }

-- the commands of such an engine
abbrev pub commands_over : Keyring → Views → List StateLine
commands_over keyring views = commands_of (state_of (engine_of keyring views))

-- No command is refused in a fresh engine with the same limits, and together they restore the engine's state.
abbrev pub IsRestored : PolicyRows → Engine → Type 0
IsRestored rows engine =
    IsSomeAnd (after_all (after rows engine.keyring.limits) (commands_of (state_of engine)) (Some start))
    (CarriesOver rows (state_of engine))

-- ---- properties of all views

-- the names are in strictly ascending order
abbrev pub AreSortedByName : Views → Type 0
AreSortedByName views = IsStrictlySortedBy view_name_cmp (keys_of views)

-- each view's roots are in order, with positive amounts
abbrev pub HaveRoots : Views → Type 0
HaveRoots views = AllByRecursion (λ (e : List ℕ × View). IsRoots e.1.roots) views

-- what holds of an engine from which a dump is made
pub record IsDumped (rows : PolicyRows) (engine : Engine) : Type 0 where
  pub keyring : keyrings.IsRestored rows engine.keyring
  pub within : AreWithinLimits engine.keyring.limits engine.views
  pub roots : HaveRoots engine.views
  pub sorted : AreSortedByName engine.views
