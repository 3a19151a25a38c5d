-- Watches whose amounts are known without asking, as long as nothing that the answers depend on is altered.
use Rattle.std.specs.Prelude.{◌≡◌, ◌≢◌, ◌⊎◌, ◌≤◌, ℕ, true, List, Option, Some, None, is_some}
use Rattle.std.specs.List.{AllByRecursion}
use Rattle.wot_cache.specs.Basis.{Basis, RestsOn}
use Rattle.wot_cache.specs.State.{Engine}
use Rattle.wot_cache.specs.Views.{view_at}
use Rattle.wot_script.specs.declared.reply.Reply.{Reply}
use Rattle.wot_script.specs.declared.reply.Reply.TheVariants as replies
use Rattle.wot_watch.specs.Watches.{Watch, Watches}

-- The last amount reported for this watch is that of its answer as long as the basis is undisturbed, however the engine
-- develops. It is 0 if the watch wants nothing.
pub record IsSettled (engine : Engine) (basis : Basis) (watch : Watch) : Type 0 where
  pub none : watch.wanted ≡ 0 → watch.told ≡ 0
  pub rests : 1 ≤ watch.wanted → RestsOn engine basis watch.view watch.target watch.wanted watch.uid watch.told

-- each of these watches is settled
abbrev pub AllSettled : Engine → Basis → Watches → Type 0
AllSettled engine basis watches = AllByRecursion (λ (e : List ℕ × Watch). IsSettled engine basis e.1) watches

-- all watches are settled, if there is a basis
abbrev pub AreSettled : Engine → Watches → Option Basis → Type 0
AreSettled engine watches None = Unit {0}
AreSettled engine watches (Some basis) = AllSettled engine basis watches

-- the view of each watch is open
abbrev pub AreOpen : Engine → Watches → Type 0
AreOpen engine watches = AllByRecursion (λ (e : List ℕ × Watch). is_some (view_at engine.views e.1.view) ≡ true) watches

-- one of the two counts changed
abbrev pub CountsDiffer : Engine → ℕ → ℕ → Type 0
CountsDiffer engine changes revisions = (engine.keyring.changes ≢ changes) ⊎ (engine.revisions.count ≢ revisions)

-- the reply isn't the amount of a watch, as it is when a watch begins
abbrev pub IsNoAmount : Reply → Type 0
IsNoAmount (replies.WatchAmount name amount) = ⊥
IsNoAmount reply = Unit {0}
