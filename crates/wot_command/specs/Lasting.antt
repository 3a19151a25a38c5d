-- What a command may count on, and what it leaves for the next one.
use Rattle.std.specs.Prelude.{◌≡◌, ◌≤◌, ◌<◌, ◌-◌, ◌^◌, ℕ, Bool, true, false, None, Option, OnErr, Result}
use Rattle.wot_types.specs.Limits.{standard_limits}
use Rattle.wot_keyring_spec.specs.Import.{IsOneChange}
use Rattle.wot_certd.specs.World.{World}
use Rattle.wot_cache.specs.State.{Engine, State}
use Rattle.wot_plain.specs.declared.class.Change.TheVariants as changes
use Rattle.wot_plain.specs.declared.class.Class.{Class}
use Rattle.wot_plain.specs.declared.class.StateCommand.{StateCommand}
use Rattle.wot_plain.specs.declared.class.StateCommand.TheVariants as kinds
use Rattle.wot_plain.specs.declared.class.ViewChange.TheVariants as alterings
use Rattle.wot_plain.specs.Classes.{IsFit, IsSmall}
use Rattle.wot_plain.specs.Entry.{MayPut, Use, entry_for}
pub use Rattle.wot_keyring_spec.specs.Judging.{IsJudging, StaysJudging}

-- What holds of every command that is read from a line: what it may want, and how long it may be.
pub record IsRead (class : Class) : Type 0 where
  pub fit : IsFit class
  pub small : IsSmall class

-- whether a command only removes something, which takes no memory
abbrev pub removes : StateCommand → Bool
removes (kinds.Change (changes.Remove fpr)) = true
removes (kinds.Change (changes.Unjudge number)) = true
removes (kinds.View view alterings.Close) = true
removes _ = false

-- The counts of changes and of revisions can rise.
pub record CanCount (engine : Engine) : Type 0 where
  pub changes : engine.keyring.changes < 2 ^ 64 - 1
  pub revisions : engine.revisions.count < 2 ^ 64 - 1

-- The engine has the standard limits, and its counts can rise.
pub record CanRun (engine : Engine) : Type 0 where
  pub standard : engine.keyring.limits ≡ standard_limits
  pub counts : CanCount engine

-- The engine has the standard limits, and its count of changes can rise.
pub record CanChange (engine : Engine) : Type 0 where
  pub standard : engine.keyring.limits ≡ standard_limits
  pub countable : engine.keyring.changes < 2 ^ 64 - 1

-- What is held changed at most once, and the limits are still the standard ones.
pub record ChangesOnce (old new : Engine) : Type 0 where
  pub counted : IsOneChange old.keyring new.keyring
  pub standard : new.keyring.limits ≡ standard_limits

-- Only what is held changed, and at most once.
pub record ChangesHeld (old new : Engine) : Type 0 where
  pub once : ChangesOnce old new
  pub marks : new.marks ≡ old.marks
  pub revisions : new.revisions ≡ old.revisions

-- What a call did to the certificate directory: nothing if it reads no entry. If memory ran out, the entries are as
-- they were, or have what the call writes. The count of faults didn't fall.
pub record Touches {T E D : Type 0} (result : Result T E) (s : State) (use_ : Use) (world : D → Option World)
    (faults : D → ℕ) (old new : D) : Type 0 where
  pub untouched : entry_for s use_ ≡ None → new ≡ old
  pub entries : OnErr result (MayPut s use_ (world old) (world new))
  pub later : faults old ≤ faults new
