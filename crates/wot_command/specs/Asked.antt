-- How often a line asks the policy: once for each well-formed signature that it adds. No reply depends on it.
use Rattle.std.specs.Prelude.{◌≡◌, ℕ, ◌-◌, Option, Some, None, Result, OnOk}
use Rattle.wot_component.specs.Judged.{sound_of}
use Rattle.wot_keyring_spec.specs.Import.{weigh}
use Rattle.wot_policy.specs.declared.policy.Policy.{Policy}
use Rattle.wot_policy.specs.Kept.{asked_more}
use Rattle.wot_script.specs.declared.command.Command.{Command}
use Rattle.wot_cache.specs.State.{State}
use Rattle.wot_plain.specs.declared.class.Class.{Class}
use Rattle.wot_plain.specs.declared.class.Class.TheVariants.{State as OfState}
use Rattle.wot_plain.specs.declared.class.StateCommand.TheVariants as kinds
use Rattle.wot_plain.specs.declared.class.Change.{Change}
use Rattle.wot_plain.specs.declared.class.Change.TheVariants as changes
use Rattle.wot_plain.specs.declared.class.ShelfCall.{ShelfCall}
use Rattle.wot_plain.specs.declared.class.ShelfCall.TheVariants as calls
use Rattle.wot_plain.specs.Classes.{class_of}

-- the number of well-formed signatures that are held
abbrev pub sound_in : State → ℕ
sound_in s = weigh sound_of s.held.certs

-- The policy was asked once for each well-formed signature that was added. A refused line adds none. If memory ran out,
-- the policy may have been asked before that.
pub record AsksForNew {T E F : Type 0} (result : Result T E) (old new : State) (before after : Policy F) : Type 0 where
  pub times : ℕ
  pub asked : after ≡ asked_more times before
  pub exact : OnOk result (times ≡ sound_in new - sound_in old)

-- The policy is asked by imports and loads, for what they add, and by no other command.
abbrev pub ChangeAsks : {T E F : Type 0} → Result T E → Change → State → State → Policy F → Policy F → Type 0
ChangeAsks result (changes.Import octets) old new before after = AsksForNew result old new before after
ChangeAsks result _ old new before after = after ≡ before

abbrev pub CallAsks : {T E F : Type 0} → Result T E → ShelfCall → State → State → Policy F → Policy F → Type 0
CallAsks result (calls.Load name) old new before after = AsksForNew result old new before after
CallAsks result (calls.Store fpr) old new before after = after ≡ before

abbrev pub AsksBy : {T E F : Type 0} → Result T E → Class → State → State → Policy F → Policy F → Type 0
AsksBy result (OfState (kinds.Change change)) old new before after = ChangeAsks result change old new before after
AsksBy result (OfState (kinds.Shelf call)) old new before after = CallAsks result call old new before after
AsksBy result _ old new before after = after ≡ before

-- what a line asks
abbrev pub LineAsks : {T E F : Type 0} → Result T E → Option Command → State → State → Policy F → Policy F → Type 0
LineAsks result None old new before after = after ≡ before
LineAsks result (Some command) old new before after = AsksBy result (class_of command) old new before after
