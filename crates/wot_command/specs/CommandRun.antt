-- The outcome of a command that uses a certificate directory.
use Rattle.std.specs.Prelude.{◌≡◌, ℕ, true, Option}
use denote.MutBor.{MutBor}
use denote.Triple.Both.{Both}
use Rattle.wot_io.specs.Counts.{Rose}
use Rattle.wot_types.specs.declared.fpr.Fpr.{Fpr}
use Rattle.wot_types.specs.declared.name.Name.{Name}
use Rattle.wot_policy.specs.declared.rows.PolicyRows.{PolicyRows}
use Rattle.wot_script.specs.declared.command.Command.{Command}
use Rattle.wot_plain.specs.declared.class.Class.{Class}
use Rattle.wot_plain.specs.declared.class.Class.TheVariants.{State as OfState}
use Rattle.wot_plain.specs.declared.class.StateCommand.{StateCommand}
use Rattle.wot_plain.specs.declared.class.StateCommand.TheVariants as kinds
use Rattle.wot_plain.specs.declared.class.ShelfCall.TheVariants as calls
use Rattle.wot_script.specs.declared.reply.Reply.{Reply}
use Rattle.wot_certd.specs.World.{World}
use Rattle.wot_cache.specs.State.{State}
use Rattle.wot_plain.specs.Both.{Ends, ends}
use Rattle.wot_plain.specs.Entry.{IsServed, Use, has_failed, put_for, use_by, use_of}
use Rattle.wot_plain.specs.LineStep.{ReadLineStep, DoesTo, CommandStep}
use Rattle.wot_plain.specs.Session.{Session}
use Rattle.wot_plain.specs.Served.{Served}

-- What a line sees of a certificate directory: its world, if that is known, and its count of faults.
pub record Seen : Type 0 where
  pub world : Option World
  pub faults : ℕ

-- what a line sees, by these two functions
abbrev pub seen : {D : Type 0} → (D → Option World) → (D → ℕ) → D → Seen
seen world faults shelf = record { world = world shelf; faults = faults shelf }

-- what a call sees, before and after it
abbrev pub over : {D : Type 0} → (D → Option World) → (D → ℕ) → Both (MutBor D) (MutBor D) → Ends Seen
over world faults shelf = ends (seen world faults) shelf

-- The directory returned something for which P holds. A call failed only if the count of faults rose.
pub record IsBy (P : Served → Type 0) (old : State) (use_ : Use) (before after : Seen) : Type 0 where
  pub given : Served
  pub answers : P given
  pub served : IsServed old use_ before.world given after.world
  pub cause : has_failed (put_for old use_ given.read) given ≡ true → Rose before.faults after.faults

-- what a line does and replies, by what the directory returns
abbrev pub CommandRun : PolicyRows → Option Command → Session → Seen → Reply → Session → Seen → Type 0
CommandRun rows command old before reply new after =
    IsBy (λ given. ReadLineStep rows old command given reply new) old.state (use_of command) before after

-- what a command does, by its class
abbrev pub ClassRun : PolicyRows → Class → Session → Seen → Reply → Session → Seen → Type 0
ClassRun rows class old before reply new after =
    IsBy (λ given. CommandStep rows old class given reply new) old.state (use_by class) before after

-- what a command does to the state alone
abbrev pub StateRun : PolicyRows → StateCommand → State → Seen → Reply → State → Seen → Type 0
StateRun rows command old before reply new after =
    IsBy (λ given. DoesTo rows old command given reply new) old (use_by (OfState command)) before after

-- what a command does, by the state and the directory before and after it
abbrev pub StateRunOver : PolicyRows → StateCommand → Ends State → Ends Seen → Reply → Type 0
StateRunOver rows command state shelf reply = StateRun rows command state.old shelf.old reply state.new shelf.new

-- the certificate of this entry is loaded or not
abbrev pub LoadsBy : PolicyRows → Name → Ends State → Ends Seen → Reply → Type 0
LoadsBy rows name state shelf reply = StateRunOver rows (kinds.Shelf (calls.Load name)) state shelf reply

-- The certificate of this fingerprint was stored or not. The state stays.
abbrev pub StoresBy : PolicyRows → Fpr → State → Ends Seen → Reply → Type 0
StoresBy rows fpr s shelf reply = StateRun rows (kinds.Shelf (calls.Store fpr)) s shelf.old reply s shelf.new

-- R holds of what was seen before the reply, the reply, and what is seen after it.
abbrev pub across : (Seen → Reply → Seen → Type 0) → Ends Seen → Reply → Type 0
across R shelf reply = R shelf.old reply shelf.new
