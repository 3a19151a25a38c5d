-- What a line does with the certificate directory: which entry it reads, and what it writes in its place.
use Rattle.std.specs.Prelude.{◌≡◌, ◌⊎◌, ℕ, Bool, true, false, if◌then◌else◌, is_some, List, Option, Some, None}
use Rattle.std.specs.List.{AllByRecursion}
use Rattle.wot_types.specs.declared.fpr.Fpr.{Fpr}
use Rattle.wot_types.specs.declared.name.Name.{Name}
use Rattle.wot_types.specs.declared.name.Name.TheVariants.{Cert}
use Rattle.wot_script.specs.declared.command.Command.{Command}
use Rattle.wot_plain.specs.declared.class.Class.{Class}
use Rattle.wot_plain.specs.declared.class.Class.TheVariants.{State as OfState}
use Rattle.wot_plain.specs.declared.class.StateCommand.TheVariants as kinds
use Rattle.wot_plain.specs.declared.class.ShelfCall.{ShelfCall}
use Rattle.wot_plain.specs.declared.class.ShelfCall.TheVariants as calls
use Rattle.wot_plain.specs.Classes.{class_of}
use Rattle.wot_keyring_spec.specs.Held.{cert_in}
use Rattle.wot_certd.specs.World.{Answer, World, after_replace, called, fails_next, read_answer, with_entry}
use Rattle.wot_cache.specs.State.{State}
use Rattle.wot_plain.specs.Both.{Ends}
use Rattle.wot_plain.specs.Lines.{command_in_line}
use Rattle.wot_plain.specs.Served.{Served, unserved}
use Rattle.wot_plain.specs.Storing.{put_from}

-- ---- what is called

-- What a command does with the directory: nothing, loading an entry, or storing one.
pub data Use : Type 0 where
  unused : Use
  loads : Name → Use
  stores : Fpr → Use

abbrev pub use_in : ShelfCall → Use
use_in (calls.Load name) = loads name
use_in (calls.Store fpr) = stores fpr

abbrev pub use_by : Class → Use
use_by (OfState (kinds.Shelf call)) = use_in call
use_by _ = unused

abbrev pub use_of : Option Command → Use
use_of None = unused
use_of (Some command) = use_by (class_of command)

-- none of these lines uses the directory
abbrev pub CallNothing : List (List ℕ) → Type 0
CallNothing lines = AllByRecursion (λ line. use_of (command_in_line line) ≡ unused) lines

-- the name of the entry that is read in this state
abbrev pub entry_for : State → Use → Option Name
entry_for s unused = None
entry_for s (loads name) = Some name
entry_for s (stores fpr) = if is_some (cert_in s.held fpr) then Some (Cert fpr) else None

-- the octets that replace the entry, by the answer to the read
abbrev pub put_for : State → Use → Answer → Option (List ℕ)
put_for s unused answer = None
put_for s (loads name) answer = None
put_for s (stores fpr) answer = put_from (cert_in s.held fpr) fpr answer

-- ---- in a world

-- what a directory in this world answers when that entry is read; nothing if none is read
abbrev pub given_by : World → Option Name → Served
given_by world None = unserved
given_by world (Some name) = record { read = read_answer world name; fails = fails_next (called world) }

-- the world afterwards: after no call, after a read, or after a read and a replace
abbrev pub world_after : World → Option Name → Option (List ℕ) → World
world_after world None put = world
world_after world (Some name) None = called world
world_after world (Some name) (Some octets) = after_replace (called world) name octets

-- ---- any directory, whose world may be unknown

-- The directory answered so when the entry was read: by its world, if that is known.
abbrev pub WasGiven : Option Name → Option World → Served → Type 0
WasGiven None world given = given ≡ unserved
WasGiven (Some name) None given = Unit {0}
WasGiven (Some name) (Some world) given = given ≡ given_by world (Some name)

-- the directory's world afterwards, if it was known before
abbrev pub IsWorldAfter : Option Name → Option (List ℕ) → Option World → Option World → Type 0
IsWorldAfter None put before after = after ≡ before
IsWorldAfter (Some name) put None after = Unit {0}
IsWorldAfter (Some name) put (Some world) after = after ≡ Some (world_after world (Some name) put)

-- The directory answered by its world before, and what was written leads to its world after.
pub record IsServed (s : State) (use_ : Use) (before : Option World) (given : Served) (after : Option World)
    : Type 0 where
  pub asked : WasGiven (entry_for s use_) before given
  pub world : IsWorldAfter (entry_for s use_) (put_for s use_ given.read) before after

-- ---- when memory runs out

-- the entries, with what the line writes
pub record HasPut (s : State) (use_ : Use) (old new : World) : Type 0 where
  pub name : Name
  pub octets : List ℕ
  pub entry : entry_for s use_ ≡ Some name
  pub put : put_for s use_ (read_answer old name) ≡ Some octets
  pub entries : new.entries ≡ with_entry old.entries name octets

-- the entries are unchanged, or have what the line writes
pub record MayPutIn (s : State) (use_ : Use) (old : World) (after : Option World) : Type 0 where
  pub new : World
  pub is_new : after ≡ Some new
  pub entries : (new.entries ≡ old.entries) ⊎ HasPut s use_ old new

-- the entries are unchanged or have what the line writes, if the world is known
abbrev pub MayPut : State → Use → Option World → Option World → Type 0
MayPut s use_ None after = Unit {0}
MayPut s use_ (Some old) after = MayPutIn s use_ old after

-- what a line may write, by the worlds before and after it
abbrev pub MayPutTo : State → Use → Ends (Option World) → Type 0
MayPutTo s use_ shelf = MayPut s use_ shelf.old shelf.new

-- the entries are unchanged, or have these octets under the name
pub record MayReplaceIn (name : Name) (octets : List ℕ) (old : World) (after : Option World) : Type 0 where
  pub new : World
  pub is_new : after ≡ Some new
  pub entries : (new.entries ≡ old.entries) ⊎ (new.entries ≡ with_entry old.entries name octets)

abbrev pub MayReplace : Name → List ℕ → Option World → Option World → Type 0
MayReplace name octets None after = Unit {0}
MayReplace name octets (Some old) after = MayReplaceIn name octets old after

-- ---- faults

abbrev pub is_fault : Answer → Bool
is_fault Answer.fault = true
is_fault _ = false

-- whether the last call of a line failed: the replace, or the read if nothing is written
abbrev pub has_failed : Option (List ℕ) → Served → Bool
has_failed None given = is_fault given.read
has_failed (Some octets) given = given.fails
