-- A certificate directory in memory, as contracts see it.
use Rattle.std.specs.Prelude.{ℕ, List}
use Rattle.wot_types.specs.declared.name.Name.{Name}
use Rattle.wot_io.specs.Counts.{next_count}
use Rattle.wot_certd.specs.World.{World, with_entry}

-- What contracts see of it, and the count of faults.
pub record ShelfMemory : Type 0 where
  pub world : World
  pub faults : ℕ

-- with one more fault
abbrev pub faulted : ShelfMemory → ShelfMemory
faulted shelf = record shelf { faults = next_count shelf.faults }

-- with these octets under the name
abbrev pub entered : ShelfMemory → Name → List ℕ → ShelfMemory
entered shelf name octets =
    record shelf { world = record shelf.world { entries = with_entry shelf.world.entries name octets } }
