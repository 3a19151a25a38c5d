-- Sources and sinks in memory, as contracts see them. Their calls are numbered from 1.
use Rattle.std.specs.Prelude.{◌≡◌, ◌⊎◌, ◌-◌, ◌<◌, ◌++◌, ℕ, List, length, take, drop, min, Contains}
use Rattle.wot_io.specs.Counts.{next_count}

-- The octets that are left, how many of them a read returns at most, the numbers of the reads that fail, how many reads
-- were made, and the count of faults.
pub record SourceMemory : Type 0 where
  pub left : List ℕ
  pub piece : ℕ
  pub fails : List ℕ
  pub calls : ℕ
  pub faults : ℕ

-- How many octets a read with this much room returns.
abbrev pub read_size : SourceMemory → ℕ → ℕ
read_size source room = min source.piece (min room (length source.left))

-- The next read fails.
abbrev pub ReadFails : SourceMemory → Type 0
ReadFails source = Contains source.fails (next_count source.calls)

-- After a read that returned `size` octets.
abbrev pub after_read : SourceMemory → ℕ → SourceMemory
after_read source size = record source { left = drop size source.left; calls = next_count source.calls }

-- After a read that failed.
abbrev pub after_failed_read : SourceMemory → SourceMemory
after_failed_read source = record source { calls = next_count source.calls; faults = next_count source.faults }

-- The octets written, how many of them a write takes at most, how many there is room for in all,
-- the numbers of the writes that fail, how many writes were made, and the count of faults.
pub record SinkMemory : Type 0 where
  pub written : List ℕ
  pub piece : ℕ
  pub room : ℕ
  pub fails : List ℕ
  pub calls : ℕ
  pub faults : ℕ

-- How many octets there is still room for.
abbrev pub room_left : SinkMemory → ℕ
room_left sink = sink.room - length sink.written

-- How many of these octets a write takes.
abbrev pub write_size : SinkMemory → List ℕ → ℕ
write_size sink octets = min sink.piece (min (length octets) (room_left sink))

-- The next write fails: its number is one of those, or it has octets and there is no room.
abbrev pub WriteFails : SinkMemory → List ℕ → Type 0
WriteFails sink octets = Contains sink.fails (next_count sink.calls) ⊎ ((room_left sink ≡ 0) × (0 < length octets))

-- After a write that took `size` of these octets.
abbrev pub after_write : SinkMemory → List ℕ → ℕ → SinkMemory
after_write sink octets size = record sink { written = sink.written ++ take size octets; calls = next_count sink.calls }

-- After a write that failed.
abbrev pub after_failed_write : SinkMemory → SinkMemory
after_failed_write sink = record sink { calls = next_count sink.calls; faults = next_count sink.faults }
