-- What contracts see of the source over a reader and of the sink over a writer.
use Rattle.std.specs.Prelude.{ℕ}

-- The reader, how often it failed, and how many octets the last read returned.
pub record Reading (R : Type 0) : Type 0 where
  pub input : R
  pub faults : ℕ
  pub last : ℕ

-- The writer, and how often it failed.
pub record Writing (W : Type 0) : Type 0 where
  pub output : W
  pub faults : ℕ
