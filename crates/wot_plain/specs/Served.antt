-- What a certificate directory returns in one line.
use Rattle.std.specs.Prelude.{Bool, false}
use Rattle.wot_certd.specs.World.{Answer}

-- its answer to the read of an entry, and whether replacing the entry then fails
pub record Served : Type 0 where
  pub read : Answer
  pub fails : Bool

-- for a line that doesn't use it
abbrev pub unserved : Served
unserved = record { read = Answer.absent; fails = false }
