-- A text has at most one reading.
use Rattle.std.specs.Prelude.{◌≡◌, ℕ, List}
use Rattle.wot_pattern.specs.Reading.{Reading}
use Rattle.wot_pattern.specs.Grammar.{Says}
use Rattle.wot_pattern.proofs.Complete as complete

pub says_one : (text : List ℕ) (p q : Reading) → Says text p → Says text q → p ≡ q
says_one text p q h k = complete.one_reading text p q h.whole k.whole
