-- The random words: those of SplitMix64 (Steele, Lea and Flood), by number from 0 on.
use Rattle.std.specs.Prelude.{ℕ, zero, suc}
use Rattle.rand_xoshiro.specs.SplitMix64.{mix_u64}

-- the state after this many words
unfoldable pub state_after : ℕ → ℕ → ℕ
state_after start zero = start
state_after start (suc drawn) = (mix_u64 (state_after start drawn)).1

-- the word that is drawn after this many
unfoldable pub word : ℕ → ℕ → ℕ
word start drawn = (mix_u64 (state_after start drawn)).0
