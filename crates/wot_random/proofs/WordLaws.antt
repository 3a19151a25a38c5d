-- The words by number.
use Rattle.std.proofs.Common.{◌≡◌, ℕ, ◌+◌, refl, add-one}
use Rattle.rand_xoshiro.specs.SplitMix64.{mix_u64}
use Rattle.wot_random.specs.Words.{state_after}

-- the state after one more word
pub state_after_more : (start drawn : ℕ) → state_after start (drawn + 1) ≡ (mix_u64 (state_after start drawn)).1
unfolding state_after
state_after_more start drawn = rw add-one refl
