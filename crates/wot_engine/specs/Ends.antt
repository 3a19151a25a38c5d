-- How a run ends: its stop, and its exit status.
use Rattle.std.specs.Prelude.{◌≡◌, ◌⊎◌, ℕ, Result, Ok, Err, IsErrOf}
use Rattle.wot_engine.specs.declared.run.Stop.{Stop}
use Rattle.wot_engine.specs.declared.run.Stop.TheVariants.{Read, Write, Memory, TooMuch}

-- the exit status
abbrev pub status_at : {T : Type 0} → Result T Stop → ℕ
status_at (Ok value) = 0
status_at (Err Read) = 3
status_at (Err Write) = 4
status_at (Err Memory) = 5
status_at (Err TooMuch) = 6

-- 2 ^ 30 octets were taken before the input ended, or memory ran out
abbrev pub IsMuchOrMemory : {T : Type 0} → Result T Stop → Type 0
IsMuchOrMemory result = IsErrOf result TooMuch ⊎ IsErrOf result Memory

-- the exit status is one of these two
abbrev pub IsEither : ℕ → ℕ → ℕ → Type 0
IsEither first second status = (status ≡ first) ⊎ (status ≡ second)
