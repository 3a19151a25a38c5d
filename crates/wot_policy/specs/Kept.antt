-- What a policy keeps besides its closure.
use Rattle.std.specs.Prelude.{◌≡◌, ℕ, ◌+◌, ◌-◌, ◌^◌, Bool, min, max}
use Rattle.std.specs.Fn.{Shared}
use Rattle.wot_policy.specs.declared.rows.Ask.{Ask}
use Rattle.wot_policy.specs.declared.rows.PolicyRows.{PolicyRows}
use Rattle.wot_policy.specs.declared.policy.Policy.{Policy}
use Rattle.wot_policy.specs.Admits.{admits, Fits}

-- The closure can be asked anything that fits, and answers by these rows.
pub record AnswersBy {F : Type 0} (calls : Shared F (Ask × Unit {0}) Bool) (judge : F)
    (rows : PolicyRows) : Type 0 where
  pub callable : (ask : Ask) → Fits ask → calls.pre judge (ask, tt)
  pub answers : (ask : Ask) (answer : Bool) → Fits ask → calls.post judge (ask, tt) answer → answer ≡ admits rows ask

-- the rows with which a policy was made
abbrev pub rows_of : {F : Type 0} → Policy F → PolicyRows
rows_of policy = policy.rows

-- how often it was asked
abbrev pub asked_of : {F : Type 0} → Policy F → ℕ
asked_of policy = policy.asked

-- The policy's closure answers by the rows with which the policy was made.
abbrev pub IsFaithful : {F : Type 0} → Shared F (Ask × Unit {0}) Bool → Policy F → Type 0
IsFaithful calls policy = AnswersBy calls policy.judge (rows_of policy)

-- a count that rises by this many, and stays at the end of its type
abbrev pub risen : ℕ → ℕ → ℕ
risen more count = max count (min (count + more) (2 ^ 64 - 1))

-- the policy after this many more questions: only the count changes
abbrev pub asked_more : {F : Type 0} → ℕ → Policy F → Policy F
asked_more more policy = record policy { asked = risen more policy.asked }
