-- How often a policy was asked in a call.
use Rattle.std.specs.Prelude.{◌≡◌, ◌≤◌, ◌+◌, ℕ, Result, MatchResult}
use Rattle.wot_policy.specs.declared.policy.Policy.{Policy}
use Rattle.wot_policy.specs.Kept.{asked_more}

-- The policy was asked a number of times of which this is true.
abbrev pub Asks : {F : Type 0} → Policy F → Policy F → (ℕ → Type 0) → Type 0
Asks before after P = (k : ℕ) × (after ≡ asked_more k before) × P k

-- On Ok, the policy was asked a number of times of which P is true; otherwise it wasn't asked.
abbrev pub AsksOnOk : {F T E : Type 0} → Result T E → Policy F → Policy F → (ℕ → Type 0) → Type 0
AsksOnOk result before after P = (k : ℕ) × (after ≡ asked_more k before) × MatchResult result (λ _. P k) (λ _. k ≡ 0)

-- The policy was asked once about each new well-formed signature; if memory ran out, about some of them.
abbrev pub AsksUpTo : {F T E : Type 0} → Result T E → Policy F → Policy F → ℕ → ℕ → Type 0
AsksUpTo result before after old wanted =
    (k : ℕ) × (after ≡ asked_more k before) × MatchResult result (λ _. k + old ≡ wanted) (λ _. k + old ≤ wanted)
