-- How often a policy was asked.
use Rattle.std.proofs.Common.{◌≡◌, ℕ, ◌+◌, ◌-◌, ◌^◌, max, min, ap, ◌∙◌, arith}
use Rattle.wot_policy.specs.declared.policy.Policy.{Policy}
use Rattle.wot_policy.specs.Kept.{asked_more}

twice : (n i j : ℕ)
    → max (max n (min (n + i) (2 ^ 64 - 1))) (min (max n (min (n + i) (2 ^ 64 - 1)) + j) (2 ^ 64 - 1)) ≡ max n
    (min (n + (i + j)) (2 ^ 64 - 1))
twice n i j = omega arith

pub asked_again : {F : Type 0} (p q r : Policy F) (i j : ℕ) → q ≡ asked_more i p → r ≡ asked_more j q
    → r ≡ asked_more (i + j) p
asked_again p q r i j e f = f ∙ ap (asked_more j) e ∙ ap (λ n. record p { asked = n }) (twice p.asked i j)

none_more : (n : ℕ) → n ≡ max n (min (n + 0) (2 ^ 64 - 1))
none_more n = omega arith

pub not_asked : {F : Type 0} (p : Policy F) → p ≡ asked_more 0 p
not_asked p = ap (λ n. record p { asked = n }) (none_more p.asked)
