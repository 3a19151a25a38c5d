-- What a certificate holds, counted as far as a `u64` counts.
use Rattle.std.specs.Prelude.{◌≡◌, ℕ, ◌+◌, ◌-◌, ◌^◌, min, List}
use Rattle.wot_component.specs.declared.adds.Adds.{Adds}
use Rattle.wot_component.specs.Certificate.{Signature, Component, Certificate}
use Rattle.wot_component.specs.Counts.{sum_of, items_of, signatures_of}
use Rattle.wot_component.specs.Sizes.{sig_size, part_items, part_signatures, part_size}
use Rattle.wot_component.specs.Text.{size_of}

-- a count that stays at its type's end
abbrev pub cap : ℕ → ℕ
cap n = min n (2 ^ 64 - 1)

-- These are the totals of a certificate.
pub record AreTotals (t : Adds) (c : Certificate) : Type 0 where
  pub items : t.items ≡ cap (items_of c)
  pub signatures : t.signatures ≡ cap (signatures_of c)
  pub octets : t.octets ≡ cap (size_of c)

-- Whatever was counted before: where a count had that and n, it has that and m now.
abbrev pub Counts : ℕ → ℕ → ℕ → ℕ → Type 0
Counts a n b m = (before : ℕ) → a ≡ cap (before + n) → b ≡ cap (before + m)

-- The totals follow a list that changed, by three weights.
pub record Follow {A : Type 0} (wi ws wo : A → ℕ) (a b : Adds) (xs ys : List A) : Type 0 where
  pub items : Counts a.items (sum_of wi xs) b.items (sum_of wi ys)
  pub signatures : Counts a.signatures (sum_of ws xs) b.signatures (sum_of ws ys)
  pub octets : Counts a.octets (sum_of wo xs) b.octets (sum_of wo ys)

abbrev pub FollowSigs : Adds → Adds → List Signature → List Signature → Type 0
FollowSigs = Follow (λ _. 1) (λ _. 1) sig_size

abbrev pub FollowParts : Adds → Adds → List Component → List Component → Type 0
FollowParts = Follow part_items part_signatures part_size

-- what one item weighs, counted so
pub record WeighsCapped {A : Type 0} (wi ws wo : A → ℕ) (t : Adds) (x : A) : Type 0 where
  pub items : t.items ≡ cap (wi x)
  pub signatures : t.signatures ≡ cap (ws x)
  pub octets : t.octets ≡ cap (wo x)

-- the sum of both, counted so
pub record IsCappedSum (sum a b : Adds) : Type 0 where
  pub items : sum.items ≡ cap (a.items + b.items)
  pub signatures : sum.signatures ≡ cap (a.signatures + b.signatures)
  pub octets : sum.octets ≡ cap (a.octets + b.octets)
