-- Each stamp stays the count of a change that was made.
use Rattle.std.proofs.Common.{◌≡◌, ℕ, ◌+◌, ◌<◌, ◌≤◌, Bool, true, false, cond, [], ◌∷◌, Option, Some, sym, subst, arith}
use Rattle.std.specs.Option.{IfSome, MatchOption, option_map}
use Rattle.std.specs.Map.{lookup, remove_entry}
use Rattle.wot_types.specs.declared.fpr.Fpr.{Fpr}
use Rattle.wot_types.specs.declared.number.SigNumber.{SigNumber}
use Rattle.wot_keyring_spec.specs.declared.kept.Kept.{Kept}
use Rattle.wot_keyring_spec.specs.Keyring.{Entries}
use Rattle.wot_keyring_spec.specs.Kept.{AreStamped}
use Rattle.wot_keyring_spec.specs.Verdict.{has_number, restamped_all}

one_more : (a c : ℕ) → a ≤ c → a ≤ c + 1
one_more a c h = omega (arith, h)

above_zero : (c : ℕ) → 0 < c + 1
above_zero c = omega arith

itself : (c : ℕ) → c ≤ c
itself c = omega arith

-- after one more change
pub still_stamped : (c : ℕ) (es : Entries) → AreStamped c es → AreStamped (c + 1) es
still_stamped c [] all = tt
still_stamped c (e ∷ es) all = ((all.0.0, one_more e.1.stamp c all.0.1), still_stamped c es all.1)

-- after a certificate was removed
pub removed_stamped : (c : ℕ) (test : Fpr → Bool) (es : Entries) → AreStamped c es →
    AreStamped (c + 1) (remove_entry test es)
removed_stamped c test [] all = tt
removed_stamped c test (e ∷ es) all =
    elim (test e.0) as (λ b. AreStamped (c + 1) (cond b es (e ∷ remove_entry test es))) [
      | true ↦ still_stamped c es all.1
      | false ↦ ((all.0.0, one_more e.1.stamp c all.0.1), removed_stamped c test es all.1)
    ]

-- after a verdict was altered
pub restamped_stamped : (c : ℕ) (number : SigNumber) (es : Entries) → AreStamped c es →
    AreStamped (c + 1) (restamped_all number (c + 1) es)
restamped_stamped c number [] all = tt
restamped_stamped c number (e ∷ es) all = (
  elim (has_number number e.1.cert) as (λ b. (0 < cond b (c + 1) e.1.stamp) × (cond b (c + 1) e.1.stamp ≤ c + 1)) [
    | true ↦ (above_zero c, itself (c + 1))
    | false ↦ (all.0.0, one_more e.1.stamp c all.0.1)
  ],
  restamped_stamped c number es all.1,
)

-- what is found has a stamp
pub found_stamped : (c : ℕ) (test : Fpr → Bool) (es : Entries) → AreStamped c es →
    IfSome (lookup test es) (λ (x : Kept). (0 < x.stamp) × (x.stamp ≤ c))
found_stamped c test [] all = tt
found_stamped c test (e ∷ es) all =
    elim (test e.0) as (λ b. IfSome (cond b (Some e.1) (lookup test es))
    (λ (x : Kept). (0 < x.stamp) × (x.stamp ≤ c))) [
      | true ↦ all.0
      | false ↦ found_stamped c test es all.1
    ]

-- a certificate that is found has the stamp of some change
pub stamp_found : (c : ℕ) (test : Fpr → Bool) (es : Entries) (kept : Kept) → AreStamped c es →
    Some kept ≡ lookup test es → (0 < kept.stamp) × (kept.stamp ≤ c)
stamp_found c test es kept all found =
    subst (λ (o : Option Kept). IfSome o (λ (x : Kept). (0 < x.stamp) × (x.stamp ≤ c))) (sym found)
    (found_stamped c test es all)

pub stamp_absent : (o : Option Kept) (kept : Kept) → Some kept ≡ o → 0 < kept.stamp →
    MatchOption (option_map (λ (x : Kept). x.cert) o) (kept.stamp ≡ 0) (λ _. 0 < kept.stamp)
stamp_absent o kept found above = subst (λ (o : Option Kept). MatchOption (option_map (λ (x : Kept). x.cert) o)
    (kept.stamp ≡ 0) (λ _. 0 < kept.stamp)) found above
