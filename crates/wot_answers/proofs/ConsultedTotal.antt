-- The answers kept for one view: how many fingerprints they consulted together.
use Rattle.std.proofs.Common.{◌≡◌, ℕ, ◌+◌, ◌-◌, ◌<◌, ◌≤◌, length, Option, Some, None, refl, ap, arith}
use Rattle.std.specs.List.{sum_by}
use Rattle.std.specs.List.Sorted.{IsStrictlySortedBy}
use Rattle.std.specs.Option.{option_map, unwrap_or}
use Rattle.std.specs.BTreeMap.{insert_entry, is_at}
use Rattle.std.specs.Map.{keys_of, lookup, set_value, values_of}
use Rattle.std.proofs.lemmas.Map.{length-set_value}
use Rattle.std.proofs.lemmas.Map.Entries.{sum_by-insert_entry, sum_by-set_value}
use Rattle.std.specs.Ordering.{nat_cmp}
use Rattle.std.proofs.lemmas.Cmp.{nat_cmp_total}
use Rattle.wot_keyring_spec.specs.Keyring.{Keyring}
use Rattle.wot_answers.specs.declared.answers.KeptAnswer.{KeptAnswer}
use Rattle.wot_answers.specs.Answers.{AreFew, AreRight, Entries, IsGood, IsRight, IsSameBut, looked_by, looked_in}
use Rattle.wot_answers.specs.Looked.{Amounts}
use Rattle.wot_answers.specs.EntryLaws.{each_inserted, length_inserted}

pub right_put : (k : Keyring) (roots : Amounts) (revision : ℕ) (entries : Entries) (a : KeptAnswer) →
    AreRight k roots revision entries → IsRight k a
    → IsGood k roots revision a → AreRight k roots revision (insert_entry nat_cmp entries a.key a)
right_put k roots revision entries a all right good =
    each_inserted (λ (x : KeptAnswer). IsRight k x × IsGood k roots revision x) nat_cmp entries a.key a all (right, good)

by_option : (o : Option KeptAnswer) → looked_by o ≡ unwrap_or (option_map looked_in o) 0
by_option None = refl
by_option (Some a) = refl

-- the total after an answer replaced an earlier one under its key
pub counted : (entries : Entries) (a : KeptAnswer) → IsStrictlySortedBy nat_cmp (keys_of entries)
    → sum_by looked_in (values_of (insert_entry nat_cmp entries a.key a)) + looked_by
    (lookup (is_at (nat_cmp a.key)) entries)
    ≡ sum_by looked_in (values_of entries) + looked_in a
counted entries a sorted =
    let same = by_option (lookup (is_at (nat_cmp a.key)) entries) in
    let sums = sum_by-insert_entry looked_in nat_cmp_total entries a.key a sorted in
    omega (arith, same, sums)

-- an answer consulted no more fingerprints than the total, so the subtraction doesn't underflow
pub fewer : (entries : Entries) (a : KeptAnswer) (looked earlier : ℕ) → IsStrictlySortedBy nat_cmp (keys_of entries) →
    AreFew entries looked
    → earlier ≡ looked_by (lookup (is_at (nat_cmp a.key)) entries) → earlier ≤ looked + looked_in a
fewer entries a looked earlier sorted few e =
    let sums = counted entries a sorted in
    omega (arith, sums, e, few.counted)

pub few_put : (entries : Entries) (a : KeptAnswer) (looked earlier : ℕ) → IsStrictlySortedBy nat_cmp (keys_of entries) →
    AreFew entries looked
    → earlier ≡ looked_by (lookup (is_at (nat_cmp a.key)) entries) → length entries < 1024 →
    looked + looked_in a ≤ 1048576
    → AreFew (insert_entry nat_cmp entries a.key a) (looked + looked_in a - earlier)
few_put entries a looked earlier sorted few e room fits =
    let sums = counted entries a sorted in
    let more = length_inserted nat_cmp entries a.key a in
    record {
      few = omega (arith, room, more);
      counted = omega (arith, sums, e, few.counted);
      bounded = omega (arith, fits);
    }

-- revalidating an answer leaves the total unchanged
pub few_set : (entries : Entries) (key : ℕ) (old new : KeptAnswer) (looked : ℕ) →
    lookup (is_at (nat_cmp key)) entries ≡ Some old → IsSameBut old new
    → AreFew entries looked → AreFew (set_value (is_at (nat_cmp key)) entries new) looked
few_set entries key old new looked found same few =
    let sums = sum_by-set_value looked_in (is_at (nat_cmp key)) entries old new found in
    let as_many : looked_in new ≡ looked_in old = ap looked_in same in
    record {
      few = rw (length-set_value (is_at (nat_cmp key)) entries new) few.few;
      counted = omega (arith, sums, as_many, few.counted);
      bounded = few.bounded;
    }
