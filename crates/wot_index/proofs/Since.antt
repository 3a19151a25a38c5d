-- The entries of a log above a count are its end, from some place on.
use Rattle.std.proofs.Common.{◌≡◌, ◌≤◌, ◌<◌, ℕ, zero, suc, Bool, true, false, ◌&&◌, ◌||◌, nat_eq, nat_le, [], ◌∷◌}
use Rattle.std.proofs.Common.{length, drop, Option, Some, None, refl, sym, ap, subst, ◌∙◌, arith}
use Rattle.std.specs.List.{AllByRecursion, slice_index_or}
use Rattle.std.specs.List.Sorted.{IsPartitionedBy}
use Rattle.std.proofs.lemmas.Bool.Decides.{nat_tests}
use Rattle.wot_types.specs.declared.fpr.Fpr.{Fpr}
use Rattle.wot_keyring_spec.specs.declared.kept.Kept.{Kept}
use Rattle.wot_index.specs.declared.log.Log.{Log}
use Rattle.wot_keyring_spec.specs.Keyring.{Keyring, is_fpr, kept_at}
use Rattle.wot_index.specs.Log.{Logged, AreRising, IsLogOf, HasChangedSince, is_listed, is_logged_at}
use Rattle.wot_index.proofs.Later.{stamp_by}

abbrev pub is_up_to : ℕ → ℕ × Fpr → Bool
is_up_to count e = nat_le e.0 count

head_up : (n a b : ℕ) → a ≤ b → nat_le b n ≡ true → nat_le a n ≡ true
head_up n a b h k = grind (arith, nat_tests)

at : (P : ℕ × Fpr → Type 0) (es : Logged) (d : ℕ × Fpr) (j : ℕ) → AllByRecursion P es → j < length es →
    P (slice_index_or es j d)
at P [] d j all l = absurd (none j l)
  where
    none : (j : ℕ) → j < 0 → ⊥
    none j l = omega arith
at P (e ∷ es) d zero all l = all.0
at P (e ∷ es) d (suc j) all l = at P es d j all.1 (back j (length es) l)
  where
    back : (j n : ℕ) → suc j < suc n → j < n
    back j n l = omega arith

pub partitioned : (count : ℕ) (es : Logged) → AreRising es → IsPartitionedBy (is_up_to count) es
partitioned count [] rising i j d le l up = absurd (none j l)
  where
    none : (j : ℕ) → j < 0 → ⊥
    none j l = omega arith
partitioned count (e ∷ es) rising zero zero d le l up = up
partitioned count (e ∷ es) rising zero (suc j) d le l up =
    head_up count e.0 _ (at (λ later. e.0 ≤ later.0) es d j rising.0 (back j (length es) l)) up
  where
    back : (j n : ℕ) → suc j < suc n → j < n
    back j n l = omega arith
partitioned count (e ∷ es) rising (suc i) zero d le l up = absurd (none i le)
  where
    none : (i : ℕ) → suc i ≤ 0 → ⊥
    none i l = omega arith
partitioned count (e ∷ es) rising (suc i) (suc j) d le l up = partitioned count es rising.1 i j d (less i j le)
    (back j (length es) l) up
  where
    back : (j n : ℕ) → suc j < suc n → j < n
    back j n l = omega arith

    less : (i j : ℕ) → suc i ≤ suc j → i ≤ j
    less i j l = omega arith

-- what is logged with a stamp is listed
listed : (s : ℕ) (fpr : Fpr) (es : Logged) → is_logged_at s fpr es ≡ true → is_listed fpr es ≡ true
listed s fpr [] h = h
listed s fpr (e ∷ es) h = by (nat_eq s e.0) (is_fpr fpr e.1) (is_logged_at s fpr es) (is_listed fpr es)
    (listed s fpr es) h
  where
    by : (a b c d : Bool) → (c ≡ true → d ≡ true) → (a && b) || c ≡ true → b || d ≡ true
    by a true c d f h = refl
    by true false c d f h = f h
    by false false c d f h = f h

apart : (s n : ℕ) (count : ℕ) → count < s → nat_le n count ≡ true → nat_eq s n ≡ false
apart s n count l h = grind (arith, nat_tests)

-- What is logged with a stamp above the count is from some place on, and no entry before it is above the count.
pub since : (s count : ℕ) (fpr : Fpr) (es : Logged) (i : ℕ) →
    ((k : ℕ) (d : ℕ × Fpr) → 0 ≤ k → k < i → is_up_to count (slice_index_or es k d) ≡ true) → count < s →
    is_logged_at s fpr es ≡ true → is_listed fpr (drop i es) ≡ true
since s count fpr [] i up l h = cc
since s count fpr (e ∷ es) zero up l h = listed s fpr (e ∷ es) h
since s count fpr (e ∷ es) (suc i) up l h =
    since s count fpr es i (λ k d a b. up (suc k) d (omega arith) (omega arith)) l
    (ap (λ b. (b && is_fpr fpr e.1) || is_logged_at s fpr es)
    (sym (apart s e.0 count l (up 0 e (omega arith) (omega arith)))) ∙ h)

-- The entries above a count include each certificate with such a stamp, if the log goes back far enough.
pub has_changed : (k : Keyring) (log : Log) (count : ℕ) (found : Logged) → IsLogOf log k.certs k.changes →
    log.from ≤ count
    → ((s : ℕ) (fpr : Fpr) → count < s → is_logged_at s fpr log.entries.items ≡ true → is_listed fpr found ≡ true) →
    HasChangedSince k count found
has_changed k log count found is back above q past = by (kept_at k q) refl
  where
    none : count < 0 → ⊥
    none l = omega arith

    below : (a b c : ℕ) → a ≤ b → b < c → a < c
    below a b c h l = omega arith

    by : (o : Option Kept) → kept_at k q ≡ o → is_listed q found ≡ true
    by None e = absurd (none (subst (λ n. count < n) (stamp_by k q None e) past))
    by (Some x) e =
        let up = subst (λ n. count < n) (stamp_by k q (Some x) e) past in
        above x.stamp q up (is.whole q x e (below log.from count x.stamp back up))
