-- The stamps after an import: the new one if something was added.
use Rattle.std.proofs.Common.{◌≡◌, ◌≤◌, ◌<◌, ◌+◌, ℕ, Bool, true, false, cond, if◌then◌else◌, nat_lt, List, [], ◌∷◌, map}
use Rattle.std.proofs.Common.{Option, Some, None, is_some, sym, ap, ◌∙◌, subst, refl, arith}
use Rattle.std.specs.List.{AllByRecursion}
use Rattle.std.specs.Map.{lookup}
use Rattle.std.proofs.lemmas.Bool.Decides.{nat_tests}
use Rattle.wot_types.specs.declared.fpr.Fpr.{Fpr}
use Rattle.wot_types.specs.PlainLaws.{all_then}
use Rattle.wot_key.specs.Key.{fpr_of}
use Rattle.wot_policy.specs.declared.rows.PolicyRows.{PolicyRows}
use Rattle.wot_component.specs.Certificate.{Certificate, unite}
use Rattle.wot_component.specs.Counts.{items_of}
use Rattle.wot_component.specs.Judged.{judged}
use Rattle.wot_keyring_spec.specs.declared.kept.Kept.{Kept}
use Rattle.wot_keyring_spec.specs.Import.{stamp_for, stamped, with_certs}
use Rattle.wot_keyring_spec.specs.Keyring.{Entries, Keyring, is_fpr, kept_at, certificates_in, stripped}
use Rattle.wot_keyring_spec.specs.Kept.{AreSortedByFpr, AreStamped}
use Rattle.wot_merge.specs.Staging.{found_for, found_by, kept_as, kept_with, kept_all}
use Rattle.wot_keyring_spec.proofs.Inserts.{put_at, found_at, found_each, still_present}
use Rattle.wot_merge.proofs.Transport.{certs_all}
use Rattle.wot_merge.proofs.Unchanged.{not_below}

-- The stamp follows from what was kept before, and is at least as high.
record Marked (k : Keyring) (fpr : Fpr) (x : Kept) : Type 0 where
  pub stamp_is : x.stamp ≡ stamp_for (k.changes + 1) (kept_at k fpr) x.cert
  pub grown : found_by items_of (kept_at k fpr) ≤ items_of x.cert

reach : (n : ℕ) → n ≤ n
reach n = omega arith

none_least : (n : ℕ) → 0 ≤ n
none_least n = omega arith

chain : (a b c : ℕ) → a ≤ b → b ≤ c → a ≤ c
chain a b c h k = omega arith

absent : (p o : Option Kept) → (is_some p ≡ true → is_some o ≡ true) → o ≡ None → p ≡ None
absent None o there e = refl
absent (Some y) o there e = let g : is_some {T = Kept} None ≡ true = subst (λ (z : Option Kept). is_some z ≡ true) e
    (there refl) in absurd cc

still_there : (rows : PolicyRows) (stamp : ℕ) (fpr : Fpr) (es : Entries) (cs : List Certificate) →
    is_some (lookup (is_fpr fpr) es) ≡ true → is_some (lookup (is_fpr fpr) (kept_all rows stamp es cs)) ≡ true
still_there rows stamp fpr es [] there = there
still_there rows stamp fpr es (c ∷ cs) there =
    still_there rows stamp fpr (kept_with rows stamp es c) cs (still_present fpr es (fpr_of c.key)
    (kept_as rows stamp (found_for es c) c) there)

-- nothing that was kept was removed
pub kept_present : (rows : PolicyRows) (stamp : ℕ) (fpr : Fpr) (es : Entries) (cs : List Certificate) →
    lookup (is_fpr fpr) (kept_all rows stamp es cs) ≡ None → lookup (is_fpr fpr) es ≡ None
kept_present rows stamp fpr es cs none =
    absent (lookup (is_fpr fpr) es) (lookup (is_fpr fpr) (kept_all rows stamp es cs)) (still_there rows stamp fpr es cs)
    none

marked_first : (k : Keyring) (e : Fpr × Kept) → lookup (is_fpr e.0) k.certs ≡ Some e.1 → Marked k e.0 e.1
marked_first k e found = record {
  stamp_is = sym (ap (λ (o : Option Kept). stamp_for (k.changes + 1) o e.1.cert) found
      ∙ ap (λ b. cond b (k.changes + 1) e.1.stamp) (not_below (items_of e.1.cert)));
  grown = subst (λ (o : Option Kept). found_by items_of o ≤ items_of e.1.cert) (sym found) (reach (items_of e.1.cert));
}

nested : (a x v s t : ℕ) → a ≤ x → x ≤ v →
    (if nat_lt x v then s else (if nat_lt a x then s else t)) ≡ (if nat_lt a v then s else t)
nested a x v s t h k = grind (arith, nat_tests)

both_ways : (b : Bool) (s t : ℕ) → t ≡ s → (if b then s else t) ≡ s
both_ways true s t e = refl
both_ways false s t e = e

module _ (rows : PolicyRows) (k : Keyring) (grows : (a b : Certificate) → items_of a ≤ items_of (unite a b)) where
  abbrev s : ℕ
  s = k.changes + 1

  over : (fpr : Fpr) (p : Option Kept) (x : Kept) (v : Certificate) → x.stamp ≡ stamp_for s p x.cert →
      found_by items_of p ≤ items_of x.cert → items_of x.cert ≤ items_of v →
      (if nat_lt (items_of x.cert) (items_of v) then s else x.stamp) ≡ stamp_for s p v
  over fpr None x v e h m = both_ways (nat_lt (items_of x.cert) (items_of v)) s x.stamp e
  over fpr (Some o) x v e h m = ap (λ t. if nat_lt (items_of x.cert) (items_of v) then s else t) e
      ∙ nested (items_of o.cert) (items_of x.cert) (items_of v) s o.stamp h m

  marked_with : (es : Entries) (c : Certificate) → AllByRecursion (λ (e : Fpr × Kept). Marked k e.0 e.1) es →
      ((q : Fpr) → is_some (kept_at k q) ≡ true → is_some (lookup (is_fpr q) es) ≡ true) →
      Marked k (fpr_of c.key) (kept_as rows s (found_for es c) c)
  marked_with es c all there =
      (elim (found_for es c) as (λ (o : Option Kept). found_for es c ≡ o →
      Marked k (fpr_of c.key) (kept_as rows s o c)) [
        | None ↦ λ n.
            let p : kept_at k (fpr_of c.key) ≡ None = absent (kept_at k (fpr_of c.key)) (found_for es c)
            (there (fpr_of c.key)) n in
            record {
              stamp_is = sym (ap (λ (o : Option Kept). stamp_for s o (judged rows c)) p);
              grown = subst (λ (o : Option Kept). found_by items_of o ≤ items_of (judged rows c)) (sym p)
                  (none_least (items_of (judged rows c)));
            }
        | Some x ↦ λ f.
            let m : Marked k (fpr_of c.key) x = found_at (Marked k) (fpr_of c.key) es x all f in
            record {
              stamp_is = over (fpr_of c.key) (kept_at k (fpr_of c.key)) x (unite x.cert (judged rows c)) m.stamp_is
                  m.grown (grows x.cert (judged rows c));
              grown = chain _ _ _ m.grown (grows x.cert (judged rows c));
            }
      ]) refl

  all_marked : (es : Entries) (cs : List Certificate) → AllByRecursion (λ (e : Fpr × Kept). Marked k e.0 e.1) es →
      ((q : Fpr) → is_some (kept_at k q) ≡ true → is_some (lookup (is_fpr q) es) ≡ true) →
      AllByRecursion (λ (e : Fpr × Kept). Marked k e.0 e.1) (kept_all rows s es cs)
  all_marked es [] all there = all
  all_marked es (c ∷ cs) all there =
      all_marked (kept_with rows s es c) cs (put_at (Marked k) es (fpr_of c.key) (kept_as rows s (found_for es c) c) all
      (marked_with es c all there))
      (λ q h. still_present q es (fpr_of c.key) (kept_as rows s (found_for es c) c) (there q h))

  stamps_are : (es : Entries) → AllByRecursion (λ (e : Fpr × Kept). Marked k e.0 e.1) es →
      es ≡ map (stamped k) (stripped es)
  stamps_are [] all = refl
  stamps_are (e ∷ es) all = λ i. (e.0, record { cert = e.1.cert; stamp = all.0.stamp_is i }) ∷ stamps_are es all.1 i

  -- What is kept is what the definition says, stamps included.
  pub stamped_all : (cs : List Certificate) → AreSortedByFpr k.certs → kept_all rows s k.certs cs ≡ map (stamped k)
      (with_certs rows (certificates_in k) cs)
  stamped_all cs sorted =
      stamps_are (kept_all rows s k.certs cs)
      (all_marked k.certs cs (all_then (λ (e : Fpr × Kept). lookup (is_fpr e.0) k.certs ≡ Some e.1)
      (λ (e : Fpr × Kept). Marked k e.0 e.1) (marked_first k) k.certs (found_each k.certs sorted)) (λ q h. h))
      ∙ ap (map (stamped k)) (certs_all rows s k.certs cs)

-- ---- stamps stay the counts of changes

above : (n : ℕ) → (0 < n + 1) × (n + 1 ≤ n + 1)
above n = (omega arith, omega arith)

either_stamp : (n t : ℕ) (b : Bool) → (0 < t) × (t ≤ n + 1) →
    (0 < (if b then n + 1 else t)) × ((if b then n + 1 else t) ≤ n + 1)
either_stamp n t true h = above n
either_stamp n t false h = h

pub stamped_after : (rows : PolicyRows) (n : ℕ) (es : Entries) (cs : List Certificate) → AreStamped (n + 1) es →
    AreStamped (n + 1) (kept_all rows (n + 1) es cs)
stamped_after rows n es [] all = all
stamped_after rows n es (c ∷ cs) all =
    stamped_after rows n (kept_with rows (n + 1) es c) cs (put_at (λ fpr x. (0 < x.stamp) × (x.stamp ≤ n + 1)) es
    (fpr_of c.key) (kept_as rows (n + 1) (found_for es c) c) all
    ((elim (found_for es c) as (λ (o : Option Kept). found_for es c ≡ o →
    (0 < (kept_as rows (n + 1) o c).stamp) × ((kept_as rows (n + 1) o c).stamp ≤ n + 1)) [
      | None ↦ λ none. above n
      | Some x ↦ λ found. either_stamp n x.stamp _ (found_at (λ fpr y. (0 < y.stamp) × (y.stamp ≤ n + 1)) (fpr_of c.key)
          es x all found)
    ]) refl))
