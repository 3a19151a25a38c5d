-- What the steps of an import need to know about merging.
use Rattle.std.proofs.Common.{◌≡◌, ◌<◌, ◌≤◌, ◌+◌, ◌^◌, ℕ, zero, suc, true, false, cond, if◌then◌else◌, nat_eq, nat_lt}
use Rattle.std.proofs.Common.{◌-◌, min, Option, Some, None, length, sym, ap, ◌∙◌, subst, refl, arith}
use Rattle.std.specs.Option.{option_map}
use Rattle.std.proofs.lemmas.Bool.Decides.{nat_tests}
use Rattle.wot_policy.specs.declared.rows.PolicyRows.{PolicyRows}
use Rattle.wot_cert.specs.Assembly.{bare}
use Rattle.wot_component.specs.Certificate.{Certificate, unite}
use Rattle.wot_component.specs.Counts.{items_of, weight_of}
use Rattle.wot_component.specs.Judged.{IsJudged, judged}
use Rattle.wot_component.specs.Text.{size_of, text_of}
use Rattle.wot_component.specs.Whole.{IsCertificate}
use Rattle.wot_component.proofs.TextSize.{items_least}
use Rattle.wot_keyring_spec.specs.declared.kept.Kept.{Kept}
use Rattle.wot_merge.specs.declared.tally.Weight.{Weight}
use Rattle.wot_keyring_spec.specs.Import.{stamp_for}
use Rattle.wot_merge.specs.Staging.{begun, stamp_over, Weighs, IsStaged}

below : (n a b j m : ℕ) → n ≡ m → m ≤ a + j → j ≡ b → a + b < 2 ^ 63 → n < 2 ^ 63
below n a b j m e h f few = omega arith

-- A merged certificate has few octets if both together have few.
pub union_few : (new a b j : Certificate) → new ≡ unite a j → size_of (unite a j) ≤ size_of a + size_of j →
    text_of j ≡ text_of b → size_of a + size_of b < 2 ^ 63 → size_of new < 2 ^ 63
union_few new a b j e h t few = below (size_of new) (size_of a) (size_of b) (size_of j) (size_of (unite a j))
    (ap size_of e) h (ap length t) few

-- ---- one certificate

few_again : (n m : ℕ) → n ≡ m → m < 2 ^ 62 → n < 2 ^ 63
few_again n m e few = omega arith

pub few_marked : (rows : PolicyRows) (c new : Certificate) → new ≡ judged rows c → text_of (judged rows c) ≡ text_of c →
    size_of c < 2 ^ 62 → size_of new < 2 ^ 63
few_marked rows c new e t few = few_again (size_of new) (size_of c) (ap size_of e ∙ ap length t) few

some_item : (others r : ℕ) → r ≡ min (1 + others) (2 ^ 64 - 1) → 1 ≤ r
some_item others r e = omega arith

-- Its key is an item.
pub counts_key : (c : Certificate) (r : ℕ) → r ≡ min (items_of c) (2 ^ 64 - 1) → 1 ≤ r
counts_key c r e = some_item (weight_of (λ _. 1) (λ _. 1) c) r e

one_less : (others m s r : ℕ) → r ≡ min (1 + others) (2 ^ 64 - 1) → 1 + others ≡ m → m ≤ s → s < 2 ^ 62 →
    r - 1 + 1 ≡ 1 + others
one_less others m s r e same least few = omega arith

-- The count of its items is exact.
pub counts_others : (rows : PolicyRows) (c new : Certificate) (r : ℕ) → r ≡ min (items_of new) (2 ^ 64 - 1) →
    new ≡ judged rows c → items_of (judged rows c) ≡ items_of c → size_of c < 2 ^ 62 → r - 1 + 1 ≡ items_of new
counts_others rows c new r e n same few =
    one_less (weight_of (λ _. 1) (λ _. 1) new) (items_of c) (size_of c) r e (ap items_of n ∙ same) (items_least c) few

-- ---- one step

stamps_agree : (stamp old items i n : ℕ) → items + i ≡ n →
    (if nat_eq items 0 then old else stamp) ≡ (if nat_lt i n then stamp else old)
stamps_agree stamp old zero i n e = let l : nat_lt i n ≡ false = grind (arith, nat_tests) in
    sym (ap (λ b. cond b stamp old) l)
stamps_agree stamp old (suc items) i n e =
    let z : nat_eq (suc items) 0 ≡ false = grind (arith, nat_tests) in
    let l : nat_lt i n ≡ true = grind (arith, nat_tests) in
    ap (λ b. if b then old else stamp) z ∙ sym (ap (λ b. cond b stamp old) l)

no_key : (items s x n : ℕ) → s ≡ x → items + s ≡ n → (items + 0) + x ≡ n
no_key items s x n e h = omega arith

one_key : (items n : ℕ) → items + 1 ≡ n → (items + 1) + 0 ≡ n
one_key items n e = omega arith

-- What is kept of a new key is all new.
pub step_first : (rows : PolicyRows) (stamp limit : ℕ) (c new : Certificate) (a : Weight) (items st : ℕ) →
    new ≡ judged rows c → Weighs limit a new → items + 1 ≡ items_of new → IsJudged rows new → st ≡ stamp
    → IsStaged rows stamp limit None c (record {
      kept = record { cert = new; stamp = st };
      before = record { octets = 0; signatures = 0; long = 0 };
      after = a;
      items = items;
      keys = 1;
    })
step_first rows stamp limit c new a items st n wa more j s = record {
  kept = λ i. record { cert = n i; stamp = s i };
  before = (refl, refl, refl);
  after = wa;
  items = one_key items (items_of new) more;
  judged = λ h. j;
}

module _ (rows : PolicyRows) (stamp limit : ℕ) (c start new : Certificate) (b a : Weight) (items st : ℕ)
    (n : new ≡ unite start (judged rows c)) (wb : Weighs limit b start) (wa : Weighs limit a new)
    (more : items + items_of start ≡ items_of new) (j : IsJudged rows start → IsJudged rows new) where
  -- if a certificate was kept
  pub step_on : (found : Option Kept) (old : ℕ) → start ≡ begun found c →
      Some old ≡ option_map (λ (x : Kept). x.stamp) found → st ≡ stamp_over stamp (Some old) items
      → IsStaged rows stamp limit found c (record {
        kept = record { cert = new; stamp = st };
        before = b;
        after =
            a;
        items = items;
        keys = 0;
      })
  step_on None old s o t = absurd cc
  step_on (Some x) old s o t =
      let e : new ≡ unite x.cert (judged rows c) = n ∙ ap (λ (z : Certificate). unite z (judged rows c)) s in
      let same : old ≡ x.stamp = cc in
      let m : items + items_of x.cert ≡ items_of (unite x.cert (judged rows c)) =
      ap (λ (z : Certificate). items + items_of z) (sym s) ∙ more ∙ ap items_of e in
      let f : st ≡ stamp_for stamp (Some x) (unite x.cert (judged rows c)) =
      t ∙ ap (λ z. if nat_eq items 0 then z else stamp) same ∙ stamps_agree stamp x.stamp items (items_of x.cert) _
      m in
      record {
        kept = λ i. record { cert = e i; stamp = f i };
        before = subst (λ (z : Certificate). Weighs limit b z) s wb;
        after = wa;
        items = no_key items (items_of start) (items_of x.cert) (items_of new) (ap items_of s) more;
        judged = λ h. j (subst (λ (z : Certificate). IsJudged rows z) (sym s) h);
      }

  -- if none was kept
  pub step_new : (found : Option Kept) → IsCertificate c → (IsCertificate c → IsCertificate (judged rows c)) →
      (IsCertificate (judged rows c) → unite (bare c.key) (judged rows c) ≡ judged rows c)
      → start ≡ begun found c → None ≡ option_map (λ (x : Kept). x.stamp) found → st ≡ stamp_over stamp None items
      → IsStaged rows stamp limit found c (record {
        kept = record { cert = new; stamp = st };
        before =
            record { octets = 0; signatures = 0; long = 0 };
        after = a;
        items = items;
        keys = 1;
      })
  step_new (Some x) whole marked first s o t = absurd cc
  step_new None whole marked first s o t =
      let e : new ≡ judged rows c = n ∙ ap (λ (z : Certificate). unite z (judged rows c)) s ∙ first (marked whole) in
      step_first rows stamp limit c new a items st e wa (ap (λ k. items + k) (sym (ap items_of s)) ∙ more)
      (j (subst (λ (z : Certificate). IsJudged rows z) (sym s)
      (record { direct = tt; user_ids = tt; attributes = tt; subkeys = tt }))) t
