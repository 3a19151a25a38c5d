-- Totals that follow lists.
use Rattle.std.proofs.Common.{◌≡◌, ℕ, ◌+◌, ◌-◌, ◌<◌, ◌^◌, min, List, [], ◌∷◌, length, ap, sym, ◌∙◌, subst, arith}
use Rattle.std.proofs.lemmas.List.{nil_from_length}
use Rattle.wot_component.specs.declared.adds.Adds.{Adds}
use Rattle.wot_component.specs.Certificate.{Certificate}
use Rattle.wot_component.specs.Counts.{sum_of, items_of, signatures_of}
use Rattle.wot_component.specs.Text.{size_of}
use Rattle.wot_component.specs.Totals.{cap, Counts, Follow, WeighsCapped, IsCappedSum, AreTotals}

at_next : (a e b x n : ℕ) → a ≡ min (n + 0) (2 ^ 64 - 1) → e ≡ min x (2 ^ 64 - 1) → b ≡ min (a + e) (2 ^ 64 - 1)
    → b ≡ min ((n + x) + 0) (2 ^ 64 - 1)
at_next a e b x n h k l = omega arith

regroup : (b n x r s : ℕ) → b ≡ min ((n + x) + r) (2 ^ 64 - 1) → s ≡ x + r → b ≡ min (n + s) (2 ^ 64 - 1)
regroup b n x r s h k = omega arith

counts_on : (a e b c x r s : ℕ) → e ≡ cap x → b ≡ cap (a + e) → s ≡ x + r → Counts b 0 c r → Counts a 0 c s
counts_on a e b c x r s h k l go before start =
    regroup c before x r s (go (before + x) (at_next a e b x before start h k)) l

pub record Before {A : Type 0} (wi ws wo : A → ℕ) (first sum : Adds) (all rest : List A) : Type 0 where
  pub then : (last : Adds) → Follow wi ws wo sum last [] rest → Follow wi ws wo first last [] all

module _ {A : Type 0} (wi ws wo : A → ℕ) where
  pub follow_none : (a : Adds) (xs : List A) → Follow wi ws wo a a xs xs
  follow_none a xs = record { items = λ before h. h; signatures = λ before h. h; octets = λ before h. h }

  pub follow_then : (a b c : Adds) (xs ys zs : List A) → Follow wi ws wo a b xs ys → Follow wi ws wo b c ys zs
      → Follow wi ws wo a c xs zs
  follow_then a b c xs ys zs f g = record {
    items = λ before h. g.items before (f.items before h);
    signatures = λ before h. g.signatures before (f.signatures before h);
    octets = λ before h. g.octets before (f.octets before h);
  }

  follow_on : (sum more next last : Adds) (x : A) (rest others : List A) → WeighsCapped wi ws wo more x
      → IsCappedSum next sum more → rest ≡ x ∷ others → Follow wi ws wo next last [] others
      → Follow wi ws wo sum last [] rest
  follow_on sum more next last x rest others w s e f = record {
    items = counts_on _ _ _ _ _ _ _ w.items s.items (ap (sum_of wi) e) f.items;
    signatures = counts_on _ _ _ _ _ _ _ w.signatures s.signatures (ap (sum_of ws) e) f.signatures;
    octets = counts_on _ _ _ _ _ _ _ w.octets s.octets (ap (sum_of wo) e) f.octets;
  }

  pub before_on : (first sum more next : Adds) (all rest others : List A) (x : A) → WeighsCapped wi ws wo more x
      → IsCappedSum next sum more → rest ≡ x ∷ others → Before wi ws wo first sum all rest
      → Before wi ws wo first next all others
  before_on first sum more next all rest others x w s e b =
      record { then = λ last f. b.then last (follow_on sum more next last x rest others w s e f) }

  pub before_all : (first sum : Adds) (all rest : List A) → length rest ≡ 0 → Before wi ws wo first sum all rest
      → Follow wi ws wo first sum [] all
  before_all first sum all rest n b =
      let e : rest ≡ [] = nil_from_length rest n in
      b.then sum (subst (λ (xs : List A). Follow wi ws wo sum sum [] xs) (sym e) (follow_none sum []))

pub uncapped : (m : ℕ) → m < 2 ^ 63 → min m (2 ^ 64 - 1) ≡ m
uncapped m h = omega arith

pub totals_same : (t : Adds) (c d : Certificate) → items_of d ≡ items_of c → signatures_of d ≡ signatures_of c
    → size_of d ≡ size_of c → AreTotals t c → AreTotals t d
totals_same t c d i s o h =
    record {
      items = h.items ∙ ap cap (sym i);
      signatures = h.signatures ∙ ap cap (sym s);
      octets = h.octets ∙ ap cap (sym o);
    }

plain : (a n : ℕ) → a ≡ min n (2 ^ 64 - 1) → a ≡ min (n + 0) (2 ^ 64 - 1)
plain a n h = omega arith

sum_is : (e k x y z w n : ℕ) → e ≡ min ((((k + x) + y) + z) + w) (2 ^ 64 - 1) → n ≡ k + (x + y + z + w)
    → e ≡ min n (2 ^ 64 - 1)
sum_is e k x y z w n h m = omega arith

small : (k : ℕ) → k < 2 ^ 33 → k ≡ min k (2 ^ 64 - 1)
small k h = omega arith

-- one list after the other
pub counts_all : (k b c d e x y z w n : ℕ) → k < 2 ^ 33 → Counts k 0 b x → Counts b 0 c y → Counts c 0 d z
    → Counts d 0 e w → n ≡ k + (x + y + z + w) → e ≡ cap n
counts_all k b c d e x y z w n few f g h i m =
    let one : b ≡ cap (k + x) = f k (plain k k (small k few)) in
    let two : c ≡ cap ((k + x) + y) = g (k + x) (plain b _ one) in
    let three : d ≡ cap (((k + x) + y) + z) = h ((k + x) + y) (plain c _ two) in
    let four : e ≡ cap ((((k + x) + y) + z) + w) = i (((k + x) + y) + z) (plain d _ three) in
    sum_is e k x y z w n four m
