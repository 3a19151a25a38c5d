-- What a certificate brings in all.
use Rattle.std.proofs.Common.{◌≡◌, ℕ, ◌+◌, ◌≤◌, ◌<◌, ◌^◌, length, arith, le_refl}
use Rattle.wot_packet.specs.Writing.{written}
use Rattle.wot_component.specs.declared.adds.Adds.{Adds}
use Rattle.wot_component.specs.Certificate.{Signature, Certificate, unite}
use Rattle.wot_component.specs.Counts.{sum_of, weight_of, items_of, signatures_of}
use Rattle.wot_component.specs.Sizes.{sig_size, own_size, part_items, part_signatures, part_size, BringsSigs, BringsParts}
use Rattle.wot_component.specs.Sizes.{IsSum, IsFew}
use Rattle.wot_component.specs.Text.{size_of}
use Rattle.wot_component.proofs.AddingParts.{signatures_least}
use Rattle.wot_component.proofs.TextSize.{sum_least, some_octet, part_items_least, size_is}

-- what each of the lists brings
pub record Brought (a u : Certificate) (d e f g : Adds) : Type 0 where
  pub direct : BringsSigs d a.direct u.direct
  pub user_ids : BringsParts e a.user_ids u.user_ids
  pub attributes : BringsParts f a.attributes u.attributes
  pub subkeys : BringsParts g a.subkeys u.subkeys

-- the octets of each list are few
pub record Rooms (u : Certificate) : Type 0 where
  pub direct : sum_of sig_size u.direct < 2 ^ 63
  pub user_ids : sum_of part_size u.user_ids < 2 ^ 63
  pub attributes : sum_of part_size u.attributes < 2 ^ 63
  pub subkeys : sum_of part_size u.subkeys < 2 ^ 63
  pub all : weight_of sig_size own_size u < 2 ^ 63

share_one : (n k d u t s : ℕ) → n ≡ k + (d + u + t + s) → n < 2 ^ 63 → d < 2 ^ 63
share_one n k d u t s e h = omega arith

share_two : (n k d u t s : ℕ) → n ≡ k + (d + u + t + s) → n < 2 ^ 63 → u < 2 ^ 63
share_two n k d u t s e h = omega arith

share_three : (n k d u t s : ℕ) → n ≡ k + (d + u + t + s) → n < 2 ^ 63 → t < 2 ^ 63
share_three n k d u t s e h = omega arith

share_four : (n k d u t s : ℕ) → n ≡ k + (d + u + t + s) → n < 2 ^ 63 → s < 2 ^ 63
share_four n k d u t s e h = omega arith

share_all : (n k w : ℕ) → n ≡ k + w → n < 2 ^ 63 → w < 2 ^ 63
share_all n k w e h = omega arith

pub rooms : (u : Certificate) → size_of u < 2 ^ 63 → Rooms u
rooms u h = record {
  direct = share_one (size_of u) _ _ _ _ _ (size_is u) h;
  user_ids = share_two (size_of u) _ _ _ _ _ (size_is u) h;
  attributes = share_three (size_of u) _ _ _ _ _ (size_is u) h;
  subkeys = share_four (size_of u) _ _ _ _ _ (size_is u) h;
  all = share_all (size_of u) _ _ (size_is u) h;
}

few_first : (d s1 u1 v1 e s2 u2 v2 v3 v4 : ℕ) → d + s1 ≡ u1 → u1 ≤ v1 → e + s2 ≡ u2 → u2 ≤ v2
    → v1 + v2 + v3 + v4 < 2 ^ 63 → d + e < 2 ^ 64
few_first d s1 u1 v1 e s2 u2 v2 v3 v4 p q r s h = omega arith

few_last : (d s1 u1 v1 e s2 u2 v2 v3 v4 : ℕ) → d + s1 ≡ u1 → u1 ≤ v3 → e + s2 ≡ u2 → u2 ≤ v4
    → v1 + v2 + v3 + v4 < 2 ^ 63 → d + e < 2 ^ 64
few_last d s1 u1 v1 e s2 u2 v2 v3 v4 p q r s h = omega arith

few_all : (p q d e f g s1 s2 s3 s4 u1 u2 u3 u4 v1 v2 v3 v4 : ℕ) → p ≡ d + e → q ≡ f + g → d + s1 ≡ u1 → e + s2 ≡ u2
    → f + s3 ≡ u3 → g + s4 ≡ u4 → u1 ≤ v1 → u2 ≤ v2 → u3 ≤ v3 → u4 ≤ v4 → v1 + v2 + v3 + v4 < 2 ^ 63 → p + q < 2 ^ 64
few_all p q d e f g s1 s2 s3 s4 u1 u2 u3 u4 v1 v2 v3 v4 a b h i j k l m n o t = omega arith

abbrev one : Signature → ℕ
one s = 1

ones_least : (c : Certificate) → sum_of one c.direct ≤ sum_of sig_size c.direct
ones_least c = sum_least one sig_size (λ s. some_octet 2 s.body) c.direct

module _ (a u : Certificate) (d e f g : Adds) (b : Brought a u d e f g) (r : Rooms u) where
  pub named_few : IsFew (2 ^ 64) d e
  named_few = record {
    items = few_first _ _ _ _ _ _ _ _ _ _ b.direct.items (ones_least u) b.user_ids.items
        (sum_least part_items part_size part_items_least u.user_ids) r.all;
    signatures = few_first _ _ _ _ _ _ _ _ _ _ b.direct.signatures (ones_least u) b.user_ids.signatures
        (sum_least part_signatures part_size signatures_least u.user_ids) r.all;
    octets = few_first _ _ _ _ _ _ _ _ _ _ b.direct.octets (le_refl _) b.user_ids.octets (le_refl _) r.all;
  }

  pub others_few : IsFew (2 ^ 64) f g
  others_few = record {
    items = few_last _ _ _ (sum_of sig_size u.direct) _ _ _ (sum_of part_size u.user_ids) _ _ b.attributes.items
        (sum_least part_items part_size part_items_least u.attributes) b.subkeys.items
        (sum_least part_items part_size part_items_least u.subkeys) r.all;
    signatures = few_last _ _ _ (sum_of sig_size u.direct) _ _ _ (sum_of part_size u.user_ids) _ _
        b.attributes.signatures (sum_least part_signatures part_size signatures_least u.attributes) b.subkeys.signatures
        (sum_least part_signatures part_size signatures_least u.subkeys) r.all;
    octets = few_last _ _ _ (sum_of sig_size u.direct) _ _ _ (sum_of part_size u.user_ids) _ _ b.attributes.octets
        (le_refl _) b.subkeys.octets (le_refl _) r.all;
  }

  pub all_few : (p q : Adds) → IsSum p d e → IsSum q f g → IsFew (2 ^ 64) p q
  all_few p q s t = record {
    items = few_all _ _ _ _ _ _ _ _ _ _ _ _ _ _ _ _ _ _ s.items t.items b.direct.items b.user_ids.items
        b.attributes.items b.subkeys.items (ones_least u) (sum_least part_items part_size part_items_least u.user_ids)
        (sum_least part_items part_size part_items_least u.attributes)
        (sum_least part_items part_size part_items_least u.subkeys) r.all;
    signatures = few_all _ _ _ _ _ _ _ _ _ _ _ _ _ _ _ _ _ _ s.signatures t.signatures b.direct.signatures
        b.user_ids.signatures b.attributes.signatures b.subkeys.signatures (ones_least u)
        (sum_least part_signatures part_size signatures_least u.user_ids)
        (sum_least part_signatures part_size signatures_least u.attributes)
        (sum_least part_signatures part_size signatures_least u.subkeys) r.all;
    octets = few_all _ _ _ _ _ _ _ _ _ _ _ _ _ _ _ _ _ _ s.octets t.octets b.direct.octets b.user_ids.octets
        b.attributes.octets b.subkeys.octets (le_refl _) (le_refl _) (le_refl _) (le_refl _) r.all;
  }

total : (k m p q d e f g s1 s2 s3 s4 u1 u2 u3 u4 : ℕ) → m ≡ p + q → p ≡ d + e → q ≡ f + g → d + s1 ≡ u1 → e + s2 ≡ u2
    → f + s3 ≡ u3 → g + s4 ≡ u4 → m + (k + (s1 + s2 + s3 + s4)) ≡ k + (u1 + u2 + u3 + u4)
total k m p q d e f g s1 s2 s3 s4 u1 u2 u3 u4 x a b h i j l = omega arith

total_plain : (m p q d e f g s1 s2 s3 s4 u1 u2 u3 u4 : ℕ) → m ≡ p + q → p ≡ d + e → q ≡ f + g → d + s1 ≡ u1
    → e + s2 ≡ u2 → f + s3 ≡ u3 → g + s4 ≡ u4 → m + (s1 + s2 + s3 + s4) ≡ u1 + u2 + u3 + u4
total_plain m p q d e f g s1 s2 s3 s4 u1 u2 u3 u4 x a b h i j l = omega arith

sized : (m n l k w v : ℕ) → m + (k + w) ≡ k + v → n ≡ k + w → l ≡ k + v → m + n ≡ l
sized m n l k w v h e f = omega arith

module _ (a b : Certificate) (d e f g p q m : Adds) (h : Brought a (unite a b) d e f g) (s : IsSum p d e)
    (t : IsSum q f g) (r : IsSum m p q) where
  pub all_items : m.items + items_of a ≡ items_of (unite a b)
  all_items = total 1 _ _ _ _ _ _ _ _ _ _ _ _ _ _ _ r.items s.items t.items h.direct.items h.user_ids.items
      h.attributes.items h.subkeys.items

  pub all_signatures : m.signatures + signatures_of a ≡ signatures_of (unite a b)
  all_signatures =
      total_plain _ _ _ _ _ _ _ _ _ _ _ _ _ _ _ r.signatures s.signatures t.signatures h.direct.signatures
      h.user_ids.signatures h.attributes.signatures h.subkeys.signatures

  pub all_octets : m.octets + size_of a ≡ size_of (unite a b)
  all_octets =
      sized m.octets (size_of a) (size_of (unite a b)) (length (written 6 a.key)) _ _
      (total (length (written 6 a.key)) _ _ _ _ _ _ _ _ _ _ _ _ _ _ _ r.octets s.octets t.octets h.direct.octets
      h.user_ids.octets h.attributes.octets h.subkeys.octets) (size_is a) (size_is (unite a b))

fewer : (n k a b c d w x y z : ℕ) → n ≡ k + (w + x + y + z) → a ≤ w → b ≤ x → c ≤ y → d ≤ z → n < 2 ^ 63
    → a + b + c + d < 2 ^ 63
fewer n k a b c d w x y z s e f g h few = omega arith

-- A certificate has fewer signatures than its text has octets.
pub few_signatures : (c : Certificate) → size_of c < 2 ^ 63 → signatures_of c < 2 ^ 63
few_signatures c few =
    let parts = sum_least part_signatures part_size signatures_least in
    fewer (size_of c) (length (written 6 c.key)) _ _ _ _ _ _ _ _ (size_is c) (ones_least c) (parts c.user_ids)
    (parts c.attributes) (parts c.subkeys) few
