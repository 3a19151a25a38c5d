-- A certificate that grew in place.
use Rattle.std.proofs.Common.{◌≡◌, ℕ, ◌+◌, ◌-◌, ◌≤◌, ◌<◌, ◌^◌, min, List, length, refl, sym, ap, ◌∙◌, subst, arith}
use Rattle.wot_packet.specs.Writing.{written}
use Rattle.wot_policy.specs.declared.rows.PolicyRows.{PolicyRows}
use Rattle.wot_component.specs.declared.adds.Adds.{Adds}
use Rattle.wot_cert.specs.declared.places.Places.{Places}
use Rattle.wot_component.specs.Certificate.{Certificate, unite}
use Rattle.wot_component.specs.Counts.{weight_of, items_of}
use Rattle.wot_cert.specs.Growing.{AreUnited, PlacesFollow}
use Rattle.wot_component.specs.Judged.{judged, is_admitted_by}
use Rattle.wot_component.specs.New.{judged_beside}
use Rattle.wot_cert.specs.Parts.{of_places}
use Rattle.wot_component.specs.Text.{size_of}
use Rattle.wot_component.specs.Totals.{AreTotals, cap}
use Rattle.wot_component.specs.Whole.{IsCertificate}
use Rattle.wot_cert.proofs.MergedMarks.{merged}
use Rattle.wot_cert.proofs.Same.{same_cert}
use Rattle.wot_component.proofs.TextSize.{size_is, union_items, first_items}
use Rattle.wot_component.proofs.Weights.{unite_more}
use Rattle.wot_component.proofs.Wholes.{marked_whole, unite_whole}

zero_more : (n d : ℕ) → n ≤ d → 0 + n ≤ d
zero_more n d h = omega arith

-- a merged list has at least as many well-formed signatures as the first one
pub no_fewer : (w : Certificate → ℕ) (a u : Certificate) → w a ≤ w u → 0 + w a ≤ w u
no_fewer w a u h = zero_more (w a) (w u) h

more : (a b n m : ℕ) → a ≡ min (1 + n) (2 ^ 64 - 1) → b ≡ min (1 + m) (2 ^ 64 - 1) → n ≤ m → a ≤ b
more a b n m e f h = omega arith

exact : (a b i j k : ℕ) → a ≡ min i (2 ^ 64 - 1) → b ≡ min j (2 ^ 64 - 1) → j ≡ k → i < 2 ^ 63 → k < 2 ^ 63 → i ≤ j
    → b - a + i ≡ j
exact a b i j k e f g h l m = omega arith

none : (a n : ℕ) → a ≡ min n (2 ^ 64 - 1) → a ≡ min (0 + n) (2 ^ 64 - 1)
none a n h = omega arith

all_of : (a n : ℕ) → a ≡ min (0 + n) (2 ^ 64 - 1) → a ≡ min n (2 ^ 64 - 1)
all_of a n h = omega arith

module _ (rows : PolicyRows) (places new : Places) (o : Certificate) (key : List ℕ) where
  abbrev old_cert : Certificate
  old_cert = of_places key places

  abbrev new_cert : Certificate
  new_cert = of_places key new

  pub is_union : AreUnited rows places new o → new_cert ≡ unite old_cert (judged rows o)
  is_union u = same_cert _ _ refl u.direct u.user_ids u.attributes u.subkeys

  pub is_whole : AreUnited rows places new o → IsCertificate old_cert → IsCertificate o → key ≡ o.key
      → IsCertificate new_cert
  is_whole u h k e =
      subst IsCertificate (sym (is_union u))
      (unite_whole old_cert (judged rows o) h (marked_whole (is_admitted_by rows) o k) e)

  weighs_more : AreUnited rows places new o
      → weight_of (λ _. 1) (λ _. 1) old_cert ≤ weight_of (λ _. 1) (λ _. 1) new_cert
  weighs_more u =
      let h = unite_more (λ _. 1) (λ _. 1) (λ x y. refl) old_cert (judged rows o) in
      subst (λ (c : Certificate). weight_of (λ _. 1) (λ _. 1) old_cert ≤ weight_of (λ _. 1) (λ _. 1) c)
      (sym (is_union u)) h

  module _ (a b : Adds) (t : AreTotals a old_cert) (f : PlacesFollow a b places new) where
    octets : b.octets ≡ cap (size_of new_cert)
    octets = f.octets (length (written 6 key)) (t.octets ∙ ap cap (size_is old_cert)) ∙ ap cap (sym (size_is new_cert))

    pub new_totals : AreTotals b new_cert
    new_totals = record
        { items = f.items 1 t.items; signatures = all_of _ _ (f.signatures 0 (none _ _ t.signatures)); octets = octets }

    pub items_more : AreUnited rows places new o → a.items ≤ b.items
    items_more u = more a.items b.items _ _ t.items (f.items 1 t.items) (weighs_more u)

    one_more : (n m : ℕ) → n ≤ m → 1 + n ≤ 1 + m
    one_more n m h = omega arith

    pub items_new : AreUnited rows places new o → IsCertificate old_cert → IsCertificate o
        → size_of old_cert + size_of o < 2 ^ 63 → b.items - a.items + items_of old_cert ≡ items_of new_cert
    items_new u h k few =
        let same : new_cert ≡ judged_beside rows old_cert (unite old_cert o) =
        is_union u ∙ sym (merged rows old_cert o h k) in
        exact a.items b.items (items_of old_cert) (items_of new_cert) _ t.items (f.items 1 t.items) (ap items_of same)
        (first_items old_cert o few) (union_items rows old_cert o few) (one_more _ _ (weighs_more u))
