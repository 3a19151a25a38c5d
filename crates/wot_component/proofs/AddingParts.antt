-- The walk that adds up what components bring.
use Rattle.std.proofs.Common.{◌≡◌, ℕ, ◌+◌, ◌≤◌, ◌<◌, ◌^◌, List, ◌∷◌, subst, arith, le_refl, le_trans}
use Rattle.std.specs.declared.cmp.Ordering.TheVariants.{Equal}
use Rattle.wot_component.specs.declared.adds.Adds.{Adds}
use Rattle.wot_component.specs.Certificate.{Signature, Component, part_cmp, sig_cmp, kept, unite_part, unite_parts}
use Rattle.wot_component.specs.Certificate.{unite_sigs}
use Rattle.wot_component.specs.Counts.{sum_of}
use Rattle.wot_component.specs.Fitting.{PartFits}
use Rattle.wot_component.specs.Sizes.{sig_size, own_size, part_items, part_signatures, part_size, Weighs, IsSum, IsFew}
use Rattle.wot_component.specs.Sizes.{BringsSigs, BringsParts}
use Rattle.wot_component.proofs.AddedInOrder.{Adding, Ahead, adding_equal, few_adds, few_joined, few_alone, few_new}
use Rattle.wot_component.proofs.TextSize.{sum_least, part_items_least}
use Rattle.wot_component.proofs.Walk.{parts_total, parts_same}
use Rattle.wot_component.proofs.Weights.{united_more}

abbrev pub PartsAdding : Adds → List Component → List Component → List Component → List Component → Type 0
PartsAdding = Adding part_cmp unite_part part_items part_signatures part_size PartFits

abbrev pub PartAhead : List Component → List Component → List Component → Component → Type 0
PartAhead = Ahead part_cmp unite_part parts_total parts_same part_items part_signatures part_size PartFits

more : (o s t : ℕ) → s ≤ t → o + s ≤ o + t
more o s t h = omega arith

items_more : (x z : Component) → part_items x ≤ part_items (unite_part x z)
items_more x z = more _ _ _ (united_more sig_cmp kept (λ _. 1) (λ a b. le_refl 1) x.sigs z.sigs)

signatures_more : (x z : Component) → part_signatures x ≤ part_signatures (unite_part x z)
signatures_more x z = more _ _ _ (united_more sig_cmp kept (λ _. 1) (λ a b. le_refl 1) x.sigs z.sigs)

size_more : (x z : Component) → part_size x ≤ part_size (unite_part x z)
size_more x z = more _ _ _ (united_more sig_cmp kept sig_size (λ a b. le_refl (sig_size a)) x.sigs z.sigs)

wider : (a b : ℕ) → a ≤ b → b < 2 ^ 63 → a < 2 ^ 64
wider a b h k = omega arith

fewer : (s : ℕ) → 0 + s ≤ 1 + s
fewer s = omega arith

pub signatures_least : (p : Component) → part_signatures p ≤ part_size p
signatures_least p = le_trans (fewer (sum_of (λ _. 1) p.sigs)) (part_items_least p)

pub parts_few : (adds e : Adds) (a b left right ys : List Component) (y : Component) → PartsAdding adds a b left right
    → PartAhead left right ys y → Weighs part_items part_signatures part_size e y
    → sum_of part_size (unite_parts a b) < 2 ^ 63 → IsFew (2 ^ 64) adds e
parts_few adds e a b left right ys y w h g k =
    few_adds part_cmp unite_part parts_total parts_same part_items part_signatures part_size PartFits adds e (2 ^ 64) a
    b left right ys y items_more signatures_more size_more w h g
    (wider _ _ (sum_least part_items part_size part_items_least (unite_parts a b)) k)
    (wider _ _ (sum_least part_signatures part_size signatures_least (unite_parts a b)) k)
    (wider _ _ (le_refl _) k)

last_few : (acc m p : ℕ) → acc + m < p → m < p
last_few acc m p h = omega arith

-- A new component is small.
pub part_few : (adds : Adds) (a b left right ys : List Component) (y : Component) → PartsAdding adds a b left right
    → PartAhead left right ys y → sum_of part_size (unite_parts a b) < 2 ^ 63 → part_size y < 2 ^ 63
part_few adds a b left right ys y w h k =
    last_few adds.octets (part_size y) (2 ^ 63)
    (few_new part_cmp unite_part parts_total parts_same part_size size_more adds.octets (2 ^ 63) a b left right ys y
    (h.ahead part_size) w.octets k)

back_few : (o s p : ℕ) → o + s < p → s < p
back_few o s p h = omega arith

-- Two merged components are small.
pub union_few : (adds : Adds) (a b left right : List Component) (x : Component) (xs : List Component) (y : Component)
    (ys : List Component) → PartsAdding adds a b left right → left ≡ x ∷ xs → right ≡ y ∷ ys → part_cmp x y ≡ Equal
    → sum_of part_size (unite_parts a b) < 2 ^ 63 → sum_of sig_size (unite_sigs x.sigs y.sigs) < 2 ^ 63
union_few adds a b left right x xs y ys w l r h k =
    back_few (own_size x) _ (2 ^ 63)
    (few_alone part_cmp unite_part parts_total parts_same part_size size_more adds.octets (2 ^ 63) a b left right x xs y
    ys w.octets l r w.right_rises h k)

own_first : (e o s u : ℕ) → e + s ≡ u → e + (o + s) ≡ o + u
own_first e o s u h = omega arith

pub parts_equal : (adds adds' e : Adds) (a b left right : List Component) (x : Component) (xs : List Component)
    (y : Component) (ys : List Component) → PartsAdding adds a b left right → left ≡ x ∷ xs → right ≡ y ∷ ys
    → part_cmp x y ≡ Equal → IsSum adds' adds e → BringsSigs e x.sigs (unite_sigs x.sigs y.sigs)
    → PartsAdding adds' a b xs ys
parts_equal adds adds' e a b left right x xs y ys w l r h s g =
    adding_equal part_cmp unite_part parts_total parts_same part_items part_signatures part_size PartFits adds adds' e a
    b left right x xs y ys w l r h s
    (own_first e.items 1 _ _ g.items) (own_first e.signatures 0 _ _ g.signatures)
    (own_first e.octets (own_size x) _ _ g.octets)

pub parts_few_equal : (adds e : Adds) (a b left right : List Component) (x : Component) (xs : List Component)
    (y : Component) (ys : List Component) → PartsAdding adds a b left right → left ≡ x ∷ xs → right ≡ y ∷ ys
    → part_cmp x y ≡ Equal → BringsSigs e x.sigs (unite_sigs x.sigs y.sigs)
    → sum_of part_size (unite_parts a b) < 2 ^ 63 → IsFew (2 ^ 64) adds e
parts_few_equal adds e a b left right x xs y ys w l r h g k = record {
  items = few_joined part_cmp unite_part parts_total parts_same part_items items_more adds.items e.items (2 ^ 64) a b
      left right x xs y ys w.items l r w.right_rises h (own_first e.items 1 _ _ g.items)
      (wider _ _ (sum_least part_items part_size part_items_least (unite_parts a b)) k);
  signatures = few_joined part_cmp unite_part parts_total parts_same part_signatures signatures_more adds.signatures
      e.signatures (2 ^ 64) a b left right x xs y ys w.signatures l r w.right_rises h
      (own_first e.signatures 0 _ _ g.signatures)
      (wider _ _ (sum_least part_signatures part_size signatures_least (unite_parts a b)) k);
  octets = few_joined part_cmp unite_part parts_total parts_same part_size size_more adds.octets e.octets (2 ^ 64) a b
      left right x xs y ys w.octets l r w.right_rises h (own_first e.octets (own_size x) _ _ g.octets)
      (wider _ _ (le_refl _) k);
}

-- the law for equal lists
pub brings_same : (e : Adds) (s s' t t' : List Signature) → s ≡ s' → t ≡ t' → BringsSigs e s (unite_sigs s t)
    → BringsSigs e s' (unite_sigs s' t')
brings_same e s s' t t' p q h =
    let First : List Signature → Type 0 = λ v. BringsSigs e v (unite_sigs v t) in
    let Second : List Signature → Type 0 = λ v. BringsSigs e s' (unite_sigs s' v) in
    subst Second q (subst First p h)

pub brings_same_parts : (e : Adds) (s s' t t' : List Component) → s ≡ s' → t ≡ t' → BringsParts e s (unite_parts s t)
    → BringsParts e s' (unite_parts s' t')
brings_same_parts e s s' t t' p q h =
    let First : List Component → Type 0 = λ v. BringsParts e v (unite_parts v t) in
    let Second : List Component → Type 0 = λ v. BringsParts e s' (unite_parts s' v) in
    subst Second q (subst First p h)
