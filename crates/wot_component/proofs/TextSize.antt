-- How long a certificate's text is.
use Rattle.std.proofs.Common.{◌≡◌, ℕ, ◌+◌, ◌≤◌, ◌<◌, ◌^◌, List, [], ◌∷◌, ◌++◌, length, refl, ap, ◌∙◌, arith}
use Rattle.std.proofs.Common.{length-append}
use Rattle.wot_packet.specs.Writing.{written}
use Rattle.wot_policy.specs.declared.rows.PolicyRows.{PolicyRows}
use Rattle.wot_component.specs.Certificate.{Signature, Component, Certificate, unite}
use Rattle.wot_component.specs.Counts.{sum_of, part_weight, weight_of, items_of}
use Rattle.wot_component.specs.New.{judged_beside}
use Rattle.wot_component.specs.Sizes.{sig_size, own_size}
use Rattle.wot_component.specs.Text.{sigs_text, part_text, parts_text, size_of}
use Rattle.wot_component.proofs.Weights.{unite_more, unite_less, beside_weight}

pub sigs_size : (sigs : List Signature) → length (sigs_text sigs) ≡ sum_of sig_size sigs
sigs_size [] = refl
sigs_size (s ∷ sigs) = length-append (written 2 s.body) (sigs_text sigs) ∙ ap (λ n. sig_size s + n) (sigs_size sigs)

pub part_size : (kind : ℕ) (p : Component) → length (part_text kind p) ≡ part_weight sig_size own_size p
part_size kind p = length-append (written kind p.body) (sigs_text p.sigs) ∙ ap (λ n. own_size p + n) (sigs_size p.sigs)

pub parts_size : (kind : ℕ) (ps : List Component)
    → length (parts_text kind ps) ≡ sum_of (part_weight sig_size own_size) ps
parts_size kind [] = refl
parts_size kind (p ∷ ps) =
    length-append (part_text kind p) (parts_text kind ps)
    ∙ (λ i. part_size kind p i + parts_size kind ps i)

five : (k a b c d w x y z : ℕ) → w ≡ a → x ≡ b → y ≡ c → z ≡ d → k + w + x + y + z ≡ k + (a + b + c + d)
five k a b c d w x y z e f g h = omega arith

appended : (a b c d e : List ℕ) → length (a ++ b ++ c ++ d ++ e) ≡ length a + length b + length c + length d + length e
appended a b c d e =
    length-append (a ++ b ++ c ++ d) e
    ∙ ap (λ n. n + length e)
    (length-append (a ++ b ++ c) d
    ∙ ap (λ n. n + length d) (length-append (a ++ b) c ∙ ap (λ n. n + length c) (length-append a b)))

-- The size is that of the key and what the rest weighs.
pub size_is : (c : Certificate) → size_of c ≡ length (written 6 c.key) + weight_of sig_size own_size c
size_is c =
    appended (written 6 c.key) (sigs_text c.direct) (parts_text 13 c.user_ids) (parts_text 17 c.attributes)
    (parts_text 14 c.subkeys)
    ∙ five _ _ _ _ _ _ _ _ _ (sigs_size c.direct) (parts_size 13 c.user_ids) (parts_size 17 c.attributes)
    (parts_size 14 c.subkeys)

-- ---- items

pub some_octet : (kind : ℕ) (body : List ℕ) → 1 ≤ length (written kind body)
some_octet kind body = omega arith

step_sum : (a b s t : ℕ) → a ≤ b → s ≤ t → a + s ≤ b + t
step_sum a b s t h k = omega arith

zero_least : 0 ≤ 0
zero_least = omega arith

pub sum_least : {A : Type 0} (m n : A → ℕ) → ((x : A) → m x ≤ n x) → (xs : List A) → sum_of m xs ≤ sum_of n xs
sum_least m n h [] = zero_least
sum_least m n h (x ∷ xs) = step_sum _ _ _ _ (h x) (sum_least m n h xs)

pub part_items_least : (p : Component) → part_weight (λ _. 1) (λ _. 1) p ≤ part_weight sig_size own_size p
part_items_least p =
    step_sum _ _ _ _ (some_octet 13 p.body) (sum_least (λ _. 1) sig_size (λ s. some_octet 2 s.body) p.sigs)

weights_least : (k n a b c d w x y z : ℕ) → 1 ≤ k → n ≡ k + (w + x + y + z) → a ≤ w → b ≤ x → c ≤ y → d ≤ z
    → 1 + (a + b + c + d) ≤ n
weights_least k n a b c d w x y z s t e f g h = omega arith

-- A certificate has no more items than its text has octets.
pub items_least : (c : Certificate) → items_of c ≤ size_of c
items_least c =
    let parts = sum_least (part_weight (λ _. 1) (λ _. 1)) (part_weight sig_size own_size) part_items_least in
    weights_least (length (written 6 c.key)) (size_of c) _ _ _ _ _ _ _ _ (some_octet 6 c.key) (size_is c)
    (sum_least (λ _. 1) sig_size (λ s. some_octet 2 s.body) c.direct) (parts c.user_ids) (parts c.attributes)
    (parts c.subkeys)

-- ---- merging

less_sum : (k j u a b n m s : ℕ) → n ≡ k + a → m ≡ j + b → s ≡ k + u → u ≤ a + b → s ≤ n + m
less_sum k j u a b n m s e f g h = omega arith

-- The text of a merged certificate is no longer than both texts.
pub size_less : (a b : Certificate) → size_of (unite a b) ≤ size_of a + size_of b
size_less a b =
    less_sum (length (written 6 a.key)) (length (written 6 b.key)) _ _ _ _ _ _ (size_is a) (size_is b)
    (size_is (unite a b)) (unite_less sig_size own_size (λ x y. refl) a b)

below : (i n m p : ℕ) → i ≤ n → n ≤ m → m < p → i < p
below i n m p h k l = omega arith

-- The items of a merged certificate, and of the first one, are few.
pub union_items : (rows : PolicyRows) (a b : Certificate) → size_of a + size_of b < 2 ^ 63
    → items_of (judged_beside rows a (unite a b)) < 2 ^ 63
union_items rows a b h =
    let e : items_of (judged_beside rows a (unite a b)) ≡ items_of (unite a b) =
    ap (λ n. 1 + n) (beside_weight (λ _. 1) (λ _. 1) rows (λ s. refl) (λ old p. refl) a (unite a b)) in
    rw e (below _ _ _ _ (items_least (unite a b)) (size_less a b) h)

prefix : (i n m p : ℕ) → i ≤ n → n + m < p → i < p
prefix i n m p h k = omega arith

pub first_items : (a b : Certificate) → size_of a + size_of b < 2 ^ 63 → items_of a < 2 ^ 63
first_items a b h = prefix _ _ _ _ (items_least a) h

one_more : (a b : ℕ) → a ≤ b → 1 + a ≤ 1 + b
one_more a b h = omega arith

pub more_items : (rows : PolicyRows) (a b : Certificate) → items_of a ≤ items_of (judged_beside rows a (unite a b))
more_items rows a b =
    let e : items_of (judged_beside rows a (unite a b)) ≡ items_of (unite a b) =
    ap (λ n. 1 + n) (beside_weight (λ _. 1) (λ _. 1) rows (λ s. refl) (λ old p. refl) a (unite a b)) in
    rw e (one_more _ _ (unite_more (λ _. 1) (λ _. 1) (λ x y. refl) a b))
