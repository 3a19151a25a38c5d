-- Slices of slices.
use Rattle.std.proofs.Common.{ℕ, Bool, true, false, cond, ◌-◌, List, [], ◌∷◌, ◌++◌, length, take, drop, map, Option}
use Rattle.std.proofs.Common.{Some, None, sym, ap, ◌∙◌, append_assoc}
use Rattle.std.specs.Prelude.{filter, IfSome}
use Rattle.std.specs.List.{AllByRecursion}
use Rattle.std.specs.Option.{option_map_or}
use Rattle.std.proofs.lemmas.List.{append-nil, take-append-drop}
use Rattle.std.proofs.lemmas.Bool.{cond_both}
use Rattle.wot_subpacket.specs.Subpacket.{Subpacket}
use Rattle.wot_subpacket.specs.Slice.{IsSliceOf, HaveSlicesOf}
use Rattle.wot_signature.specs.Known.{is_known_of}
use Rattle.wot_signature.specs.Signature.{trimmed, texts_in}

pub slice_of_slice : (a b c : List ℕ) → IsSliceOf a b → IsSliceOf b c → IsSliceOf a c
slice_of_slice a b c p q =
    record {
      prefix = q.prefix ++ p.prefix;
      back = p.back ++ q.back;
      stands =
          q.stands
          ∙ ap (λ xs. q.prefix ++ (xs ++ q.back)) p.stands
          ∙ ap (λ xs. q.prefix ++ xs) (append_assoc p.prefix (a ++ p.back) q.back)
          ∙ ap (λ xs. q.prefix ++ (p.prefix ++ xs)) (append_assoc a p.back q.back)
          ∙ sym (append_assoc q.prefix p.prefix (a ++ (p.back ++ q.back)));
    }

pub slice_of_all : (xs : List ℕ) → IsSliceOf xs xs
slice_of_all xs = record { prefix = []; back = []; stands = sym (append-nil xs) }

pub slice_of_take : (n : ℕ) (xs : List ℕ) → IsSliceOf (take n xs) xs
slice_of_take n xs = record { prefix = []; back = drop n xs; stands = sym (take-append-drop n xs) }

pub slice_of_drop : (n : ℕ) (xs : List ℕ) → IsSliceOf (drop n xs) xs
slice_of_drop n xs =
    record {
      prefix = take n xs;
      back = [];
      stands = sym (ap (λ ys. take n xs ++ ys) (append-nil (drop n xs)) ∙ take-append-drop n xs);
    }

-- some octets after the first n
pub slice_of_middle : (n k : ℕ) (xs : List ℕ) → IsSliceOf (take k (drop n xs)) xs
slice_of_middle n k xs =
    slice_of_slice (take k (drop n xs)) (drop n xs) xs (slice_of_take k (drop n xs)) (slice_of_drop n xs)

-- what has slices of a slice has slices of the whole
pub slices_of_whole : (part whole : List ℕ) (ss : List Subpacket) → IsSliceOf part whole → HaveSlicesOf part ss
    → HaveSlicesOf whole ss
slices_of_whole part whole [] p h = tt
slices_of_whole part whole (s ∷ ss) p h = (slice_of_slice s.body part whole h.0 p, slices_of_whole part whole ss p h.1)

-- each text is a slice of these octets
abbrev pub AreSlicesOf : List ℕ → List (List ℕ) → Type 0
AreSlicesOf whole texts = AllByRecursion (λ text. IsSliceOf text whole) texts

trimmed-slice : (text : List ℕ) → IsSliceOf (trimmed text) text
trimmed-slice text =
    cond_both _ (take (length text - 1) text) text (λ xs. IsSliceOf xs text) (λ _. slice_of_take (length text - 1) text)
    (λ _. slice_of_all text)

texts-cons : (b : Bool) (whole : List ℕ) (s : Subpacket) (ss : List Subpacket) → IsSliceOf s.body whole →
    AreSlicesOf whole (map trimmed (map (λ (t : Subpacket). t.body) ss))
    → AreSlicesOf whole (map trimmed (map (λ (t : Subpacket). t.body) (cond b (s ∷ ss) ss)))
texts-cons true whole s ss p h = (slice_of_slice (trimmed s.body) s.body whole (trimmed-slice s.body) p, h)
texts-cons false whole s ss p h = h

pub texts-slices : (whole : List ℕ) (ss : List Subpacket) → HaveSlicesOf whole ss → AreSlicesOf whole (texts_in ss)
texts-slices whole [] h = tt
texts-slices whole (s ∷ ss) h =
    texts-cons (is_known_of 6 s) whole s (filter (is_known_of 6) ss) h.0 (texts-slices whole ss h.1)

pub texts-slices_if_any : (whole : List ℕ) (o : Option (List Subpacket)) → IfSome o (HaveSlicesOf whole)
    → AreSlicesOf whole (option_map_or texts_in o [])
texts-slices_if_any whole None h = tt
texts-slices_if_any whole (Some ss) h = texts-slices whole ss h

-- a slice of the octets after the first four is a slice of all
pub within_whole : {A : Type 0} (read : A → List ℕ) (o : Option A) (whole : List ℕ)
    → IfSome o (λ x. IsSliceOf (read x) (take (length whole - 4) (drop 4 whole)))
    → IfSome o (λ x. IsSliceOf (read x) whole)
within_whole read None whole h = tt
within_whole read (Some x) whole h =
    slice_of_slice (read x) (take (length whole - 4) (drop 4 whole)) whole h
    (slice_of_middle 4 (length whole - 4) whole)
