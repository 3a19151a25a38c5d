-- Texts that are appended piece by piece.
use Rattle.std.proofs.Common.{◌≡◌, ℕ, zero, suc, ◌+◌, ◌<◌, ◌≤◌, List, [], ◌∷◌, ◌++◌, length, take, refl, ap, ◌∙◌, arith}
use Rattle.std.proofs.Common.{length-append, get_or, Err}
use Rattle.std.specs.Prelude.{Vec, vec_len, vec_capacity}
use Rattle.std.specs.declared.alloc.Global.{Global}
use Rattle.std.proofs.lemmas.List.{take_all, take-append-le}
use Rattle.std.specs.List.{flat_map}
use Rattle.hex.specs.Hex.{encode_lower, encode_with}
use Rattle.wot_types.specs.declared.memory.Memory.{Memory}
use Rattle.wot_fields.specs.Appends.{Appends}

-- the octets of the pieces appended so far
pub record PutSoFar (before now made : List ℕ) (capacity_before capacity : ℕ) : Type 0 where
  pub text : now ≡ before ++ made
  pub grows : capacity_before ≤ capacity

-- the pieces up to an index are no longer than all pieces
pub length-put_so_far : {X : Type 0} (f : X → List ℕ) (xs : List X) (i : ℕ) (d : X) → i < length xs
    → length (flat_map f (take i xs)) + length (f (get_or xs i d)) ≤ length (flat_map f xs)
length-put_so_far f [] i d lt = absurd (omega arith)
length-put_so_far f (x ∷ xs) zero d lt = omega (arith, length-append (f x) (flat_map f xs))
length-put_so_far f (x ∷ xs) (suc i) d lt =
    omega (
      arith,
      length-put_so_far f xs i d (omega arith),
      length-append (f x) (flat_map f (take i xs)),
      length-append (f x) (flat_map f xs),
    )

-- the digits of octets are the digits of each octet, one after another
pub encode_lower_by_octets : (octets : List ℕ)
    → encode_lower octets ≡ flat_map (λ octet. encode_lower (octet ∷ [])) octets
unfolding encode_with
encode_lower_by_octets [] = refl
encode_lower_by_octets (octet ∷ octets) = ap (λ text. encode_lower (octet ∷ []) ++ text) (encode_lower_by_octets octets)

-- no room for one piece means no room for all of them
full_so_far : {X : Type 0} (f : X → List ℕ) (xs : List X) (i : ℕ) (d : X) (before now : List ℕ)
    (cap_before cap len_before len : ℕ)
    → i < length xs → PutSoFar before now (flat_map f (take i xs)) cap_before cap
    → len_before ≡ length before → len ≡ length now → cap < len + length (f (get_or xs i d))
    → cap_before < len_before + length (flat_map f xs)
full_so_far f xs i d before now cap_before cap len_before len h so_far is_before is_now full =
    let fits = length-put_so_far f xs i d h in
    let size = ap length so_far.text in
    let parts = length-append before (flat_map f (take i xs)) in
    omega (arith, so_far.grows, fits, size, parts)

-- the pieces appended so far are removed again
cut_off : (before now again made after : List ℕ) (start : ℕ) → now ≡ before ++ made → again ≡ now
    → start ≡ length before → after ≡ take start again → after ≡ before
cut_off before now again made after start text same is cut =
    cut
    ∙ ap (take start) (same ∙ text)
    ∙ ap (λ n. take n (before ++ made)) is
    ∙ take-append-le (length before) before made (omega arith)
    ∙ take_all (length before) before (omega arith)

-- If a piece couldn't be appended, and those before it are removed again, nothing was appended.
pub none_put : {X : Type 0} (f : X → List ℕ) (xs : List X) (i : ℕ) (d : X) (old now again after : Vec ℕ Global)
    (start : ℕ) (fault other : Memory)
    → i < length xs → PutSoFar old.items now.items (flat_map f (take i xs)) (vec_capacity old) (vec_capacity now)
    → vec_len old ≡ length old.items → vec_len now ≡ length now.items
    → Appends (f (get_or xs i d)) now again (Err other)
    → start ≡ vec_len old → after.items ≡ take start again.items → vec_capacity after ≡ vec_capacity again
    → Appends (flat_map f xs) old after (Err fault)
none_put f xs i d old now again after start fault other lt so_far is_old is_now failed is cut same = record {
  appended = tt;
  kept = cut_off old.items now.items again.items (flat_map f (take i xs)) after.items start so_far.text failed.kept
      (is ∙ is_old) cut;
  full = full_so_far f xs i d old.items now.items (vec_capacity old) (vec_capacity now) (vec_len old) (vec_len now) lt
      so_far is_old is_now failed.full;
  grows = omega (arith, so_far.grows, failed.grows, same);
}

-- at the end all pieces are appended
pub all_put : {X : Type 0} (f : X → List ℕ) (xs : List X) (i : ℕ) (before now : List ℕ) (cap_before cap : ℕ)
    → length xs ≤ i
    → PutSoFar before now (flat_map f (take i xs)) cap_before cap → now ≡ before ++ flat_map f xs
all_put f xs i before now cap_before cap h so_far =
    so_far.text ∙ ap (λ put. before ++ flat_map f put) (take_all i xs h)
