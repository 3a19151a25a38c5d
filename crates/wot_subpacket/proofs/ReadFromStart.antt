-- Reading subpackets from the beginning.
use Rattle.std.proofs.Common.{◌≡◌, ℕ, zero, suc, ◌≤◌, ◌<◌, true, false, cond, ◌==◌, List, [], ◌∷◌, ◌++◌, length, take}
use Rattle.std.proofs.Common.{drop, Option, Some, None, Result, Ok, Err, IsOk, refl, sym, ap, ◌∙◌, subst, append_assoc}
use Rattle.std.proofs.Common.{arith, length-append}
use Rattle.std.proofs.lemmas.Bool.{cond_both}
use Rattle.std.proofs.lemmas.List.{take-append-drop}
use Rattle.std.specs.Prelude.{nat_lt}
use Rattle.std.specs.Result.{result_unwrap_or}
use Rattle.std.specs.Int.{w32, from_be_bytes}
use Rattle.wot_subpacket.specs.declared.fault.AreaFault.{AreaFault}
use Rattle.wot_subpacket.specs.declared.fault.AreaFault.TheVariants.{Zero, CutBody}
use Rattle.wot_subpacket.specs.Subpacket.{Subpacket, subpacket_of}
use Rattle.wot_subpacket.specs.Length.{two_octets_at, four_octets_at, length_at}
use Rattle.wot_subpacket.specs.Slice.{IsSliceOf, HaveSlicesOf}
use Rattle.wot_subpacket.specs.Area.{cut_at, behind_length, first_of, before, then_read, spelled, subpackets_of}
use Rattle.wot_subpacket.specs.Area.{list_of}

-- ---- where the first one is

-- There is something before what follows.
record Leads (octets behind : List ℕ) : Type 0 where
  lead : List ℕ
  is_there : 0 < length lead
  stands : octets ≡ lead ++ behind

abbrev LeadsTo : List ℕ → Option (ℕ × List ℕ) → Type 0
LeadsTo octets None = Unit {0}
LeadsTo octets (Some found) = Leads octets found.1

two-lead : (o : ℕ) (xs : List ℕ) → LeadsTo (o ∷ xs) (two_octets_at o xs)
two-lead o [] = tt
two-lead o (x ∷ xs) = record { lead = o ∷ x ∷ []; is_there = omega arith; stands = refl }

length-leads : (o : ℕ) (xs : List ℕ) → LeadsTo (o ∷ xs) (length_at (o ∷ xs))
length-leads o xs =
    let P = LeadsTo (o ∷ xs) in
    cond_both (nat_lt o 192) (Some (o, xs)) (cond (nat_lt o 255) (two_octets_at o xs) (four_octets_at xs)) P
    (λ _. record { lead = o ∷ []; is_there = omega arith; stands = refl })
    (λ _. cond_both (nat_lt o 255) (two_octets_at o xs) (four_octets_at xs) P
    (λ _. two-lead o xs)
    (λ _. cond_both (nat_lt (length xs) 4) None (Some (from_be_bytes w32 (take 4 xs), drop 4 xs)) P
    (λ _. tt)
    (λ _. record {
      lead = o ∷ take 4 xs;
      is_there = omega arith;
      stands = ap (λ ys. o ∷ ys) (sym (take-append-drop 4 xs));
    })))

-- The body comes before what follows, and something before the body.
record StandsFirst (octets body behind : List ℕ) : Type 0 where
  lead : List ℕ
  is_there : 0 < length lead
  stands : octets ≡ lead ++ (body ++ behind)

abbrev Fits : List ℕ → Result (Subpacket × List ℕ) AreaFault → Type 0
Fits octets (Err fault) = Unit {0}
Fits octets (Ok found) = StandsFirst octets found.0.body found.1

cut-fits : (octets : List ℕ) (k : ℕ) (xs : List ℕ) → Leads octets xs → Fits octets (cut_at k xs)
cut-fits octets k xs l =
    let P = Fits octets in
    cond_both (k == 0) (Err Zero) (cond (nat_lt (length xs) k) (Err CutBody) (Ok (subpacket_of (take k xs), drop k xs)))
    P
    (λ _. tt)
    (λ _. cond_both (nat_lt (length xs) k) (Err CutBody) (Ok (subpacket_of (take k xs), drop k xs)) P
    (λ _. tt)
    (λ _. record {
      lead = l.lead ++ take 1 (take k xs);
      is_there = omega (arith, l.is_there, length-append l.lead (take 1 (take k xs)));
      stands =
          l.stands
          ∙ ap (λ ys. l.lead ++ ys) (sym (take-append-drop k xs))
          ∙ ap (λ ys. l.lead ++ (ys ++ drop k xs)) (sym (take-append-drop 1 (take k xs)))
          ∙ ap (λ ys. l.lead ++ ys) (append_assoc (take 1 (take k xs)) (drop 1 (take k xs)) (drop k xs))
          ∙ sym (append_assoc l.lead (take 1 (take k xs)) (drop 1 (take k xs) ++ drop k xs));
    }))

behind-fits : (octets : List ℕ) (found : Option (ℕ × List ℕ)) → LeadsTo octets found → Fits octets (behind_length found)
behind-fits octets None h = tt
behind-fits octets (Some found) h = cut-fits octets found.0 found.1 h

first-fits : (o : ℕ) (xs : List ℕ) → Fits (o ∷ xs) (first_of (o ∷ xs))
first-fits o xs = behind-fits (o ∷ xs) (length_at (o ∷ xs)) (length-leads o xs)

-- no more than n octets follow the first one
abbrev Leaves : ℕ → Result (Subpacket × List ℕ) AreaFault → Type 0
Leaves n (Err fault) = Unit {0}
Leaves n (Ok found) = length found.1 ≤ n

leaves_fewer : (n : ℕ) (octets body behind : List ℕ) → length octets ≡ suc n → StandsFirst octets body behind
    → length behind ≤ n
leaves_fewer n octets body behind h f =
    omega (arith, f.is_there, ap length f.stands, length-append f.lead (body ++ behind), length-append body behind)

leaves_from_fits : (o : ℕ) (xs : List ℕ) (r : Result (Subpacket × List ℕ) AreaFault) → Fits (o ∷ xs) r
    → Leaves (length xs) r
leaves_from_fits o xs (Err fault) h = tt
leaves_from_fits o xs (Ok found) h = leaves_fewer (length xs) (o ∷ xs) found.0.body found.1 (omega arith) h

first-leaves : (o : ℕ) (xs : List ℕ) → Leaves (length xs) (first_of (o ∷ xs))
first-leaves o xs = leaves_from_fits o xs (first_of (o ∷ xs)) (first-fits o xs)

-- ---- the first one, and then those after it

reads_same : (r : Result (Subpacket × List ℕ) AreaFault) (n : ℕ) (f g : List ℕ → Result (List Subpacket) AreaFault)
    → Leaves n r → ((xs : List ℕ) → length xs ≤ n → f xs ≡ g xs) → then_read r f ≡ then_read r g
reads_same (Err e) n f g h s = refl
reads_same (Ok found) n f g h s = ap (before found.0) (s found.1 h)

-- every bound of at least the number of octets is enough
enough : (n m : ℕ) (xs : List ℕ) → length xs ≤ n → length xs ≤ m → spelled n xs ≡ spelled m xs
enough zero zero xs h k = refl
enough zero (suc m) [] h k = refl
enough zero (suc m) (x ∷ xs) h k = absurd (omega arith)
enough (suc n) zero [] h k = refl
enough (suc n) zero (x ∷ xs) h k = absurd (omega arith)
enough (suc n) (suc m) [] h k = refl
enough (suc n) (suc m) (x ∷ xs) h k =
    reads_same (first_of (x ∷ xs)) (length xs) (spelled n) (spelled m) (first-leaves x xs)
    (λ ys l. enough n m ys (omega arith) (omega arith))

pub subpackets-first : (o : ℕ) (xs : List ℕ) → subpackets_of (o ∷ xs) ≡ then_read (first_of (o ∷ xs)) subpackets_of
unfolding subpackets_of
subpackets-first o xs =
    enough (length (o ∷ xs)) (suc (length xs)) (o ∷ xs) (omega arith) (omega arith)
    ∙ reads_same (first_of (o ∷ xs)) (length xs) (spelled (length xs)) subpackets_of (first-leaves o xs)
    (λ ys l. enough (length xs) (length ys) ys l (omega arith))

pub subpackets-none : subpackets_of [] ≡ Ok []
unfolding subpackets_of
subpackets-none = refl

pub subpackets-any_bound : (n : ℕ) (xs : List ℕ) → length xs ≤ n → spelled n xs ≡ subpackets_of xs
unfolding subpackets_of
subpackets-any_bound n xs h = enough n (length xs) xs h (omega arith)

-- ---- for the walks

pub subpackets-ok : (xs : List ℕ) (s : Subpacket) (behind : List ℕ) → first_of xs ≡ Ok (s, behind)
    → subpackets_of xs ≡ before s (subpackets_of behind)
subpackets-ok [] s behind h = absurd (cc)
subpackets-ok (o ∷ xs) s behind h = subpackets-first o xs ∙ ap (λ r. then_read r subpackets_of) h

pub subpackets-err : (xs : List ℕ) (e : AreaFault) → (length xs == 0) ≡ false → first_of xs ≡ Err e
    → subpackets_of xs ≡ Err e
subpackets-err [] e n h = absurd (cc)
subpackets-err (o ∷ xs) e n h = subpackets-first o xs ∙ ap (λ r. then_read r subpackets_of) h

shorter_at : (n : ℕ) (r : Result (Subpacket × List ℕ) AreaFault) (s : Subpacket) (behind : List ℕ) → r ≡ Ok (s, behind)
    → Leaves n r → length behind ≤ n
shorter_at n (Ok found) s behind e h = let g : found.1 ≡ behind = cc in omega (arith, h, ap length g)
shorter_at n (Err f) s behind e h = absurd (cc)

pub behind_is_shorter : (xs : List ℕ) (s : Subpacket) (behind : List ℕ) → first_of xs ≡ Ok (s, behind)
    → length behind < length xs
behind_is_shorter [] s behind h = absurd (cc)
behind_is_shorter (o ∷ xs) s behind h =
    let l = shorter_at (length xs) (first_of (o ∷ xs)) s behind h (first-leaves o xs) in omega (arith, l)

-- What is left decides: all are a list if it is one, and its first fault is the first fault of all.
pub record Decided (octets rest : List ℕ) : Type 0 where
  pub reads : IsOk (subpackets_of rest) → IsOk (subpackets_of octets)
  pub fails : (e : AreaFault) → subpackets_of rest ≡ Err e → subpackets_of octets ≡ Err e

pub decided_at_first : (octets : List ℕ) → Decided octets octets
decided_at_first octets = record { reads = λ h. h; fails = λ e h. h }

before_is_ok : (s : Subpacket) (r : Result (List Subpacket) AreaFault) → IsOk r → IsOk (before s r)
before_is_ok s (Ok ss) h = h
before_is_ok s (Err e) h = h

pub ok_behind : (s : Subpacket) (r : Result (List Subpacket) AreaFault) → IsOk (before s r) → IsOk r
ok_behind s (Ok ss) h = h
ok_behind s (Err e) h = h

pub decided_more : (octets rest : List ℕ) (s : Subpacket) (behind : List ℕ) → Decided octets rest
    → first_of rest ≡ Ok (s, behind) → Decided octets behind
decided_more octets rest s behind d h =
    let e = subpackets-ok rest s behind h in
    record {
      reads = λ ok. d.reads (subst IsOk (sym e) (before_is_ok s (subpackets_of behind) ok));
      fails = λ f k. d.fails f (e ∙ ap (before s) k);
    }

no_octets : (xs : List ℕ) → (length xs == 0) ≡ true → xs ≡ []
no_octets [] e = refl
no_octets (x ∷ xs) e = absurd (no_length (length xs) e) where
  no_length : (n : ℕ) → (suc n == 0) ≡ true → ⊥
  no_length n e = grind arith

pub decided_at_end : (octets rest : List ℕ) → Decided octets rest → (length rest == 0) ≡ true
    → IsOk (subpackets_of octets)
decided_at_end octets rest d h =
    d.reads (subst (λ xs. IsOk (subpackets_of xs)) (sym (no_octets rest h)) (subst IsOk (sym subpackets-none) refl))

-- ---- for the iterator

pub behind_is_list : (xs : List ℕ) (s : Subpacket) (behind : List ℕ) → IsOk (subpackets_of xs)
    → first_of xs ≡ Ok (s, behind) → IsOk (subpackets_of behind)
behind_is_list xs s behind ok h = ok_behind s (subpackets_of behind) (subst IsOk (subpackets-ok xs s behind h) ok)

list_before : (s : Subpacket) (all others : Result (List Subpacket) AreaFault) → IsOk others → all ≡ before s others
    → result_unwrap_or all [] ≡ s ∷ result_unwrap_or others []
list_before s all (Ok ss) ok h = ap (λ r. result_unwrap_or r []) h
list_before s all (Err e) ok h = absurd (cc)

pub list-first : (xs : List ℕ) (s : Subpacket) (behind : List ℕ) → IsOk (subpackets_of xs)
    → first_of xs ≡ Ok (s, behind) → list_of xs ≡ s ∷ list_of behind
list-first xs s behind ok h =
    list_before s (subpackets_of xs) (subpackets_of behind) (behind_is_list xs s behind ok h)
    (subpackets-ok xs s behind h)

fault_is_none : (xs : List ℕ) (e : AreaFault) → IsOk (subpackets_of xs) → subpackets_of xs ≡ Err e → ⊥
fault_is_none xs e ok h = let w : IsOk {T = List Subpacket} (Err e) = subst IsOk h ok in cc

pub list-end : (xs : List ℕ) (e : AreaFault) → IsOk (subpackets_of xs) → first_of xs ≡ Err e → list_of xs ≡ []
list-end [] e ok h = ap (λ r. result_unwrap_or r []) subpackets-none
list-end (o ∷ xs) e ok h =
    absurd (fault_is_none (o ∷ xs) e ok (subpackets-first o xs ∙ ap (λ r. then_read r subpackets_of) h))

-- ---- each body is a slice of the octets

slice_of_first : (octets body behind : List ℕ) → StandsFirst octets body behind → IsSliceOf body octets
slice_of_first octets body behind f = record { prefix = f.lead; back = behind; stands = f.stands }

slice_behind : (part octets body behind : List ℕ) → StandsFirst octets body behind → IsSliceOf part behind
    → IsSliceOf part octets
slice_behind part octets body behind f p =
    record {
      prefix = f.lead ++ (body ++ p.prefix);
      back = p.back;
      stands =
          f.stands
          ∙ ap (λ ys. f.lead ++ (body ++ ys)) p.stands
          ∙ ap (λ ys. f.lead ++ ys) (sym (append_assoc body p.prefix (part ++ p.back)))
          ∙ sym (append_assoc f.lead (body ++ p.prefix) (part ++ p.back));
    }

slices_behind : (octets body behind : List ℕ) (ss : List Subpacket) → StandsFirst octets body behind
    → HaveSlicesOf behind ss → HaveSlicesOf octets ss
slices_behind octets body behind [] f h = tt
slices_behind octets body behind (s ∷ ss) f h =
    (slice_behind s.body octets body behind f h.0, slices_behind octets body behind ss f h.1)

abbrev HaveSlicesIfOk : List ℕ → Result (List Subpacket) AreaFault → Type 0
HaveSlicesIfOk octets (Ok ss) = HaveSlicesOf octets ss
HaveSlicesIfOk octets (Err fault) = Unit {0}

slices_before : (octets behind : List ℕ) (s : Subpacket) (r : Result (List Subpacket) AreaFault)
    → StandsFirst octets s.body behind → HaveSlicesIfOk behind r → HaveSlicesIfOk octets (before s r)
slices_before octets behind s (Ok ss) f h =
    (slice_of_first octets s.body behind f, slices_behind octets s.body behind ss f h)
slices_before octets behind s (Err fault) f h = tt

slices_then : (octets : List ℕ) (r : Result (Subpacket × List ℕ) AreaFault)
    (read : List ℕ → Result (List Subpacket) AreaFault) → Fits octets r → ((xs : List ℕ) → HaveSlicesIfOk xs (read xs))
    → HaveSlicesIfOk octets (then_read r read)
slices_then octets (Err fault) read f h = tt
slices_then octets (Ok found) read f h = slices_before octets found.1 found.0 (read found.1) f (h found.1)

spelled-slices : (n : ℕ) (xs : List ℕ) → HaveSlicesIfOk xs (spelled n xs)
spelled-slices zero [] = tt
spelled-slices (suc n) [] = tt
spelled-slices zero (x ∷ xs) = tt
spelled-slices (suc n) (x ∷ xs) =
    slices_then (x ∷ xs) (first_of (x ∷ xs)) (spelled n) (first-fits x xs) (spelled-slices n)

slices-list : (octets : List ℕ) (r : Result (List Subpacket) AreaFault) → HaveSlicesIfOk octets r
    → HaveSlicesOf octets (result_unwrap_or r [])
slices-list octets (Ok ss) h = h
slices-list octets (Err fault) h = tt

pub list-slices : (octets : List ℕ) → HaveSlicesOf octets (list_of octets)
unfolding subpackets_of
list-slices octets = slices-list octets (spelled (length octets) octets) (spelled-slices (length octets) octets)

-- ---- there are no more subpackets than octets

abbrev HaveNoMoreThan : ℕ → Result (List Subpacket) AreaFault → Type 0
HaveNoMoreThan n (Ok ss) = length ss ≤ n
HaveNoMoreThan n (Err fault) = Unit {0}

one_more : (n : ℕ) (s : Subpacket) (r : Result (List Subpacket) AreaFault) → HaveNoMoreThan n r
    → HaveNoMoreThan (suc n) (before s r)
one_more n s (Ok ss) h = omega (arith, h)
one_more n s (Err fault) h = tt

then_one_more : (n : ℕ) (r : Result (Subpacket × List ℕ) AreaFault) (read : List ℕ → Result (List Subpacket) AreaFault)
    → ((xs : List ℕ) → HaveNoMoreThan n (read xs)) → HaveNoMoreThan (suc n) (then_read r read)
then_one_more n (Err fault) read h = tt
then_one_more n (Ok found) read h = one_more n found.0 (read found.1) (h found.1)

spelled-few : (n : ℕ) (xs : List ℕ) → HaveNoMoreThan n (spelled n xs)
spelled-few zero [] = omega arith
spelled-few (suc n) [] = omega arith
spelled-few zero (x ∷ xs) = tt
spelled-few (suc n) (x ∷ xs) = then_one_more n (first_of (x ∷ xs)) (spelled n) (spelled-few n)

few_listed : (n : ℕ) (r : Result (List Subpacket) AreaFault) → HaveNoMoreThan n r → length (result_unwrap_or r []) ≤ n
few_listed n (Ok ss) h = h
few_listed n (Err fault) h = omega arith

pub length-list_of : (octets : List ℕ) → length (list_of octets) ≤ length octets
unfolding subpackets_of
length-list_of octets = few_listed (length octets) (spelled (length octets) octets) (spelled-few (length octets) octets)
