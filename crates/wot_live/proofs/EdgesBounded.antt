-- The number of certifications that are found is bounded, and places fit.
use Rattle.std.proofs.Common.{◌≡◌, ℕ, ◌+◌, ◌≤◌, ◌<◌, ◌^◌, List, [], ◌∷◌, ◌++◌, length, refl}
use Rattle.std.proofs.Common.{arith, length-append}
use Rattle.std.specs.List.{AllByRecursion}
use Rattle.wot_packet.specs.Writing.{written}
use Rattle.wot_component.specs.Certificate.{Signature, Component, Certificate}
use Rattle.wot_component.specs.Counts.{sum_of, part_weight}
use Rattle.wot_component.specs.Text.{sigs_text, part_text, parts_text, size_of}
use Rattle.wot_live.specs.Found.{HasFew}

-- ---- signatures

sum_ones : (ss : List Signature) → sum_of (λ _. 1) ss ≡ length ss
sum_ones [] = refl
sum_ones (s ∷ ss) = let h = sum_ones ss in omega (arith, h)

-- one more user ID, with at most one place for each signature on it
pub count_more : (part : Component) (seen : List Component) (old new : ℕ) →
    old ≤ sum_of (part_weight (λ _. 1) (λ _. 0)) seen → new ≤ old + length part.sigs
    → new ≤ sum_of (part_weight (λ _. 1) (λ _. 0)) (part ∷ seen)
count_more part seen old new h more = let ones = sum_ones part.sigs in omega (arith, h, more, ones)

-- ---- places

length_written : (kind : ℕ) (body : List ℕ) → 1 ≤ length (written kind body)
length_written kind body = omega arith

sigs_fit : (ss : List Signature) → length ss ≤ length (sigs_text ss)
sigs_fit [] = omega arith
sigs_fit (s ∷ ss) = let one = length_written 2 s.body in let more = sigs_fit ss in
    omega (arith, one, more, length-append (written 2 s.body) (sigs_text ss))

part_fits : (p : Component) → length p.sigs + 1 ≤ length (part_text 13 p)
part_fits p = let one = length_written 13 p.body in let sigs = sigs_fit p.sigs in
    omega (arith, one, sigs, length-append (written 13 p.body) (sigs_text p.sigs))

-- There are fewer user IDs than octets.
count_fits : (ps : List Component) → length ps ≤ length (parts_text 13 ps)
count_fits [] = omega arith
count_fits (p ∷ ps) = let one = part_fits p in let more = count_fits ps in
    omega (arith, one, more, length-append (part_text 13 p) (parts_text 13 ps))

few_fit : (ps : List Component) → length (parts_text 13 ps) < 2 ^ 32 → AllByRecursion HasFew ps
few_fit [] h = tt
few_fit (p ∷ ps) h =
    let all = length-append (part_text 13 p) (parts_text 13 ps) in
    let one = part_fits p in
    (omega (arith, all, one), few_fit ps (omega (arith, all)))

shorter : (a b c d e : List ℕ) → length c ≤ length (a ++ b ++ c ++ d ++ e)
shorter a b c d e = simp length-append (omega arith)

uids_fit : (c : Certificate) → length (parts_text 13 c.user_ids) ≤ size_of c
uids_fit c = shorter (written 6 c.key) (sigs_text c.direct) (parts_text 13 c.user_ids) (parts_text 17 c.attributes)
    (parts_text 14 c.subkeys)

pub has_few : (c : Certificate) → size_of c < 2 ^ 32 → AllByRecursion HasFew c.user_ids
has_few c h = let fit = uids_fit c in few_fit c.user_ids (omega (arith, fit, h))

pub few_user_ids : (c : Certificate) → size_of c < 2 ^ 32 → length c.user_ids < 2 ^ 32
few_user_ids c h = let fit = uids_fit c in let count = count_fits c.user_ids in omega (arith, fit, count, h)
