-- A certificate has fewer signatures on a user ID than its text has octets.
use Rattle.std.proofs.Common.{ℕ, ◌≤◌, ◌<◌, ◌^◌, List, [], ◌∷◌, ◌++◌, length, arith, length-append}
use Rattle.std.specs.List.{AllByRecursion}
use Rattle.wot_packet.specs.Writing.{written}
use Rattle.wot_component.specs.Certificate.{Signature, Component, Certificate}
use Rattle.wot_component.specs.Text.{sigs_text, part_text, parts_text, size_of}
use Rattle.wot_live.specs.Found.{HasFew}

one_written : (kind : ℕ) (body : List ℕ) → 1 ≤ length (written kind body)
one_written kind body = omega arith

sigs_few : (ss : List Signature) → length ss ≤ length (sigs_text ss)
sigs_few [] = omega arith
sigs_few (s ∷ ss) =
    let one = one_written 2 s.body in
    let more = sigs_few ss in
    omega (arith, one, more, length-append (written 2 s.body) (sigs_text ss))

part_few : (p : Component) → length p.sigs ≤ length (part_text 13 p)
part_few p = let sigs = sigs_few p.sigs in omega (arith, sigs, length-append (written 13 p.body) (sigs_text p.sigs))

parts_few : (ps : List Component) → length (parts_text 13 ps) < 2 ^ 32 → AllByRecursion HasFew ps
parts_few [] h = tt
parts_few (p ∷ ps) h =
    let all = length-append (part_text 13 p) (parts_text 13 ps) in
    let one = part_few p in
    (omega (arith, all, one), parts_few ps (omega (arith, all)))

third : (a b c d e : List ℕ) → length c ≤ length (a ++ b ++ c ++ d ++ e)
third a b c d e = simp length-append (omega arith)

pub sigs_are_few : (c : Certificate) → size_of c ≤ 4194304 → AllByRecursion HasFew c.user_ids
sigs_are_few c h =
    let fit = third (written 6 c.key) (sigs_text c.direct) (parts_text 13 c.user_ids) (parts_text 17 c.attributes)
    (parts_text 14 c.subkeys) in
    parts_few c.user_ids (omega (arith, fit, h))
