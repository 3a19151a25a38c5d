-- A certificate has fewer user IDs than its text has octets.
use Rattle.std.proofs.Common.{◌≡◌, ℕ, ◌+◌, ◌<◌, ◌≤◌, ◌^◌, List, [], ◌∷◌, ◌++◌, length, arith, length-append}
use Rattle.wot_packet.specs.Writing.{written}
use Rattle.wot_component.specs.Certificate.{Component, Certificate}
use Rattle.wot_component.specs.Text.{sigs_text, part_text, parts_text, size_of}

long : (kind : ℕ) (p : Component) → 1 ≤ length (part_text kind p)
long kind p = omega arith

parts_few : (kind : ℕ) (parts : List Component) → length parts ≤ length (parts_text kind parts)
parts_few kind [] = omega arith
parts_few kind (p ∷ parts) =
    let h = long kind p in
    let more = parts_few kind parts in
    let all : length (part_text kind p ++ parts_text kind parts) ≡ length (part_text kind p) + length
    (parts_text kind parts) = length-append (part_text kind p) (parts_text kind parts) in
    omega (arith, h, more, all)

third : (a b c d e : List ℕ) → length c ≤ length (a ++ b ++ c ++ d ++ e)
third a b c d e =
    let x = length-append (a ++ b ++ c ++ d) e in
    let y = length-append (a ++ b ++ c) d in
    let z = length-append (a ++ b) c in
    omega (arith, x, y, z)

pub user_ids_few : (c : Certificate) → size_of c ≤ 4194304 → length c.user_ids < 2 ^ 32
user_ids_few c small =
    let few = parts_few 13 c.user_ids in
    let within : length (parts_text 13 c.user_ids) ≤ size_of c = third (written 6 c.key) (sigs_text c.direct)
    (parts_text 13 c.user_ids) (parts_text 17 c.attributes) (parts_text 14 c.subkeys) in
    by (length c.user_ids) (length (parts_text 13 c.user_ids)) (size_of c) few within small
  where
    by : (a b d : ℕ) → a ≤ b → b ≤ d → d ≤ 4194304 → a < 2 ^ 32
    by a b d e f g = omega arith
