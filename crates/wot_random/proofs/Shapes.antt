-- The length of bodies, and that keys can be parsed.
use Rattle.std.proofs.Common.{◌≡◌, ℕ, ◌<◌, ◌≤◌, ◌^◌, true, List, ◌++◌, length, append_assoc, length-append, refl, arith}
use Rattle.std.proofs.Common.{codes}
use Rattle.std.specs.Fmt.{decimal}
use Rattle.std.proofs.lemmas.Fmt.{length-decimal-le}
use Rattle.wot_key.specs.Key.{is_readable}
use Rattle.wot_random.specs.Bodies.{key_body, user_id}

pub key_is_readable : (made a b c d : ℕ) → is_readable (key_body made a b c d) ≡ true
unfolding key_body
key_is_readable made a b c d = refl

pub key_length : (made a b c d : ℕ) → length (key_body made a b c d) ≡ 38
unfolding key_body
key_length made a b c d = refl

pub user_id_fits : (index : ℕ) → index < 2 ^ 32 → length (user_id index) ≤ 41
unfolding user_id
user_id_fits index small =
    let digits = length-decimal-le 10 index (omega arith) (omega (arith, small)) (omega (arith, small)) in
    simp length-append (omega (arith, digits))

pub user_id_is_short : (index : ℕ) → index < 2 ^ 32 → length (user_id index) < 2 ^ 32
user_id_is_short index small =
    let fits = user_id_fits index small in
    omega (arith, fits)

grouped : (a b c d e : List ℕ) → a ++ (b ++ (c ++ (d ++ e))) ≡ (((a ++ b) ++ c) ++ d) ++ e
grouped a b c d e = simp append_assoc

-- the user ID as it is formatted
pub user_id_spelled : (index : ℕ)
    → codes "user " ++ (decimal index ++ (codes " <u" ++ (decimal index ++ codes "@example.org>"))) ≡ user_id index
unfolding user_id
user_id_spelled index = grouped (codes "user ") (decimal index) (codes " <u") (decimal index) (codes "@example.org>")
