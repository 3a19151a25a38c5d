-- The places of certificates: digits of fingerprints, split by a slash, and read back.
use Rattle.std.proofs.Common.{arith, ap, refl, sym, inl, inr, ◌∙◌, cond, ◌==◌}
use Rattle.std.specs.Prelude.{◌≡◌, ℕ, ◌+◌, ◌/◌, ◌%◌, ◌<◌, ◌≤◌, ◌⊎◌, Bool, true, false, List, [], ◌∷◌, ◌++◌, length}
use Rattle.std.specs.Prelude.{take, drop, slice_index, codes, Option, Some, None, Err}
use Rattle.std.specs.Result.{result_ok}
use Rattle.std.specs.Option.{option_map, option_or}
use Rattle.std.proofs.lemmas.Bool.{eqb-true}
use Rattle.hex.specs.Hex.{decode_pairs, encode_lower, encode_with, lower_digits}
use Rattle.hex.specs.declared.error.FromHexError.TheVariants.{OddLength, InvalidStringLength}
use Rattle.hex.proofs.HexLemmas.{decode_sized-encode_lower, length-encode_with}
use Rattle.wot_types.specs.Digits.{array_of_digits}
use Rattle.wot_types.specs.declared.fpr.Fpr.{Fpr}
use Rattle.wot_types.specs.declared.fpr.Fpr.TheVariants.{V4, V6}
use Rattle.wot_types.specs.declared.name.Name.{Name}
use Rattle.wot_types.specs.declared.name.Name.TheVariants.{Cert, TrustRoot}
use Rattle.wot_types.specs.Fpr.{digits_of, fpr_of_digits, octets_of, octets_in}
use Rattle.wot_certd.specs.Names.{IsFpr, IsName, entry_place, split_digits}

pub first_digits : (octets : List ℕ) → 0 < length octets → encode_lower (take 1 octets) ≡ take 2 (encode_lower octets)
unfolding encode_with
first_digits [] h = absurd (omega (arith, h))
first_digits (octet ∷ octets) h = refl

pub other_digits : (octets : List ℕ) → 0 < length octets → encode_lower (drop 1 octets) ≡ drop 2 (encode_lower octets)
unfolding encode_with
other_digits [] h = absurd (omega (arith, h))
other_digits (octet ∷ octets) h = refl

-- a fingerprint has octets
pub some_octets : (fpr : Fpr) → length (octets_of fpr) ≡ octets_in fpr → 0 < length (octets_of fpr)
some_octets (V4 octets) h = omega (arith, h)
some_octets (V6 octets) h = omega (arith, h)

-- digits of another number of octets aren't read
unread : (count : ℕ) (octets : List ℕ) → (length octets ≡ count → ⊥)
    → array_of_digits count (encode_lower octets) ≡ None
unread count octets apart = by (length (encode_lower octets) % 2 == 1) (length (encode_lower octets) / 2 == count) refl
  where
    same : length (encode_lower octets) / 2 ≡ length octets
    same = let e = length-encode_with lower_digits octets in omega (arith, e)

    by : (odd right : Bool) → (length (encode_lower octets) / 2 == count) ≡ right
        → result_ok (cond odd (Err OddLength)
        (cond right (decode_pairs 0 (encode_lower octets)) (Err InvalidStringLength))) ≡ None
    by true right e = refl
    by false false e = refl
    by false true e = absurd (apart (sym same ∙ eqb-true (length (encode_lower octets) / 2) count e))

pub fpr_read_back : (fpr : Fpr) → IsFpr fpr → fpr_of_digits (digits_of fpr) ≡ Some fpr
fpr_read_back (V4 octets) h =
    ap (λ r. option_or (option_map V4 (result_ok r)) (option_map V6 (array_of_digits 32 (encode_lower octets))))
    (decode_sized-encode_lower octets 20 h.0 h.1)
fpr_read_back (V6 octets) h =
    ap (λ o. option_or (option_map V4 o) (option_map V6 (array_of_digits 32 (encode_lower octets))))
    (unread 20 octets (λ e. omega (arith, h.0, e)))
    ∙ ap (λ r. option_map V6 (result_ok r)) (decode_sized-encode_lower octets 32 h.0 h.1)

-- as many digits as a fingerprint has
abbrev AreDigits : ℕ → Type 0
AreDigits count = (count ≡ 40) ⊎ (count ≡ 64)

pub length_digits : (fpr : Fpr) → IsFpr fpr → AreDigits (length (digits_of fpr))
length_digits (V4 octets) h = let e = length-encode_with lower_digits octets in inl (omega (arith, e, h.0))
length_digits (V6 octets) h = let e = length-encode_with lower_digits octets in inr (omega (arith, e, h.0))

some_digits : (count : ℕ) → AreDigits count → 2 < count
some_digits count (inl e) = omega (arith, e)
some_digits count (inr e) = omega (arith, e)

one_more : (count size : ℕ) → size ≡ count + 1 → AreDigits count → (size ≡ 41) ⊎ (size ≡ 65)
one_more count size s (inl e) = inl (omega (arith, s, e))
one_more count size s (inr e) = inr (omega (arith, s, e))

length_split : (digits : List ℕ) → 2 < length digits → length (split_digits digits) ≡ length digits + 1
length_split [] h = absurd (omega (arith, h))
length_split (a ∷ []) h = absurd (omega (arith, h))
length_split (a ∷ b ∷ digits) h = omega arith

slash_between : (digits : List ℕ) → 2 < length digits → slice_index (split_digits digits) 2 ≡ 47
slash_between [] h = absurd (omega (arith, h))
slash_between (a ∷ []) h = absurd (omega (arith, h))
slash_between (a ∷ b ∷ digits) h = refl

joined_again : (digits : List ℕ) → 2 < length digits
    → take 2 (split_digits digits) ++ drop 3 (split_digits digits) ≡ digits
joined_again [] h = absurd (omega (arith, h))
joined_again (a ∷ []) h = absurd (omega (arith, h))
joined_again (a ∷ b ∷ digits) h = refl

pub digits_there : (place : List ℕ) (fpr : Fpr) → IsFpr fpr → place ≡ split_digits (digits_of fpr)
    → take 2 place ++ drop 3 place ≡ digits_of fpr
digits_there place fpr f e =
    rw e (joined_again (digits_of fpr) (some_digits (length (digits_of fpr)) (length_digits fpr f)))

pub read_there : (place : List ℕ) (fpr : Fpr) → IsFpr fpr → place ≡ split_digits (digits_of fpr)
    → fpr_of_digits (take 2 place ++ drop 3 place) ≡ Some fpr
read_there place fpr f e = ap fpr_of_digits (digits_there place fpr f e) ∙ fpr_read_back fpr f

pub length_there : (place : List ℕ) (fpr : Fpr) → IsFpr fpr → place ≡ split_digits (digits_of fpr)
    → (length place ≡ 41) ⊎ (length place ≡ 65)
length_there place fpr f e =
    let digits = length_digits fpr f in
    let split = length_split (digits_of fpr) (some_digits (length (digits_of fpr)) digits) in
    one_more (length (digits_of fpr)) (length place) (ap length e ∙ split) digits

pub slash_there : (place : List ℕ) (fpr : Fpr) → IsFpr fpr → place ≡ split_digits (digits_of fpr)
    → slice_index place 2 ≡ 47
slash_there place fpr f e =
    rw e (slash_between (digits_of fpr) (some_digits (length (digits_of fpr)) (length_digits fpr f)))

pub stands_there : (place : List ℕ) → 3 ≤ length place → slice_index place 2 ≡ 47
    → split_digits (take 2 place ++ drop 3 place) ≡ place
stands_there [] h s = absurd (omega (arith, h))
stands_there (a ∷ []) h s = absurd (omega (arith, h))
stands_there (a ∷ b ∷ []) h s = absurd (omega (arith, h))
stands_there (a ∷ b ∷ slash ∷ rest) h s = ap (λ x. a ∷ b ∷ x ∷ rest) (sym s)

pub each_name : (place : List ℕ) (result : Option Name) → (place ≡ codes "trust-root" → result ≡ Some TrustRoot)
    → ((fpr : Fpr) → IsFpr fpr → place ≡ split_digits (digits_of fpr) → result ≡ Some (Cert fpr))
    → (name : Name) → IsName name → place ≡ entry_place name → result ≡ Some name
each_name place result root certificate (Cert fpr) n e = certificate fpr n e
each_name place result root certificate TrustRoot n e = root e

pub ruleset placing = (digits_there, read_there, length_there, slash_there, stands_there)
