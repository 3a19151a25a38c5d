-- What the lines that are joined of words have: no line feed, and a length.
use Rattle.std.proofs.Common.{◌≡◌, ℕ, ◌+◌, ◌*◌, ◌/◌, ◌%◌, ◌≤◌, ◌<◌, ◌==◌, Bool, true, false, cond, ◌&&◌, List, [], ◌∷◌}
use Rattle.std.proofs.Common.{◌++◌, length, Option, Some, None, Result, Err, refl, arith, length-append}
use Rattle.std.specs.Prelude.{◌^◌, nat_lt, nat_le}
use Rattle.std.specs.Option.{option_map, option_or}
use Rattle.std.specs.Result.{result_ok}
use Rattle.std.specs.Fmt.{decimal}
use Rattle.std.specs.List.{AllByRecursion, flat_map, list_all}
use Rattle.std.proofs.lemmas.Bool.{and_parts, leb-true, eqb-false, eqb-true}
use Rattle.std.proofs.lemmas.Fmt.{length-decimal-le}
use Rattle.hex.specs.declared.error.FromHexError.{FromHexError}
use Rattle.hex.specs.declared.error.FromHexError.TheVariants.{OddLength, InvalidStringLength}
use Rattle.hex.specs.Hex.{decode_pairs, encode_lower, lower_digits}
use Rattle.hex.proofs.HexLemmas.{length-encode_with}
use Rattle.wot_types.specs.Digits.{array_of_digits}
use Rattle.wot_types.specs.Fpr.{digits_of, fpr_of_digits, octets_of}
use Rattle.wot_types.specs.declared.fpr.Fpr.{Fpr}
use Rattle.wot_types.specs.declared.fpr.Fpr.TheVariants.{V4, V6}
use Rattle.wot_types.specs.SigNumber.{number_digits, number_of_digits}
use Rattle.wot_types.specs.declared.number.SigNumber.{SigNumber}
use Rattle.wot_types.specs.ViewName.{is_name_octet, is_view_name}
use Rattle.wot_fields.specs.StateLine.{IsOneLine}
use Rattle.wot_fields.specs.Texts.{joined}
use Rattle.wot_fields.specs.Uid.{escape, escaped}
use Rattle.wot_fields.proofs.Spaceless.{Lacks, feedless_digits, lacks_from_test, lacks_decimal, lacks_test}
use Rattle.wot_fields.proofs.Spaceless.{lacks_view_name}

-- ---- no line feed

pub lacks-append : (x : ℕ) (a b : List ℕ) → Lacks x a → Lacks x b → Lacks x (a ++ b)
lacks-append x [] b ha hb = hb
lacks-append x (octet ∷ octets) b ha hb = (ha.0, lacks-append x octets b ha.1 hb)

pub lacks-joined : (x : ℕ) (texts : List (List ℕ)) → AllByRecursion (Lacks x) texts → Lacks x (joined texts)
lacks-joined x [] all = tt
lacks-joined x (text ∷ texts) all = lacks-append x text (joined texts) all.0 (lacks-joined x texts all.1)

-- a printable octet is no line feed
plain_feedless : (octet : ℕ) (plain : Bool) → (nat_le 32 octet && nat_le octet 126) ≡ plain
    → Lacks 10 (cond plain (octet ∷ []) (92 ∷ 120 ∷ encode_lower (octet ∷ [])))
plain_feedless octet true h =
    let low = leb-true 32 octet (and_parts (nat_le 32 octet) (nat_le octet 126) h).0 in
    ((λ e. omega arith), tt)
plain_feedless octet false h = ((λ e. omega arith), ((λ e. omega arith), feedless_digits (octet ∷ [])))

escape_feedless : (octet : ℕ) → Lacks 10 (escape octet)
escape_feedless octet =
    elim (octet == 92) as
    (λ b. Lacks 10
    (cond b (92 ∷ 92 ∷ [])
    (cond (nat_le 32 octet && nat_le octet 126) (octet ∷ []) (92 ∷ 120 ∷ encode_lower (octet ∷ []))))) [
      | true ↦ ((λ e. omega arith), ((λ e. omega arith), tt))
      | false ↦ plain_feedless octet (nat_le 32 octet && nat_le octet 126) refl
    ]

escapes_feedless : (octets : List ℕ) → Lacks 10 (flat_map escape octets)
escapes_feedless [] = tt
escapes_feedless (octet ∷ octets) =
    lacks-append 10 (escape octet) (flat_map escape octets) (escape_feedless octet) (escapes_feedless octets)

pub feedless_escaped : (octets : List ℕ) → Lacks 10 (escaped octets)
unfolding escaped
feedless_escaped octets = escapes_feedless octets

-- ---- lengths

-- digits are twice as many as the octets that they spell
read_sized : (odd right : Bool) (r : Result (List ℕ) FromHexError) (octets : List ℕ)
    → result_ok (cond odd (Err OddLength) (cond right r (Err InvalidStringLength))) ≡ Some octets
    → (odd ≡ false) × (right ≡ true)
read_sized true right r octets e = cc e
read_sized false false r octets e = cc e
read_sized false true r octets e = (refl, refl)

sized : (n : ℕ) (digits octets : List ℕ) → array_of_digits n digits ≡ Some octets → length digits ≡ 2 * n
sized n digits octets e =
    let read = read_sized (length digits % 2 == 1) (length digits / 2 == n) (decode_pairs 0 digits) octets e in
    let even = eqb-false (length digits % 2) 1 read.0 in
    let half = eqb-true (length digits / 2) n read.1 in
    omega (arith, half, even)

mapped_from : {A B : Type 0} (f : A → B) (o : Option A) (b : B) (P : Type 0) → option_map f o ≡ Some b
    → ((a : A) → o ≡ Some a → P) → P
mapped_from f None b P e h = cc e
mapped_from f (Some a) b P e h = h a refl

pub length-fpr_digits : (digits : List ℕ) (fpr : Fpr) → fpr_of_digits digits ≡ Some fpr → length digits ≤ 64
length-fpr_digits digits fpr e = by (array_of_digits 20 digits) refl e
  where
    by : (o : Option (List ℕ)) → array_of_digits 20 digits ≡ o
        → option_or (option_map V4 o) (option_map V6 (array_of_digits 32 digits)) ≡ Some fpr → length digits ≤ 64
    by (Some octets) f g = let size = sized 20 digits octets f in omega (arith, size)
    by None f g =
        mapped_from V6 (array_of_digits 32 digits) fpr (length digits ≤ 64) g
        (λ octets h. let size = sized 32 digits octets h in omega (arith, size))

pub length-number_digits : (digits : List ℕ) (number : SigNumber) → number_of_digits digits ≡ Some number
    → length digits ≡ 64
length-number_digits digits number e =
    mapped_from (λ octets. record { 0 = octets }) (array_of_digits 32 digits) number (length digits ≡ 64) e
    (sized 32 digits)

pub length-digits : (octets : List ℕ) → length (encode_lower octets) ≡ 2 * length octets
length-digits octets = length-encode_with lower_digits octets

length-escape : (octet : ℕ) → length (escape octet) ≤ 4
length-escape octet =
    elim (octet == 92) as
    (λ b. length (cond b (92 ∷ 92 ∷ [])
    (cond (nat_le 32 octet && nat_le octet 126) (octet ∷ []) (92 ∷ 120 ∷ encode_lower (octet ∷ [])))) ≤ 4) [
      | true ↦ omega arith
      | false ↦ elim (nat_le 32 octet && nat_le octet 126) as
          (λ b. length (cond b (octet ∷ []) (92 ∷ 120 ∷ encode_lower (octet ∷ []))) ≤ 4) [
            | true ↦ omega arith
            | false ↦ omega (arith, length-digits (octet ∷ []))
          ]
    ]

length-escapes : (octets : List ℕ) → length (flat_map escape octets) ≤ 4 * length octets
length-escapes [] = omega arith
length-escapes (octet ∷ octets) =
    omega (arith, length-escape octet, length-escapes octets, length-append (escape octet) (flat_map escape octets))

pub length-escaped : (octets : List ℕ) → length (escaped octets) ≤ 4 * length octets
unfolding escaped
length-escaped octets = length-escapes octets

pub length-view_name : (name : List ℕ) → is_view_name name ≡ true → length name ≤ 32
length-view_name name h =
    let sized = and_parts (nat_lt 0 (length name) && nat_le (length name) 32) (list_all is_name_octet name) h in
    leb-true (length name) 32 (and_parts (nat_lt 0 (length name)) (nat_le (length name) 32) sized.0).1

-- a word that the program prints
pub word : (text : List ℕ) → lacks_test 10 text ≡ true → Lacks 10 text
word text h = lacks_from_test 10 text h

-- the octets of all texts
abbrev pub sizes : List (List ℕ) → ℕ
sizes [] = 0
sizes (text ∷ texts) = length text + sizes texts

length-joined : (texts : List (List ℕ)) → length (joined texts) ≡ sizes texts
length-joined [] = refl
length-joined (text ∷ texts) = omega (arith, length-append text (joined texts), length-joined texts)

pub one_line : (most first : ℕ) (prefix : List ℕ) (texts : List (List ℕ))
    → lacks_test 10 (first ∷ prefix) ≡ true
    → (first ≡ 35 → ⊥) → AllByRecursion (Lacks 10) texts → sizes ((first ∷ prefix) ∷ texts) ≤ most
    → IsOneLine most (joined ((first ∷ prefix) ∷ texts))
one_line most first prefix texts fine apart free short = record {
  no_feed = lacks-joined 10 ((first ∷ prefix) ∷ texts) (word (first ∷ prefix) fine, free);
  no_comment = apart;
  short = omega (arith, length-joined ((first ∷ prefix) ∷ texts), short);
}

-- digits of a fingerprint or of a number
pub record AreDigits (digits : List ℕ) : Type 0 where
  pub free : Lacks 10 digits
  pub size : length digits ≤ 64

pub fpr_digits : (fpr : Fpr) → fpr_of_digits (digits_of fpr) ≡ Some fpr → AreDigits (digits_of fpr)
fpr_digits fpr e = record { free = feedless_digits (octets_of fpr); size = length-fpr_digits (digits_of fpr) fpr e }

pub number_digits_are : (number : SigNumber) → number_of_digits (number_digits number) ≡ Some number
    → AreDigits (number_digits number)
number_digits_are number e =
    record {
      free = feedless_digits number.0;
      size = omega (arith, length-number_digits (number_digits number) number e);
    }

-- a name of a view
pub record IsName (name : List ℕ) : Type 0 where
  pub free : Lacks 10 name
  pub size : length name ≤ 32

pub name_is : (name : List ℕ) → is_view_name name ≡ true → IsName name
name_is name h = record { free = lacks_view_name 10 name refl h; size = length-view_name name h }

-- a number
pub record IsNumeral (digits : List ℕ) : Type 0 where
  pub free : Lacks 10 digits
  pub size : length digits ≤ 20

pub numeral : (n : ℕ) → n < 2 ^ 64 → IsNumeral (decimal n)
numeral n small =
    record { free = lacks_decimal 10 n refl small; size = length-decimal-le 20 n (omega arith) (omega arith) small }
