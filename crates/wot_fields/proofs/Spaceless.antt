-- Octets that a text doesn't contain. Fields contain no space, so a line that was joined from them is cut there again.
use Rattle.std.proofs.Common.{◌≡◌, ℕ, zero, suc, ◌/◌, ◌%◌, ◌<◌, ◌^◌, ◌==◌, Bool, true, false, not, ◌&&◌, List, [], ◌∷◌}
use Rattle.std.proofs.Common.{◌++◌, Some, refl, ap, ◌∙◌, arith}
use Rattle.std.specs.Prelude.{◌≢◌, slice_index}
use Rattle.std.specs.Option.{option_map}
use Rattle.std.specs.List.{AllByRecursion, list_all}
use Rattle.std.specs.Char.{is_ascii_digit}
use Rattle.std.specs.Str.{all_ascii_digits}
use Rattle.std.specs.Fmt.{decimal}
use Rattle.std.proofs.lemmas.Bool.{and_parts, both_ways, eq-eqb, not-true}
use Rattle.hex.specs.Hex.{encode_lower, encode_with, lower_digits}
use Rattle.wot_types.specs.ViewName.{is_name_octet, is_view_name}
use Rattle.wot_fields.specs.Fields.{cut, cut_at}
use Rattle.wot_fields.proofs.FirstSeparator.{cut_at-cons}
use Rattle.wot_fields.proofs.Numerals.{digits-decimal}

-- no octet is this one
abbrev pub Lacks : ℕ → List ℕ → Type 0
Lacks x octets = AllByRecursion (λ octet. octet ≢ x) octets

-- no octet is a space
abbrev pub Spaceless : List ℕ → Type 0
Spaceless octets = Lacks 32 octets

pub cut_lacking : (separator : ℕ) (field rest : List ℕ) → Lacks separator field
    → cut_at separator (field ++ separator ∷ rest) ≡ Some (field, rest)
cut_lacking separator [] rest none = rw (eq-eqb separator separator refl) refl
cut_lacking separator (octet ∷ octets) rest none =
    cut_at-cons separator octet (octets ++ separator ∷ rest) none.0
    ∙ ap (option_map (λ parts. (octet ∷ parts.0, parts.1))) (cut_lacking separator octets rest none.1)

pub cut_spaceless : (field rest : List ℕ) → Spaceless field → cut (field ++ 32 ∷ rest) ≡ Some (field, rest)
cut_spaceless field rest none = cut_lacking 32 field rest none

-- each index of a table
lacks_place : (x : ℕ) (table : List ℕ) (k : ℕ) → 0 < x → Lacks x table → slice_index table k ≡ x → ⊥
lacks_place x [] k some none e = absurd (omega arith)
lacks_place x (octet ∷ octets) zero some none e = none.0 e
lacks_place x (octet ∷ octets) (suc k) some none e = lacks_place x octets k some none.1 e

lacks_encoded : (x : ℕ) (table octets : List ℕ) → 0 < x → Lacks x table → Lacks x (encode_with table octets)
unfolding encode_with
lacks_encoded x table [] some none = tt
lacks_encoded x table (octet ∷ octets) some none = (
  lacks_place x table (octet / 16) some none,
  (lacks_place x table (octet % 16) some none, lacks_encoded x table octets some none),
)

-- a test that computes
unfoldable pub lacks_test : ℕ → List ℕ → Bool
lacks_test x [] = true
lacks_test x (octet ∷ octets) = not (octet == x) && lacks_test x octets

lacks_octet : (x octet : ℕ) → not (octet == x) ≡ true → octet ≡ x → ⊥
lacks_octet x octet h e = both_ways (octet == x) (not-true (octet == x) h) (eq-eqb octet x e)

pub lacks_from_test : (x : ℕ) (octets : List ℕ) → lacks_test x octets ≡ true → Lacks x octets
unfolding lacks_test
lacks_from_test x [] h = tt
lacks_from_test x (octet ∷ octets) h =
    let parts = and_parts (not (octet == x)) (lacks_test x octets) h in
    (lacks_octet x octet parts.0, lacks_from_test x octets parts.1)

spaceless_lower : lacks_test 32 lower_digits ≡ true
unfolding lacks_test
spaceless_lower = refl

feedless_lower : lacks_test 10 lower_digits ≡ true
unfolding lacks_test
feedless_lower = refl

pub lacks_digits : (x : ℕ) (octets : List ℕ) → 0 < x → lacks_test x lower_digits ≡ true → Lacks x (encode_lower octets)
lacks_digits x octets some h = lacks_encoded x lower_digits octets some (lacks_from_test x lower_digits h)

pub spaceless_digits : (octets : List ℕ) → Spaceless (encode_lower octets)
spaceless_digits octets =
    lacks_encoded 32 lower_digits octets (omega arith) (lacks_from_test 32 lower_digits spaceless_lower)

pub feedless_digits : (octets : List ℕ) → Lacks 10 (encode_lower octets)
feedless_digits octets =
    lacks_encoded 10 lower_digits octets (omega arith) (lacks_from_test 10 lower_digits feedless_lower)

-- an octet that fails the test isn't among those that pass
refused_apart : (test : ℕ → Bool) (x octet : ℕ) → test x ≡ false → test octet ≡ true → octet ≡ x → ⊥
refused_apart test x octet out h e =
    let at : test x ≡ true = rw e at h in
    both_ways (test x) out at

lacks_refused : (test : ℕ → Bool) (x : ℕ) (octets : List ℕ) → test x ≡ false → list_all test octets ≡ true
    → Lacks x octets
lacks_refused test x [] out h = tt
lacks_refused test x (octet ∷ octets) out h =
    let parts = and_parts (test octet) (list_all test octets) h in
    (refused_apart test x octet out parts.0, lacks_refused test x octets out parts.1)

pub lacks_view_name : (x : ℕ) (name : List ℕ) → is_name_octet x ≡ false → is_view_name name ≡ true → Lacks x name
lacks_view_name x name out h = lacks_refused is_name_octet x name out (and_parts _ (list_all is_name_octet name) h).1

lacks_ascii_digits : (x : ℕ) (octets : List ℕ) → is_ascii_digit x ≡ false → all_ascii_digits octets ≡ true
    → Lacks x octets
lacks_ascii_digits x [] out h = tt
lacks_ascii_digits x (octet ∷ octets) out h =
    let parts = and_parts (is_ascii_digit octet) (all_ascii_digits octets) h in
    (refused_apart is_ascii_digit x octet out parts.0, lacks_ascii_digits x octets out parts.1)

pub lacks_decimal : (x n : ℕ) → is_ascii_digit x ≡ false → n < 2 ^ 64 → Lacks x (decimal n)
lacks_decimal x n out small = lacks_ascii_digits x (decimal n) out (digits-decimal n small)

pub spaceless_view_name : (name : List ℕ) → is_view_name name ≡ true → Spaceless name
spaceless_view_name name h = lacks_view_name 32 name refl h

pub spaceless_decimal : (n : ℕ) → n < 2 ^ 64 → Spaceless (decimal n)
spaceless_decimal n small = lacks_decimal 32 n refl small
