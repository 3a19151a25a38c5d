-- A text is cut at the first separator.
use Rattle.std.proofs.Common.{◌≡◌, ℕ, zero, suc, ◌+◌, ◌-◌, ◌<◌, ◌==◌, Bool, true, false, List, [], ◌∷◌, Option, Some}
use Rattle.std.proofs.Common.{None, length, take, drop, get_or, refl, ap, ◌∙◌, arith, length-drop}
use Rattle.std.proofs.lemmas.Bool.{eq-eqb, ne_eqb}
use Rattle.std.proofs.lemmas.List.{take_all}
use Rattle.std.proofs.lemmas.Option.{same_Some}
use Rattle.std.specs.Option.{option_map}
use Rattle.wot_fields.specs.Fields.{cut_at}

-- a first octet that isn't the separator stays in the field
pub cut_at-cons : (separator octet : ℕ) (octets : List ℕ) → (octet ≡ separator → ⊥)
    → cut_at separator (octet ∷ octets) ≡ option_map (λ parts. (octet ∷ parts.0, parts.1)) (cut_at separator octets)
cut_at-cons separator octet octets apart = rw (ne_eqb octet separator apart) refl

-- the first separator is at k
pub cut_there : (separator : ℕ) (text : List ℕ) (k : ℕ) → k < length text → get_or text k 0 ≡ separator
    → ((j : ℕ) → j < k → get_or text j 0 ≡ separator → ⊥)
    → cut_at separator text ≡ Some (take k text, drop (suc k) text)
cut_there separator [] k within same before = absurd (omega arith)
cut_there separator (octet ∷ octets) zero within same before = rw (eq-eqb octet separator same) refl
cut_there separator (octet ∷ octets) (suc k) within same before =
    cut_at-cons separator octet octets (before 0 (omega arith))
    ∙ ap (option_map (λ parts. (octet ∷ parts.0, parts.1)))
    (cut_there separator octets k (omega arith) same (λ j h. before (suc j) (omega arith)))

-- there is no separator
pub cut_nowhere : (separator : ℕ) (text : List ℕ) → ((j : ℕ) → j < length text → get_or text j 0 ≡ separator → ⊥)
    → cut_at separator text ≡ None
cut_nowhere separator [] none = refl
cut_nowhere separator (octet ∷ octets) none =
    cut_at-cons separator octet octets (none 0 (omega arith))
    ∙ ap (option_map (λ parts. (octet ∷ parts.0, parts.1)))
    (cut_nowhere separator octets (λ j h. none (suc j) (omega arith)))

-- everything after an offset
pub take_behind : (text : List ℕ) (n : ℕ) → take (length text - n) (drop n text) ≡ drop n text
take_behind text n = take_all (length text - n) (drop n text) (omega (arith, length-drop n text))

-- the length of a text that is cut
pub cut_short : (separator : ℕ) (text : List ℕ) (parts : List ℕ × List ℕ) → cut_at separator text ≡ Some parts
    → length parts.0 + (1 + length parts.1) ≡ length text
cut_short separator [] parts e = absurd cc
cut_short separator (octet ∷ octets) parts e =
    by (octet == separator) refl (cut_at separator octets) refl (λ later c. cut_short separator octets later c)
  where
    by : (b : Bool) → (octet == separator) ≡ b → (o : Option (List ℕ × List ℕ)) → cut_at separator octets ≡ o
        → ((later : List ℕ × List ℕ) → cut_at separator octets ≡ Some later
        → length later.0 + (1 + length later.1) ≡ length octets)
        → length parts.0 + (1 + length parts.1) ≡ length (octet ∷ octets)
    by true same o c shorter =
        let there : Some ([], octets) ≡ Some parts = rw same at e in
        let is : ([], octets) ≡ parts = same_Some ([], octets) parts there in
        omega (arith, ap (λ (p : List ℕ × List ℕ). length p.0) is, ap (λ (p : List ℕ × List ℕ). length p.1) is)
    by false apart None c shorter =
        let there : None ≡ Some parts = rw (apart, c) at e in
        absurd cc
    by false apart (Some later) c shorter =
        let there : Some (octet ∷ later.0, later.1) ≡ Some parts = rw (apart, c) at e in
        let is : (octet ∷ later.0, later.1) ≡ parts = same_Some (octet ∷ later.0, later.1) parts there in
        omega (
          arith,
          shorter later c,
          ap (λ (p : List ℕ × List ℕ). length p.0) is,
          ap (λ (p : List ℕ × List ℕ). length p.1) is,
        )
