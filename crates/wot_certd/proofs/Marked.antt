-- The mark of a new file, `_`, occurs in no entry's place.
use Rattle.std.proofs.Common.{zero, suc, arith, refl, subst, sym, ◌∙◌, Result, Ok, Err}
use Rattle.std.specs.Prelude.{◌≡◌, ◌≢◌, IfOk, ℕ, ◌/◌, ◌%◌, List, [], ◌∷◌, ◌++◌, take, drop, slice_index, codes}
use Rattle.std.proofs.lemmas.List.{append_cancel_left}
use Rattle.std.specs.List.{AllByRecursion}
use Rattle.std.specs.Fmt.{decimal}
use Rattle.hex.specs.Hex.{encode_with, lower_digits}
use Rattle.wot_types.specs.declared.fpr.Fpr.{Fpr}
use Rattle.wot_types.specs.declared.name.Name.{Name}
use Rattle.wot_types.specs.declared.name.Name.TheVariants.{Cert, TrustRoot}
use Rattle.wot_types.specs.Fpr.{digits_of, octets_of}
use Rattle.wot_certd.specs.Names.{file_of, folder_of, place_beside, entry_place, path_in, IsNoEntry}

-- no octet is the mark
abbrev Unmarked : List ℕ → Type 0
Unmarked octets = AllByRecursion (λ octet. octet ≢ 95) octets

-- ---- a text of unmarked parts

joined : (xs ys : List ℕ) → Unmarked xs → Unmarked ys → Unmarked (xs ++ ys)
joined [] ys h g = g
joined (x ∷ xs) ys h g = (h.0, joined xs ys h.1 g)

front : (xs ys : List ℕ) → Unmarked (xs ++ ys) → Unmarked xs
front [] ys h = tt
front (x ∷ xs) ys h = (h.0, front xs ys h.1)

back : (xs ys : List ℕ) → Unmarked (xs ++ ys) → Unmarked ys
back [] ys h = h
back (x ∷ xs) ys h = back xs ys h.1

taken : (n : ℕ) (xs : List ℕ) → Unmarked xs → Unmarked (take n xs)
taken zero xs h = tt
taken (suc n) [] h = tt
taken (suc n) (x ∷ xs) h = (h.0, taken n xs h.1)

dropped : (n : ℕ) (xs : List ℕ) → Unmarked xs → Unmarked (drop n xs)
dropped zero xs h = h
dropped (suc n) [] h = tt
dropped (suc n) (x ∷ xs) h = dropped n xs h.1

-- ---- the place of an entry

-- each entry of a table, and what follows it
of_table : (table : List ℕ) (k : ℕ) → Unmarked table → slice_index table k ≢ 95
of_table [] k h e = absurd (omega (arith, e))
of_table (octet ∷ octets) zero h e = h.0 e
of_table (octet ∷ octets) (suc k) h e = of_table octets k h.1 e

encoded : (table octets : List ℕ) → Unmarked table → Unmarked (encode_with table octets)
unfolding encode_with
encoded table [] h = tt
encoded table (octet ∷ octets) h =
    (of_table table (octet / 16) h, (of_table table (octet % 16) h, encoded table octets h))

unmarked_lower : Unmarked lower_digits
unmarked_lower = grind arith

digits : (fpr : Fpr) → Unmarked (digits_of fpr)
digits fpr = encoded lower_digits (octets_of fpr) unmarked_lower

slash : Unmarked (codes "/")
slash = grind arith

trust_root : Unmarked (codes "trust-root")
trust_root = grind arith

unmarked : (entry : Name) → Unmarked (entry_place entry)
unmarked (Cert fpr) =
    joined (take 2 (digits_of fpr) ++ codes "/") (drop 2 (digits_of fpr))
    (joined (take 2 (digits_of fpr)) (codes "/") (taken 2 (digits_of fpr) (digits fpr)) slash)
    (dropped 2 (digits_of fpr) (digits fpr))
unmarked TrustRoot = trust_root

-- ---- the place next to an entry

marked : (name : Name) (number : ℕ) → Unmarked (place_beside name number) → ⊥
marked name number h =
    let named = folder_of name ++ codes "_" in
    let filed = named ++ file_of name in
    let dotted = filed ++ codes "." in
    (back (folder_of name) (codes "_")
    (front named (file_of name) (front filed (codes ".") (front dotted (decimal number) h)))).0
    refl

is_no_entry : (name entry : Name) (number : ℕ) → place_beside name number ≢ entry_place entry
is_no_entry name entry number e =
    marked name number (let P : List ℕ → Type 0 = Unmarked in subst P (sym e) (unmarked entry))

-- so no text that spells the mark is a place
pub text_is_no_entry : {T E : Type 0} (result : Result T E) (bytes : T → List ℕ) (name : Name) (number : ℕ)
    → IfOk result (λ text. bytes text ≡ place_beside name number)
    → IfOk result (λ text. (entry : Name) → bytes text ≢ entry_place entry)
text_is_no_entry (Ok text) bytes name number e = λ entry f. is_no_entry name entry number (sym e ∙ f)
text_is_no_entry (Err fault) bytes name number e = tt

-- nor is its path in a directory that of an entry
pub path_is_no_entry : {T E : Type 0} (result : Result T E) (bytes : T → List ℕ) (directory place : List ℕ)
    → IfOk result (λ path. bytes path ≡ path_in directory place) → ((entry : Name) → place ≢ entry_place entry)
    → IfOk result (λ path. IsNoEntry directory (bytes path))
path_is_no_entry (Ok path) bytes directory place e apart =
    λ entry f. apart entry (append_cancel_left (directory ++ codes "/") place (entry_place entry) (sym e ∙ f))
path_is_no_entry (Err fault) bytes directory place e apart = tt
