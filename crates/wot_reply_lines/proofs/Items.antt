-- Items of a list, read and printed back.
use Rattle.std.proofs.Common.{◌≡◌, ℕ, zero, suc, ◌<◌, ◌≤◌, ◌==◌, Bool, true, false, List, [], ◌∷◌, ◌++◌, length, take}
use Rattle.std.proofs.Common.{get_or, Option, Some, None, refl, ap, ◌∙◌, arith, append-nil, append_assoc}
use Rattle.std.specs.List.{slice_split, flat_map, AllByRecursion}
use Rattle.std.specs.Option.{option_map}
use Rattle.std.proofs.lemmas.Bool.{eq-eqb, ne_eqb}
use Rattle.std.specs.Prelude.{codes}
use Rattle.std.specs.Str.{bytes_eq}
use Rattle.std.proofs.lemmas.List.{take_all}
use Rattle.std.proofs.lemmas.Option.{same_Some}
use Rattle.wot_reply_lines.specs.Claims.{field_of, field_text, items_of, items_text}
use Rattle.wot_fields.specs.Fields.{cut_at}
use Rattle.wot_fields.proofs.LineParts.{lacks-append}
use Rattle.wot_fields.proofs.Spaceless.{Lacks}

-- the parts between separators
abbrev pub parts_of : ℕ → List ℕ → List (List ℕ)
parts_of separator text = slice_split (λ octet. octet == separator) text

pub parts_where_cut : (separator : ℕ) (text field rest : List ℕ) → cut_at separator text ≡ Some (field, rest)
    → parts_of separator text ≡ field ∷ parts_of separator rest
parts_where_cut separator [] field rest e = absurd cc
parts_where_cut separator (octet ∷ octets) field rest e =
    by (octet == separator) refl (cut_at separator octets) refl
    (λ first others. parts_where_cut separator octets first others)
  where
    by : (b : Bool) → (octet == separator) ≡ b → (o : Option (List ℕ × List ℕ)) → cut_at separator octets ≡ o
        → ((first others : List ℕ) → cut_at separator octets ≡ Some (first, others)
        → parts_of separator octets ≡ first ∷ parts_of separator others)
        → parts_of separator (octet ∷ octets) ≡ field ∷ parts_of separator rest
    by true same o cut later =
        let is : Some ([], octets) ≡ Some (field, rest) = rw same at e in
        let both : ([], octets) ≡ (field, rest) = same_Some ([], octets) (field, rest) is in
        rw same (ap (λ (p : List ℕ × List ℕ). p.0 ∷ parts_of separator p.1) both)
    by false apart None cut later =
        let is : None ≡ Some (field, rest) = rw (apart, cut) at e in
        absurd cc
    by false apart (Some parts) cut later =
        let is : Some (octet ∷ parts.0, parts.1) ≡ Some (field, rest) = rw (apart, cut) at e in
        let both : (octet ∷ parts.0, parts.1) ≡ (field, rest) = same_Some (octet ∷ parts.0, parts.1) (field, rest) is in
        rw (apart, later parts.0 parts.1 cut) (ap (λ (p : List ℕ × List ℕ). p.0 ∷ parts_of separator p.1) both)

pub parts_where_whole : (separator : ℕ) (text : List ℕ) → cut_at separator text ≡ None
    → parts_of separator text ≡ text ∷ []
parts_where_whole separator [] e = refl
parts_where_whole separator (octet ∷ octets) e =
    by (octet == separator) refl (cut_at separator octets) refl (parts_where_whole separator octets)
  where
    by : (b : Bool) → (octet == separator) ≡ b → (o : Option (List ℕ × List ℕ)) → cut_at separator octets ≡ o
        → (cut_at separator octets ≡ None → parts_of separator octets ≡ octets ∷ [])
        → parts_of separator (octet ∷ octets) ≡ (octet ∷ octets) ∷ []
    by true same o cut later =
        let is : Some ([], octets) ≡ None = rw same at e in
        absurd cc
    by false apart None cut later = rw (apart, later cut) refl
    by false apart (Some parts) cut later =
        let is : Some (octet ∷ parts.0, parts.1) ≡ None = rw (apart, cut) at e in
        absurd cc

-- ---- reading

module _ {A : Type 0} (read : List ℕ → Option A) where
  -- what was read, and what the rest spells
  abbrev pub with_read : List A → Option (List A) → Option (List A)
  with_read items others = option_map (λ more. items ++ more) others

  pub none_read : (separator : ℕ) (text field rest : List ℕ) → cut_at separator text ≡ Some (field, rest)
      → read field ≡ None
      → items_of separator read text ≡ None
  none_read separator text field rest cut e = rw (parts_where_cut separator text field rest cut, e) refl

  pub none_read_last : (separator : ℕ) (text : List ℕ) → cut_at separator text ≡ None → read text ≡ None
      → items_of separator read text ≡ None
  none_read_last separator text cut e = rw (parts_where_whole separator text cut, e) refl

  joined_with : (items : List A) (item : A) (others : Option (List A))
      → with_read (items ++ item ∷ []) others ≡ with_read items (option_map (λ more. item ∷ more) others)
  joined_with items item None = refl
  joined_with items item (Some others) = ap Some (append_assoc items (item ∷ []) others)

  pub one_read : (separator : ℕ) (text field rest : List ℕ) (items : List A) (item : A)
      → cut_at separator text ≡ Some (field, rest)
      → read field ≡ Some item
      → with_read (items ++ item ∷ []) (items_of separator read rest) ≡ with_read items (items_of separator read text)
  one_read separator text field rest items item cut e =
      joined_with items item (items_of separator read rest)
      ∙ rw (parts_where_cut separator text field rest cut, e) refl

  pub last_read : (separator : ℕ) (text : List ℕ) (items : List A) (item : A) → cut_at separator text ≡ None
      → read text ≡ Some item
      → Some (items ++ item ∷ []) ≡ with_read items (items_of separator read text)
  last_read separator text items item cut e = rw (parts_where_whole separator text cut, e) refl

-- ---- printed and read

pub split_lacking : (separator : ℕ) (text rest : List ℕ) → Lacks separator text
    → parts_of separator (text ++ separator ∷ rest) ≡ text ∷ parts_of separator rest
split_lacking separator [] rest none = rw (eq-eqb separator separator refl) refl
split_lacking separator (octet ∷ octets) rest none =
    rw (ne_eqb octet separator none.0, split_lacking separator octets rest none.1) refl

pub whole_lacking : (separator : ℕ) (text : List ℕ) → Lacks separator text → parts_of separator text ≡ text ∷ []
whole_lacking separator [] none = refl
whole_lacking separator (octet ∷ octets) none =
    rw (ne_eqb octet separator none.0, whole_lacking separator octets none.1) refl

-- an item is read from its text, which doesn't contain the separator
pub record IsItem {A : Type 0} (separator : ℕ) (read : List ℕ → Option A) (text : A → List ℕ) (item : A) : Type 0 where
  pub back : read (text item) ≡ Some item
  pub free : Lacks separator (text item)

pub items_read : {A : Type 0} (separator : ℕ) (read : List ℕ → Option A) (text : A → List ℕ) (item : A) (items : List A)
    → IsItem separator read text item → AllByRecursion (IsItem separator read text) items
    → items_of separator read (items_text separator text (item ∷ items)) ≡ Some (item ∷ items)
items_read separator read text item [] is all =
    rw (append-nil (text item), whole_lacking separator (text item) is.free, is.back) refl
items_read separator read text item (next ∷ items) is all =
    let later = items_read separator read text next items all.0 all.1 in
    rw (split_lacking separator (text item) (items_text separator text (next ∷ items)) is.free, is.back, later) refl

-- a text without `-` isn't `-`
apart_dash : (text : List ℕ) → Lacks 45 text → bytes_eq text (codes "-") ≡ false
apart_dash [] none = refl
apart_dash (octet ∷ octets) none = rw (ne_eqb octet 45 none.0) refl

lacks_others : {A : Type 0} (x separator : ℕ) (text : A → List ℕ) (items : List A) → (separator ≡ x → ⊥)
    → AllByRecursion (λ item. Lacks x (text item)) items → Lacks x (flat_map (λ other. separator ∷ text other) items)
lacks_others x separator text [] apart all = tt
lacks_others x separator text (item ∷ items) apart all = (
  apart,
  lacks-append x (text item) (flat_map (λ other. separator ∷ text other) items) all.0
      (lacks_others x separator text items apart all.1),
)

pub lacks_items : {A : Type 0} (x separator : ℕ) (text : A → List ℕ) (items : List A) → (separator ≡ x → ⊥)
    → AllByRecursion (λ item. Lacks x (text item)) items → Lacks x (items_text separator text items)
lacks_items x separator text [] apart all = tt
lacks_items x separator text (item ∷ items) apart all =
    lacks-append x (text item) (flat_map (λ other. separator ∷ text other) items) all.0
    (lacks_others x separator text items apart all.1)

pub lacks_field : {A : Type 0} (x : ℕ) (text : A → List ℕ) (items : List A) → (44 ≡ x → ⊥) → (45 ≡ x → ⊥)
    → AllByRecursion (λ item. Lacks x (text item)) items → Lacks x (field_text text items)
lacks_field x text [] apart dash all = (dash, tt)
lacks_field x text (item ∷ items) apart dash all = lacks_items x 44 text (item ∷ items) apart all

pub field_read : {A : Type 0} (read : List ℕ → Option A) (text : A → List ℕ) (items : List A)
    → AllByRecursion (IsItem 44 read text) items → AllByRecursion (λ item. Lacks 45 (text item)) items
    → field_of read (field_text text items) ≡ Some items
field_read read text [] all dashes = refl
field_read read text (item ∷ items) all dashes =
    rw (apart_dash (items_text 44 text (item ∷ items))
    (lacks_items 45 44 text (item ∷ items) (λ e. omega arith) dashes))
    (items_read 44 read text item items all.0 all.1)

-- ---- lists of facts

pub all_taken : {A : Type 0} (P : A → Type 0) (xs : List A) (i : ℕ) (d : A) → i < length xs
    → AllByRecursion P (take i xs)
    → P (get_or xs i d) → AllByRecursion P (take (suc i) xs)
all_taken P [] i d h all one = absurd (omega arith)
all_taken P (x ∷ xs) zero d h all one = (one, tt)
all_taken P (x ∷ xs) (suc i) d h all one = (all.0, all_taken P xs i d (omega arith) all.1 one)

pub all_at_end : {A : Type 0} (P : A → Type 0) (xs : List A) (i : ℕ) → length xs ≤ i → AllByRecursion P (take i xs)
    → AllByRecursion P xs
all_at_end P xs i h all = rw (take_all i xs h) at all

pub all_follow : {A : Type 0} (P Q : A → Type 0) (xs : List A) → ((x : A) → P x → Q x) → AllByRecursion P xs
    → AllByRecursion Q xs
all_follow P Q [] h all = tt
all_follow P Q (x ∷ xs) h all = (h x all.0, all_follow P Q xs h all.1)

pub all_at : {A : Type 0} (P : A → Type 0) (xs : List A) (i : ℕ) (d : A) → i < length xs → AllByRecursion P xs
    → P (get_or xs i d)
all_at P [] i d h all = absurd (omega arith)
all_at P (x ∷ xs) zero d h all = all.0
all_at P (x ∷ xs) (suc i) d h all = all_at P xs i d (omega arith) all.1
