-- Claims and tables of labels that were read can be printed, and have at most one item more than the text has octets.
use Rattle.std.proofs.Common.{◌≡◌, ℕ, ◌+◌, ◌≤◌, ◌==◌, Bool, true, false, ◌&&◌, List, [], ◌∷◌, length, Option, Some}
use Rattle.std.proofs.Common.{None, refl, arith}
use Rattle.std.specs.Prelude.{codes, nat_lt, nat_le, IfSome, if◌then◌else◌}
use Rattle.std.specs.Option.{option_map}
use Rattle.std.specs.List.{AllByRecursion, onto_first}
use Rattle.std.specs.Str.{bytes_eq}
use Rattle.std.specs.Str.Parse.{digits_value}
use Rattle.std.proofs.lemmas.Bool.{and_parts, leb-true, ltb-true}
use Rattle.std.proofs.lemmas.Option.{cond_some}
use Rattle.wot_types.specs.Fpr.{fpr_of_digits}
use Rattle.wot_reply_lines.specs.Claims.{all_of, claim_of, field_of, IsLabelSpelled, IsPathSpelled, is_rising}
use Rattle.wot_reply_lines.specs.Claims.{items_of, label_of, labels_of, step_of}
use Rattle.wot_reply_lines.specs.declared.claims.ClaimStepLine.{ClaimStepLine}
use Rattle.wot_reply_lines.specs.declared.claims.LabelLine.{LabelLine}
use Rattle.wot_fields.specs.Decimal.{is_decimal, positive_up_to}
use Rattle.wot_fields.specs.Fields.{◌>>=◌, cut_at}
use Rattle.wot_fields.proofs.ImportFits.{bound_keeps, mapped_keeps, so}
use Rattle.wot_reply_lines.proofs.Items.{parts_of}

-- there is at most one part more than octets
length-onto_first : (octet : ℕ) (parts : List (List ℕ)) → length (onto_first octet parts) ≤ 1 + length parts
length-onto_first octet [] = omega arith
length-onto_first octet (part ∷ parts) = omega arith

length-parts_of : (separator : ℕ) (text : List ℕ) → length (parts_of separator text) ≤ 1 + length text
length-parts_of separator [] = omega arith
length-parts_of separator (octet ∷ octets) = by (octet == separator) refl (length-parts_of separator octets)
  where
    by : (b : Bool) → (octet == separator) ≡ b → length (parts_of separator octets) ≤ 1 + length octets
        → length (parts_of separator (octet ∷ octets)) ≤ 1 + length (octet ∷ octets)
    by true same later = rw same (omega (arith, later))
    by false apart later = rw apart (omega (arith, later, length-onto_first octet (parts_of separator octets)))

-- ---- what was read from each part

all_of_keeps : {A : Type 0} (P : A → Type 0) (read : List ℕ → Option A) → ((text : List ℕ) → IfSome (read text) P)
    → (texts : List (List ℕ))
    → IfSome (all_of read texts) (λ items. AllByRecursion P items × (length items ≡ length texts))
all_of_keeps {A = A} P read h [] = (tt, refl)
all_of_keeps {A = A} P read h (text ∷ texts) = by (read text) (h text) (all_of read texts) (all_of_keeps P read h texts)
  where
    by : (o : Option A) → IfSome o P → (os : Option (List A))
        → IfSome os (λ items. AllByRecursion P items × (length items ≡ length texts))
        → IfSome (o >>= (λ item. option_map (λ items. item ∷ items) os))
        (λ items. AllByRecursion P items × (length items ≡ length (text ∷ texts)))
    by None one os all = tt
    by (Some item) one None all = tt
    by (Some item) one (Some items) all = ((one, all.0), omega (arith, all.1))

pub field_keeps : {A : Type 0} (P : A → Type 0) (read : List ℕ → Option A) → ((text : List ℕ) → IfSome (read text) P)
    → (text : List ℕ)
    → IfSome (field_of read text) (λ items. AllByRecursion P items × (length items ≤ 1 + length text))
field_keeps {A = A} P read h text =
    by (bytes_eq text (codes "-")) (items_of 44 read text) (all_of_keeps P read h (parts_of 44 text))
  where
    by : (b : Bool) (o : Option (List A))
        → IfSome o (λ items. AllByRecursion P items × (length items ≡ length (parts_of 44 text)))
        → IfSome (if b then Some [] else o) (λ items. AllByRecursion P items × (length items ≤ 1 + length text))
    by true o h = (tt, omega arith)
    by false None h = tt
    by false (Some items) h = (h.0, omega (arith, h.1, length-parts_of 44 text))

-- ---- numbers

pub positive_wanted : (most : ℕ) (text : List ℕ) (n : ℕ) → positive_up_to most text ≡ Some n → 1 ≤ n
unfolding positive_up_to
positive_wanted most text n e =
    let got = cond_some (is_decimal text && nat_lt 0 (digits_value 10 text) && nat_le (digits_value 10 text) most)
    (digits_value 10 text) n e in
    let both = and_parts (is_decimal text && nat_lt 0 (digits_value 10 text)) (nat_le (digits_value 10 text) most)
    got.0 in
    let some = and_parts (is_decimal text) (nat_lt 0 (digits_value 10 text)) both.0 in
    omega (arith, ltb-true 0 (digits_value 10 text) some.1, got.1)

positive_most : (most : ℕ) (text : List ℕ) (n : ℕ) → positive_up_to most text ≡ Some n → n ≤ most
unfolding positive_up_to
positive_most most text n e =
    let got = cond_some (is_decimal text && nat_lt 0 (digits_value 10 text) && nat_le (digits_value 10 text) most)
    (digits_value 10 text) n e in
    let both = and_parts (is_decimal text && nat_lt 0 (digits_value 10 text)) (nat_le (digits_value 10 text) most)
    got.0 in
    omega (arith, leb-true (digits_value 10 text) most both.1, got.1)

-- ---- tables and paths

label_positive : (text : List ℕ) → IfSome (label_of text) IsLabelSpelled
unfolding label_of
label_positive text =
    bound_keeps IsLabelSpelled (cut_at 61 text) _ (λ parts c.
    bound_keeps IsLabelSpelled (fpr_of_digits parts.0) _ (λ fpr f.
    mapped_keeps IsLabelSpelled (λ n. record { 0 = fpr; 1 = n }) (positive_up_to 255 parts.1)
    (λ n e. (positive_wanted 255 parts.1 n e, positive_most 255 parts.1 n e))))

any_step : (text : List ℕ) → IfSome (step_of text) (λ step. Unit {0})
any_step text = by (step_of text)
  where
    by : (o : Option ClaimStepLine) → IfSome o (λ step. Unit {0})
    by None = tt
    by (Some step) = tt

some_parts : (text : List ℕ) → 1 ≤ length (parts_of 47 text)
some_parts [] = omega arith
some_parts (octet ∷ octets) = by (octet == 47) (parts_of 47 octets)
  where
    by : (b : Bool) (parts : List (List ℕ)) → 1 ≤ length (if b then [] ∷ parts else onto_first octet parts)
    by true parts = omega arith
    by false [] = omega arith
    by false (part ∷ parts) = omega arith

pub claim_spelled : (text : List ℕ) → IfSome (claim_of text) IsPathSpelled
unfolding claim_of
claim_spelled text =
    bound_keeps IsPathSpelled (cut_at 47 text) _ (λ parts c.
    bound_keeps IsPathSpelled (positive_up_to 255 parts.0) _ (λ n e.
    bound_keeps IsPathSpelled (items_of 47 step_of parts.1) _ (λ steps i.
    few n steps (positive_wanted 255 parts.0 n e)
    (omega (
      arith,
      some_parts parts.1,
      (so _ (items_of 47 step_of parts.1) steps i (all_of_keeps _ step_of any_step (parts_of 47 parts.1))).1,
    )))))
  where
    few : (n : ℕ) (steps : List ClaimStepLine) → 1 ≤ n → 1 ≤ length steps
        → IfSome (if nat_le (length steps) 255 then Some (record { 0 = n; 1 = steps }) else None) IsPathSpelled
    few n steps some many = by (nat_le (length steps) 255) refl
      where
        by : (b : Bool) → nat_le (length steps) 255 ≡ b
            → IfSome (if b then Some (record { 0 = n; 1 = steps }) else None) IsPathSpelled
        by true e = (some, many, leb-true (length steps) 255 e)
        by false e = tt

pub labels_rise : (text : List ℕ)
    → IfSome (labels_of text) (λ labels. AllByRecursion IsLabelSpelled labels × (is_rising labels ≡ true))
labels_rise text = by (field_of label_of text) (field_keeps _ label_of label_positive text)
  where
    by : (o : Option (List LabelLine))
        → IfSome o (λ labels. AllByRecursion IsLabelSpelled labels × (length labels ≤ 1 + length text))
        → IfSome (o >>= (λ labels. if is_rising labels then Some labels else None))
        (λ labels. AllByRecursion IsLabelSpelled labels × (is_rising labels ≡ true))
    by None h = tt
    by (Some labels) h = up (is_rising labels) refl
      where
        up : (b : Bool) → is_rising labels ≡ b
            → IfSome (if b then Some labels else None)
            (λ labels. AllByRecursion IsLabelSpelled labels × (is_rising labels ≡ true))
        up true e = (h.0, e)
        up false e = tt
