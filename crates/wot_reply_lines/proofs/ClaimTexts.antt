-- Claimed paths and labels are printed and read back.
use Rattle.std.proofs.Common.{◌≡◌, ℕ, ◌+◌, ◌*◌, ◌<◌, ◌≤◌, ◌^◌, true, List, [], ◌∷◌, ◌++◌, length, Option, Some, refl}
use Rattle.std.proofs.Common.{ap, ◌∙◌, arith, length-append}
use Rattle.std.specs.Prelude.{nat_le, if◌then◌else◌, None}
use Rattle.std.specs.Fmt.{decimal}
use Rattle.std.specs.List.{AllByRecursion, flat_map}
use Rattle.std.specs.Option.{option_map}
use Rattle.std.proofs.lemmas.Bool.{le-leb}
use Rattle.std.proofs.lemmas.Fmt.{length-decimal-le}
use Rattle.hex.specs.Hex.{lower_digits}
use Rattle.wot_types.specs.Fpr.{digits_of, fpr_of_digits, octets_of}
use Rattle.wot_types.specs.declared.fpr.Fpr.{Fpr}
use Rattle.wot_reply_lines.specs.ClaimLaws.{IsClaimPrinted, IsLabelPrinted, IsStepPrinted}
use Rattle.wot_reply_lines.specs.Claims.{claim_of, claim_text, field_of, field_text, IsPathSpelled}
use Rattle.wot_reply_lines.specs.Claims.{is_rising, items_of, items_text, label_of, label_text, labels_of, most_paths}
use Rattle.wot_reply_lines.specs.Claims.{step_of, step_text}
use Rattle.wot_fields.specs.Decimal.{decimal_up_to, positive_up_to}
use Rattle.wot_fields.specs.Fields.{◌>>=◌, cut_at}
use Rattle.wot_reply_lines.specs.declared.claims.ClaimLine.{ClaimLine}
use Rattle.wot_reply_lines.specs.declared.claims.ClaimStepLine.{ClaimStepLine}
use Rattle.wot_reply_lines.specs.declared.claims.LabelLine.{LabelLine}
use Rattle.wot_reply_lines.proofs.Items.{all_follow, field_read, IsItem, items_read, lacks_field, lacks_items}
use Rattle.wot_fields.proofs.LineParts.{lacks-append, length-fpr_digits}
use Rattle.wot_fields.proofs.StateLines.{bound}
use Rattle.wot_fields.proofs.Spaceless.{Lacks, cut_lacking, lacks_decimal, lacks_digits, lacks_test}

-- digits, a separator, a number
parts_lack : (x middle : ℕ) (fpr : Fpr) (n : ℕ) → 0 < x → lacks_test x lower_digits ≡ true → (middle ≡ x → ⊥)
    → Lacks x (decimal n) → Lacks x (digits_of fpr ++ middle ∷ decimal n)
parts_lack x middle fpr n some digits apart number =
    lacks-append x (digits_of fpr) (middle ∷ decimal n) (lacks_digits x (octets_of fpr) some digits) (apart, number)

length-parts : (middle : ℕ) (fpr : Fpr) (n : ℕ) → fpr_of_digits (digits_of fpr) ≡ Some fpr → n < 2 ^ 64
    → length (digits_of fpr ++ middle ∷ decimal n) ≤ 96
length-parts middle fpr n back small =
    let key = length-fpr_digits (digits_of fpr) fpr back in
    let number = length-decimal-le 20 n (omega arith) (omega arith) small in
    omega (arith, length-append (digits_of fpr) (middle ∷ decimal n), key, number)

-- ---- steps

step_reads : (step : ClaimStepLine) → fpr_of_digits (digits_of step.0) ≡ Some step.0
    → decimal_up_to 4294967295 (decimal step.1) ≡ Some step.1 → step_of (step_text step) ≡ Some step
unfolding step_of lacks_test
step_reads step key number =
    bound (cut_at 46 (step_text step)) (digits_of step.0, decimal step.1)
    (λ parts. fpr_of_digits parts.0 >>=
    (λ issuer. option_map (λ place. record { 0 = issuer; 1 = place }) (decimal_up_to 4294967295 parts.1)))
    (cut_lacking 46 (digits_of step.0) (decimal step.1) (lacks_digits 46 (octets_of step.0) (omega arith) refl))
    ∙ bound (fpr_of_digits (digits_of step.0)) step.0
    (λ issuer. option_map (λ place. record { 0 = issuer; 1 = place }) (decimal_up_to 4294967295 (decimal step.1))) key
    ∙ ap (option_map (λ place. record { 0 = step.0; 1 = place })) number

pub step_printed : (step : ClaimStepLine) → fpr_of_digits (digits_of step.0) ≡ Some step.0
    → decimal_up_to 4294967295 (decimal step.1) ≡ Some step.1 → step.1 < 2 ^ 64 → IsStepPrinted step
unfolding lacks_test
step_printed step key number small = record {
  back = step_reads step key number;
  free = (
    parts_lack 47 46 step.0 step.1 (omega arith) refl (λ e. omega arith) (lacks_decimal 47 step.1 refl small),
    (
      parts_lack 10 46 step.0 step.1 (omega arith) refl (λ e. omega arith) (lacks_decimal 10 step.1 refl small),
      (
        parts_lack 32 46 step.0 step.1 (omega arith) refl (λ e. omega arith) (lacks_decimal 32 step.1 refl small),
        (
          parts_lack 44 46 step.0 step.1 (omega arith) refl (λ e. omega arith) (lacks_decimal 44 step.1 refl small),
          (
            parts_lack 45 46 step.0 step.1 (omega arith) refl (λ e. omega arith) (lacks_decimal 45 step.1 refl small),
            tt,
          ),
        ),
      ),
    ),
  );
  size = length-parts 46 step.0 step.1 key small;
}

-- ---- labels

label_reads : (label : LabelLine) → fpr_of_digits (digits_of label.0) ≡ Some label.0
    → positive_up_to 255 (decimal label.1) ≡ Some label.1 → label_of (label_text label) ≡ Some label
unfolding label_of lacks_test
label_reads label key number =
    bound (cut_at 61 (label_text label)) (digits_of label.0, decimal label.1)
    (λ parts. fpr_of_digits parts.0
    >>= (λ fpr. option_map (λ n. record { 0 = fpr; 1 = n }) (positive_up_to 255 parts.1)))
    (cut_lacking 61 (digits_of label.0) (decimal label.1) (lacks_digits 61 (octets_of label.0) (omega arith) refl))
    ∙ bound (fpr_of_digits (digits_of label.0)) label.0
    (λ fpr. option_map (λ n. record { 0 = fpr; 1 = n }) (positive_up_to 255 (decimal label.1))) key
    ∙ ap (option_map (λ n. record { 0 = label.0; 1 = n })) number

pub label_printed : (label : LabelLine) → fpr_of_digits (digits_of label.0) ≡ Some label.0
    → positive_up_to 255 (decimal label.1) ≡ Some label.1 → label.1 < 2 ^ 64 → IsLabelPrinted label
unfolding lacks_test
label_printed label key number small = record {
  back = label_reads label key number;
  free = (
    parts_lack 10 61 label.0 label.1 (omega arith) refl (λ e. omega arith) (lacks_decimal 10 label.1 refl small),
    (
      parts_lack 32 61 label.0 label.1 (omega arith) refl (λ e. omega arith) (lacks_decimal 32 label.1 refl small),
      (
        parts_lack 44 61 label.0 label.1 (omega arith) refl (λ e. omega arith) (lacks_decimal 44 label.1 refl small),
        (
          parts_lack 45 61 label.0 label.1 (omega arith) refl (λ e. omega arith) (lacks_decimal 45 label.1 refl small),
          tt,
        ),
      ),
    ),
  );
  size = length-parts 61 label.0 label.1 key small;
}

-- ---- paths

steps_read : (steps : List ClaimStepLine) → 1 ≤ length steps → AllByRecursion IsStepPrinted steps
    → items_of 47 step_of (items_text 47 step_text steps) ≡ Some steps
steps_read [] some all = absurd (omega arith)
steps_read (step ∷ steps) some all =
    items_read 47 step_of step_text step steps (item step all.0)
    (all_follow IsStepPrinted (IsItem 47 step_of step_text) steps item all.1)
  where
    item : (s : ClaimStepLine) → IsStepPrinted s → IsItem 47 step_of step_text s
    item s is = record { back = is.back; free = is.free.0 }

claim_reads : (claim : ClaimLine) → IsPathSpelled claim → positive_up_to 255 (decimal claim.0) ≡ Some claim.0
    → claim.0 < 2 ^ 64
    → AllByRecursion IsStepPrinted claim.1 → claim_of (claim_text claim) ≡ Some claim
unfolding claim_of
claim_reads claim spelled amount small all =
    bound (cut_at 47 (claim_text claim)) (decimal claim.0, items_text 47 step_text claim.1)
    (λ parts. positive_up_to 255 parts.0 >>= (λ n. items_of 47 step_of parts.1 >>= (λ steps. claim_with n steps)))
    (cut_lacking 47 (decimal claim.0) (items_text 47 step_text claim.1) (lacks_decimal 47 claim.0 refl small))
    ∙ bound (positive_up_to 255 (decimal claim.0)) claim.0
    (λ n. items_of 47 step_of (items_text 47 step_text claim.1) >>= (λ steps. claim_with n steps)) amount
    ∙ bound (items_of 47 step_of (items_text 47 step_text claim.1)) claim.1 (λ steps. claim_with claim.0 steps)
    (steps_read claim.1 spelled.1 all)
    ∙ with_steps claim (le-leb (length claim.1) 255 spelled.2)
  where
    claim_with : ℕ → List ClaimStepLine → Option ClaimLine
    claim_with n steps = if nat_le (length steps) 255 then Some (record { 0 = n; 1 = steps }) else None

    with_steps : (c : ClaimLine) → nat_le (length c.1) 255 ≡ true → claim_with c.0 c.1 ≡ Some c
    with_steps c h = rw h refl

-- ---- sizes

length-others : {A : Type 0} (separator most : ℕ) (text : A → List ℕ) (items : List A)
    → AllByRecursion (λ item. length (text item) ≤ most) items
    → length (flat_map (λ other. separator ∷ text other) items) ≤ (1 + most) * length items
length-others separator most text [] all = omega arith
length-others separator most text (item ∷ items) all =
    let later = length-others separator most text items all.1 in
    let parts = length-append (separator ∷ text item) (flat_map (λ other. separator ∷ text other) items) in
    omega (arith, later, parts, all.0)

pub length-items : {A : Type 0} (separator most : ℕ) (text : A → List ℕ) (items : List A)
    → AllByRecursion (λ item. length (text item) ≤ most) items
    → length (items_text separator text items) ≤ (1 + most) * length items
length-items separator most text [] all = omega arith
length-items separator most text (item ∷ items) all =
    let later = length-others separator most text items all.1 in
    let parts = length-append (text item) (flat_map (λ other. separator ∷ text other) items) in
    omega (arith, later, parts, all.0)

-- a path's text has no octet that the texts of its amount and its steps lack
path_lacks : (x : ℕ) (claim : ClaimLine) → (47 ≡ x → ⊥) → Lacks x (decimal claim.0)
    → AllByRecursion (λ step. Lacks x (step_text step)) claim.1 → Lacks x (claim_text claim)
path_lacks x claim apart amount all =
    lacks-append x (decimal claim.0) (47 ∷ items_text 47 step_text claim.1) amount
    (apart, lacks_items x 47 step_text claim.1 apart all)

pub claim_printed : (claim : ClaimLine) → IsPathSpelled claim → positive_up_to 255 (decimal claim.0) ≡ Some claim.0
    → claim.0 < 2 ^ 64 → AllByRecursion IsStepPrinted claim.1 → IsClaimPrinted claim
claim_printed claim spelled amount small all = record {
  back = claim_reads claim spelled amount small all;
  free = (
    path_lacks 10 claim (λ e. omega arith) (lacks_decimal 10 claim.0 refl small)
        (all_follow IsStepPrinted (λ step. Lacks 10 (step_text step)) claim.1 (λ step is. is.free.1.0) all),
    (
      path_lacks 32 claim (λ e. omega arith) (lacks_decimal 32 claim.0 refl small)
          (all_follow IsStepPrinted (λ step. Lacks 32 (step_text step)) claim.1 (λ step is. is.free.1.1.0) all),
      (
        path_lacks 44 claim (λ e. omega arith) (lacks_decimal 44 claim.0 refl small)
            (all_follow IsStepPrinted (λ step. Lacks 44 (step_text step)) claim.1 (λ step is. is.free.1.1.1.0) all),
        (
          path_lacks 45 claim (λ e. omega arith) (lacks_decimal 45 claim.0 refl small)
              (all_follow IsStepPrinted (λ step. Lacks 45 (step_text step)) claim.1 (λ step is. is.free.1.1.1.1.0) all),
          tt,
        ),
      ),
    ),
  );
  size =
      let number = length-decimal-le 20 claim.0 (omega arith) (omega arith) small in
      let steps = length-items 47 96 step_text claim.1
      (all_follow IsStepPrinted (λ step. length (step_text step) ≤ 96) claim.1 (λ step is. is.size) all) in
      omega (arith, length-append (decimal claim.0) (47 ∷ items_text 47 step_text claim.1), number, steps);
}

-- ---- PATHS and TABLE

-- a field that is read back, has no line feed or space, and is at most this long
pub record IsField {A : Type 0} (read : List ℕ → Option A) (most : ℕ) (text : List ℕ) (value : A) : Type 0 where
  pub back : read text ≡ Some value
  pub line : Lacks 10 text
  pub free : Lacks 32 text
  pub size : length text ≤ most

length-claims : (claims : List ClaimLine) → AllByRecursion IsClaimPrinted claims
    → length (flat_map (λ other. 44 ∷ claim_text other) claims) ≤ most_paths claims
length-claims [] all = omega arith
length-claims (claim ∷ claims) all =
    let later = length-claims claims all.1 in
    let parts = length-append (44 ∷ claim_text claim) (flat_map (λ other. 44 ∷ claim_text other) claims) in
    omega (arith, later, parts, all.0.size)

length-claims_field : (claims : List ClaimLine) → AllByRecursion IsClaimPrinted claims
    → length (field_text claim_text claims) ≤ 1 + most_paths claims
length-claims_field [] all = omega arith
length-claims_field (claim ∷ claims) all =
    let later = length-claims claims all.1 in
    let parts = length-append (claim_text claim) (flat_map (λ other. 44 ∷ claim_text other) claims) in
    omega (arith, later, parts, all.0.size)

pub claims_field : (claims : List ClaimLine) → AllByRecursion IsClaimPrinted claims
    → IsField (field_of claim_of) (1 + most_paths claims) (field_text claim_text claims) claims
claims_field claims all = record {
  back = field_read claim_of claim_text claims
      (all_follow IsClaimPrinted (IsItem 44 claim_of claim_text) claims
      (λ c is. record { back = is.back; free = is.free.1.1.0 }) all)
      (all_follow IsClaimPrinted (λ c. Lacks 45 (claim_text c)) claims (λ c is. is.free.1.1.1.0) all);
  line = lacks_field 10 claim_text claims (λ e. omega arith) (λ e. omega arith)
      (all_follow IsClaimPrinted (λ c. Lacks 10 (claim_text c)) claims (λ c is. is.free.0) all);
  free = lacks_field 32 claim_text claims (λ e. omega arith) (λ e. omega arith)
      (all_follow IsClaimPrinted (λ c. Lacks 32 (claim_text c)) claims (λ c is. is.free.1.0) all);
  size = length-claims_field claims all;
}

length-labels_field : (labels : List LabelLine) → AllByRecursion IsLabelPrinted labels
    → length (field_text label_text labels) ≤ 1 + 128 * length labels
length-labels_field [] all = omega arith
length-labels_field (label ∷ labels) all =
    let whole = length-items 44 96 label_text (label ∷ labels)
    (all_follow IsLabelPrinted (λ l. length (label_text l) ≤ 96) (label ∷ labels) (λ l is. is.size) all) in
    omega (arith, whole)

pub labels_field : (labels : List LabelLine) → AllByRecursion IsLabelPrinted labels → is_rising labels ≡ true
    → IsField labels_of (1 + 128 * length labels) (field_text label_text labels) labels
labels_field labels all rises = record {
  back =
      bound (field_of label_of (field_text label_text labels)) labels (λ ls. if is_rising ls then Some ls else None)
      (field_read label_of label_text labels
      (all_follow IsLabelPrinted (IsItem 44 label_of label_text) labels
      (λ l is. record { back = is.back; free = is.free.1.1.0 }) all)
      (all_follow IsLabelPrinted (λ l. Lacks 45 (label_text l)) labels (λ l is. is.free.1.1.1.0) all))
      ∙ rw rises refl;
  line = lacks_field 10 label_text labels (λ e. omega arith) (λ e. omega arith)
      (all_follow IsLabelPrinted (λ l. Lacks 10 (label_text l)) labels (λ l is. is.free.0) all);
  free = lacks_field 32 label_text labels (λ e. omega arith) (λ e. omega arith)
      (all_follow IsLabelPrinted (λ l. Lacks 32 (label_text l)) labels (λ l is. is.free.1.0) all);
  size = length-labels_field labels all;
}
