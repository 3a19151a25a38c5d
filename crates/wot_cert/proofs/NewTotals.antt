-- Marking what is new keeps the invariant of a certificate, its totals included.
use Rattle.std.proofs.Common.{◌≡◌, ℕ, ◌+◌, List, length, refl, sym, ap, ◌∙◌}
use Rattle.wot_types.specs.declared.fpr.Fpr.{Fpr}
use Rattle.wot_key.specs.declared.key.Key.{Key}
use Rattle.wot_packet.specs.Writing.{written}
use Rattle.wot_policy.specs.declared.rows.PolicyRows.{PolicyRows}
use Rattle.wot_component.specs.declared.adds.Adds.{Adds}
use Rattle.wot_component.specs.Certificate.{Signature, Component, Certificate}
use Rattle.wot_component.specs.Counts.{sum_of, part_weight, weight_of}
use Rattle.wot_component.specs.Judged.{judged_sig}
use Rattle.wot_component.specs.New.{judged_sigs, judged_part, judged_parts}
use Rattle.wot_component.specs.Sizes.{sig_size, own_size}
use Rattle.wot_component.specs.Totals.{AreTotals}
use Rattle.wot_cert.specs.Parts.{IsCertOf}
use Rattle.wot_component.proofs.Follows.{totals_same}
use Rattle.wot_component.proofs.NewWhole.{lists_whole}
use Rattle.wot_component.proofs.TextSize.{size_is}
use Rattle.wot_component.proofs.Weights.{sigs_weight, parts_weight}

module _ (r1 r2 r3 r4 : PolicyRows) (o1 : List Signature) (o2 o3 o4 : List Component) (c : Certificate)
    (d : List Signature) (u t s : List Component)
    (ed : d ≡ judged_sigs r1 c.direct o1) (eu : u ≡ judged_parts r2 c.user_ids o2)
    (et : t ≡ judged_parts r3 c.attributes o3) (es : s ≡ judged_parts r4 c.subkeys o4) where
  abbrev new : Certificate
  new = record { key = c.key; direct = d; user_ids = u; attributes = t; subkeys = s }

  weight : (sig : Signature → ℕ) (own : Component → ℕ)
      → ((rows : PolicyRows) (x : Signature) → sig (judged_sig rows x) ≡ sig x)
      → ((rows : PolicyRows) (old : List Signature) (p : Component) → own (judged_part rows old p) ≡ own p)
      → weight_of sig own new ≡ weight_of sig own c
  weight sig own sig_as own_as =
      let direct : sum_of sig d ≡ sum_of sig c.direct =
      ap (sum_of sig) ed ∙ sigs_weight sig own r1 (sig_as r1) (own_as r1) c.direct o1 in
      let ids : sum_of (part_weight sig own) u ≡ sum_of (part_weight sig own) c.user_ids =
      ap (sum_of (part_weight sig own)) eu ∙ parts_weight sig own r2 (sig_as r2) (own_as r2) c.user_ids o2 in
      let attributes : sum_of (part_weight sig own) t ≡ sum_of (part_weight sig own) c.attributes =
      ap (sum_of (part_weight sig own)) et ∙ parts_weight sig own r3 (sig_as r3) (own_as r3) c.attributes o3 in
      let subkeys : sum_of (part_weight sig own) s ≡ sum_of (part_weight sig own) c.subkeys =
      ap (sum_of (part_weight sig own)) es ∙ parts_weight sig own r4 (sig_as r4) (own_as r4) c.subkeys o4 in
      λ i. direct i + ids i + attributes i + subkeys i

  lists_totals : (totals : Adds) → AreTotals totals c → AreTotals totals new
  lists_totals totals h =
      totals_same totals c new
      (ap (λ n. 1 + n) (weight (λ _. 1) (λ _. 1) (λ rows x. refl) (λ rows old p. refl)))
      (weight (λ _. 1) (λ _. 0) (λ rows x. refl) (λ rows old p. refl))
      (size_is new ∙ ap (λ n. length (written 6 c.key) + n)
      (weight sig_size own_size (λ rows x. refl) (λ rows old p. refl)) ∙ sym (size_is c)) h

  -- what holds of a certificate's key, fingerprint and totals holds with these lists
  pub lists_cert : (key : Key) (fpr : Fpr) (totals : Adds) → IsCertOf key fpr c × AreTotals totals c
      → IsCertOf key fpr new × AreTotals totals new
  lists_cert key fpr totals h =
      ((h.0.0, h.0.1, lists_whole r1 r2 r3 r4 o1 o2 o3 o4 c d u t s ed eu et es h.0.2), lists_totals totals h.1)
