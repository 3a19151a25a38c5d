-- The order of issuers and user IDs, and what one more place changes.
use Rattle.std.proofs.Common.{◌≡◌, ℕ, Bool, true, false, cond, ◌&&◌, List, Some, Ordering, refl, sym, ap, ◌∙◌, arith}
use Rattle.std.specs.Prelude.{◌==◌}
use Rattle.std.specs.BTreeMap.{is_at}
use Rattle.std.specs.Cmp.{tied_then, unsigned_tied}
use Rattle.std.specs.Map.{lookup}
use Rattle.std.specs.Ordering.{nat_cmp, ordering_then}
use Rattle.std.proofs.lemmas.Bool.Decides.{nat_tests}
use Rattle.wot_types.specs.declared.fpr.Fpr.{Fpr}
use Rattle.wot_types.specs.Fpr.{fpr_cmp, same_fpr}
use Rattle.wot_types.specs.FprLaws.{same_cmp}
use Rattle.wot_standing.specs.declared.places.Certified.{Certified}
use Rattle.wot_standing.specs.contracts.places.CertifiedOrd.TheImpl as certifieds
use Rattle.wot_standing.specs.Certifiers.{certified_cmp, place_for, KeepsNumber, StaysElsewhere}

-- ---- the order of the map

abbrev pub derived_cmp : Certified → Certified → Ordering
derived_cmp = certifieds.ghosts.cmp

same_order : (a b : Certified) → derived_cmp a b ≡ certified_cmp a b
same_order a b = ap (λ (cmp : Fpr → Fpr → Ordering). ordering_then (cmp a.issuer b.issuer) (nat_cmp a.uid b.uid))
    same_cmp

pub same_certified_cmp : derived_cmp ≡ certified_cmp
same_certified_cmp = λ i a b. same_order a b i

-- ---- one place is kept

and_true : (b : Bool) → (b && true) ≡ b
and_true true = refl
and_true false = refl

and_false : (b : Bool) → (b && false) ≡ false
and_false true = refl
and_false false = refl

equal-refl : (n : ℕ) → (n == n) ≡ true
equal-refl n = grind (arith, nat_tests)

module _ (issuer : Fpr) (uid place : ℕ) (old new : List (Certified × ℕ)) where
  abbrev pub Updated : (Certified → Certified → Ordering) → Type 0
  Updated cmp =
      (q : Certified) → lookup (is_at (cmp q)) new
      ≡ cond (is_at (cmp (record { issuer = issuer; uid = uid })) q) (Some place) (lookup (is_at (cmp q)) old)

  both : (q : Fpr) (at : ℕ) → is_at (certified_cmp (record { issuer = issuer; uid = uid }))
      (record { issuer = q; uid = at }) ≡ (same_fpr issuer q && (uid == at))
  both q at =
      sym (tied_then (fpr_cmp issuer q) (nat_cmp uid at)) ∙ ap (λ b. same_fpr issuer q && b) (unsigned_tied uid at)

  pub keeps_here : Updated certified_cmp → KeepsNumber (place_for old uid) (place_for new uid) issuer place
  keeps_here h q =
      h (record { issuer = q; uid = uid })
      ∙ ap (λ b. cond b (Some place) (place_for old uid q))
      (both q uid ∙ ap (λ b. same_fpr issuer q && b) (equal-refl uid) ∙ and_true (same_fpr issuer q))

  pub stays_elsewhere : Updated certified_cmp → StaysElsewhere uid old new
  stays_elsewhere h at q apart =
      h (record { issuer = q; uid = at })
      ∙ ap (λ b. cond b (Some place) (place_for old at q))
      (both q at ∙ ap (λ b. same_fpr issuer q && b) apart ∙ and_false (same_fpr issuer q))
