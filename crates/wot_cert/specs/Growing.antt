-- How a certificate grows in place, and how that is taken back.
use Rattle.std.specs.Prelude.{◌≡◌, ℕ, []}
use Rattle.std.specs.Prelude.{Result}
use Rattle.wot_policy.specs.declared.policy.Policy.{Policy}
use Rattle.wot_policy.specs.declared.rows.PolicyRows.{PolicyRows}
use Rattle.wot_policy.specs.Kept.{rows_of}
use Rattle.wot_component.specs.declared.adds.Adds.{Adds}
use Rattle.wot_cert.specs.declared.growth.Growth.{Growth}
use Rattle.wot_cert.specs.declared.places.Places.{Places}
use Rattle.wot_component.specs.Asking.{AsksUpTo}
use Rattle.wot_component.specs.Certificate.{Signature, Component, Certificate, sig_cmp, part_cmp}
use Rattle.wot_component.specs.Certificate.{unite}
use Rattle.wot_component.specs.Counts.{weight_of}
use Rattle.wot_component.specs.Judged.{judged, sound_of}
use Rattle.wot_cert.specs.Parts.{of_places}
use Rattle.wot_component.specs.Ranked.{IsRising}
use Rattle.wot_component.specs.Sizes.{sig_size, own_size}
use Rattle.wot_component.specs.Totals.{AreTotals, Counts}
use Rattle.wot_component.specs.Whole.{IsCertificate}
use Rattle.wot_component.specs.Growing.{without_all, parts_back, sigs_grown, parts_grown}

-- the certificate without what it grew by
abbrev pub shrunk : Growth → Certificate → Certificate
shrunk g c = record {
  key = c.key;
  direct = without_all g.direct.items c.direct;
  user_ids = parts_back g.user_ids.items c.user_ids;
  attributes = parts_back g.attributes.items c.attributes;
  subkeys = parts_back g.subkeys.items c.subkeys;
}

-- Without what it grew by, a certificate is the old one.
pub record LeadsBack (g : Growth) (old new : Certificate) : Type 0 where
  pub shrunk : shrunk g new ≡ old
  pub whole : IsCertificate old
  pub totals : AreTotals g.before old

-- The policy is asked for what is new of this certificate.
abbrev pub AsksForCert : {F T E : Type 0} → Result T E → Policy F → Policy F → Certificate → Certificate → Type 0
AsksForCert result before after old other =
    AsksUpTo result before after (sound_of old) (sound_of (unite old (judged (rows_of before) other)))

-- ---- all places

-- Each list is merged with another certificate's, marked.
pub record AreUnited (rows : PolicyRows) (old new : Places) (other : Certificate) : Type 0 where
  pub direct : new.direct.items ≡ sigs_grown rows old.direct.items other.direct
  pub user_ids : new.user_ids.items ≡ parts_grown rows old.user_ids.items other.user_ids
  pub attributes : new.attributes.items ≡ parts_grown rows old.attributes.items other.attributes
  pub subkeys : new.subkeys.items ≡ parts_grown rows old.subkeys.items other.subkeys

-- Without what was logged since, the lists are the old ones.
pub record StillLeadsBack (g g' : Growth) (old new : Places) : Type 0 where
  pub direct : without_all g'.direct.items new.direct.items ≡ without_all g.direct.items old.direct.items
  pub user_ids : parts_back g'.user_ids.items new.user_ids.items ≡ parts_back g.user_ids.items old.user_ids.items
  pub attributes :
      parts_back g'.attributes.items new.attributes.items ≡ parts_back g.attributes.items old.attributes.items
  pub subkeys : parts_back g'.subkeys.items new.subkeys.items ≡ parts_back g.subkeys.items old.subkeys.items
  pub before : g'.before ≡ g.before

-- All lists are sorted.
pub record PlacesRise (p : Places) : Type 0 where
  pub direct : IsRising sig_cmp p.direct.items
  pub user_ids : IsRising part_cmp p.user_ids.items
  pub attributes : IsRising part_cmp p.attributes.items
  pub subkeys : IsRising part_cmp p.subkeys.items

-- what all places weigh
abbrev pub weight_in : (Signature → ℕ) → (Component → ℕ) → Places → ℕ
weight_in sig own p = weight_of sig own (of_places [] p)

-- The totals follow the places.
pub record PlacesFollow (a b : Adds) (old new : Places) : Type 0 where
  pub items : Counts a.items (weight_in (λ _. 1) (λ _. 1) old) b.items (weight_in (λ _. 1) (λ _. 1) new)
  pub signatures : Counts a.signatures (weight_in (λ _. 1) (λ _. 0) old) b.signatures (weight_in (λ _. 1) (λ _. 0) new)
  pub octets : Counts a.octets (weight_in sig_size own_size old) b.octets (weight_in sig_size own_size new)

-- Without what was logged, each list is what it was.
pub record TakesBack (g : Growth) (old new : Places) : Type 0 where
  pub direct : new.direct.items ≡ without_all g.direct.items old.direct.items
  pub user_ids : new.user_ids.items ≡ parts_back g.user_ids.items old.user_ids.items
  pub attributes : new.attributes.items ≡ parts_back g.attributes.items old.attributes.items
  pub subkeys : new.subkeys.items ≡ parts_back g.subkeys.items old.subkeys.items
