-- The invariant of every certificate: the key can be parsed, all lists are sorted, each signature has the number of its
-- place.
use Rattle.std.specs.Prelude.{◌≡◌, ℕ, ◌<◌, ◌^◌, true, List, [], length}
use Rattle.std.specs.List.{AllByRecursion}
use Rattle.wot_key.specs.Key.{is_readable}
use Rattle.wot_verdict.specs.Number.{number_of}
use Rattle.wot_component.specs.Ranked.{IsRising}
use Rattle.wot_component.specs.Certificate.{Signature, Component, Certificate, sig_cmp, part_cmp}
use Rattle.wot_component.specs.Certificate.{on_key, on_user_id, on_attribute, on_subkey}

-- a signature at this place
abbrev pub IsSigAt : List ℕ → ℕ → List ℕ → Signature → Type 0
IsSigAt key kind component s = (length s.body < 2 ^ 32) × (s.number ≡ number_of key kind component s.body)

abbrev pub AreSigsAt : List ℕ → ℕ → List ℕ → List Signature → Type 0
AreSigsAt key kind component sigs = IsRising sig_cmp sigs × AllByRecursion (IsSigAt key kind component) sigs

abbrev pub IsPartOf : List ℕ → ℕ → Component → Type 0
IsPartOf key kind p = (length p.body < 2 ^ 32) × AreSigsAt key kind p.body p.sigs

abbrev pub ArePartsOf : List ℕ → ℕ → List Component → Type 0
ArePartsOf key kind parts = IsRising part_cmp parts × AllByRecursion (IsPartOf key kind) parts

pub record IsCertificate (c : Certificate) : Type 0 where
  pub readable : is_readable c.key ≡ true
  pub direct : AreSigsAt c.key on_key [] c.direct
  pub user_ids : ArePartsOf c.key on_user_id c.user_ids
  pub attributes : ArePartsOf c.key on_attribute c.attributes
  pub subkeys : ArePartsOf c.key on_subkey c.subkeys

-- Of any two certificates of one key this is true, and of any three certificates.
abbrev pub OfTwoOfOneKey : (Certificate → Certificate → Type 0) → Type 0
OfTwoOfOneKey P = (a b : Certificate) → IsCertificate a → IsCertificate b → a.key ≡ b.key → P a b

abbrev pub OfAnyThree : (Certificate → Certificate → Certificate → Type 0) → Type 0
OfAnyThree P = (a b c : Certificate) → IsCertificate a → IsCertificate b → IsCertificate c → P a b c
