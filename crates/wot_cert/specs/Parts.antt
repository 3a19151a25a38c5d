-- A certificate from the parts that are kept of it.
use Rattle.std.specs.Prelude.{◌≡◌, ℕ, List, [], map, Some}
use Rattle.wot_types.specs.declared.fpr.Fpr.{Fpr}
use Rattle.wot_key.specs.declared.key.Key.{Key}
use Rattle.wot_key.specs.Key.{key_of, fpr_of}
use Rattle.wot_cert.specs.declared.places.Places.{Places}
use Rattle.wot_component.specs.declared.sig.Marks.{Marks}
use Rattle.wot_component.specs.Certificate.{Certificate, fresh, part_with, unite_parts, unite_sigs}
use Rattle.wot_component.specs.Certificate.{on_key, on_user_id, on_attribute, on_subkey}
use Rattle.wot_component.specs.Certificate.{of_parts}
use Rattle.wot_component.specs.Copied.{copied}
use Rattle.wot_cert.specs.Drafting.{Sketch, part_drafted}
use Rattle.wot_component.specs.Whole.{IsCertificate}

abbrev pub of_places : List ℕ → Places → Certificate
of_places key p = of_parts key p.direct.items p.user_ids.items p.attributes.items p.subkeys.items

-- It is whole, and these are its key and its fingerprint.
abbrev pub IsCertOf : Key → Fpr → Certificate → Type 0
IsCertOf key fpr c = (Some key ≡ key_of c.key) × (fpr ≡ fpr_of c.key) × IsCertificate c

-- ---- empty places, and what is put there

pub record AreBare (p : Places) : Type 0 where
  pub direct : p.direct.items ≡ []
  pub user_ids : p.user_ids.items ≡ []
  pub attributes : p.attributes.items ≡ []
  pub subkeys : p.subkeys.items ≡ []

-- what is drafted, with its key
pub record AreDrafted (key : List ℕ) (s : Sketch) (new : Places) : Type 0 where
  pub direct : new.direct.items ≡ map (fresh key on_key []) s.sigs
  pub user_ids : new.user_ids.items ≡ map (part_drafted key on_user_id) s.user_ids
  pub attributes : new.attributes.items ≡ map (part_drafted key on_attribute) s.attributes
  pub subkeys : new.subkeys.items ≡ map (part_drafted key on_subkey) s.subkeys

pub record AreCopies (marks : Marks) (from new : Places) : Type 0 where
  pub direct : new.direct.items ≡ map (copied marks) from.direct.items
  pub user_ids : new.user_ids.items ≡ map (part_with (copied marks)) from.user_ids.items
  pub attributes : new.attributes.items ≡ map (part_with (copied marks)) from.attributes.items
  pub subkeys : new.subkeys.items ≡ map (part_with (copied marks)) from.subkeys.items

pub record AreUnions (a b new : Places) : Type 0 where
  pub direct : new.direct.items ≡ unite_sigs a.direct.items b.direct.items
  pub user_ids : new.user_ids.items ≡ unite_parts a.user_ids.items b.user_ids.items
  pub attributes : new.attributes.items ≡ unite_parts a.attributes.items b.attributes.items
  pub subkeys : new.subkeys.items ≡ unite_parts a.subkeys.items b.subkeys.items
