-- What a certificate is (RFC 9580, section 10.1), and how two are merged.
use Rattle.std.specs.Prelude.{ℕ, false, List, map}
use Rattle.std.specs.declared.cmp.Ordering.{Ordering}
use Rattle.std.specs.Ordering.{nat_cmp}
use Rattle.std.specs.Cmp.Lexicographic.{slice_cmp}
pub use Rattle.wot_kept_signature.specs.Signature.{Signature, said_by, fresh, IsFreshBy}
use Rattle.wot_component.specs.Ranked.{united}

-- a user ID, a user attribute or a subkey, and the signatures on it
pub record Component : Type 0 where
  pub body : List ℕ
  pub sigs : List Signature

-- All lists are in the order of the bodies, without duplicates.
pub record Certificate : Type 0 where
  pub key : List ℕ
  pub direct : List Signature
  pub user_ids : List Component
  pub attributes : List Component
  pub subkeys : List Component

-- the certificate of these parts
abbrev pub of_parts : List ℕ → List Signature → List Component → List Component → List Component → Certificate
of_parts key direct user_ids attributes subkeys =
    record { key = key; direct = direct; user_ids = user_ids; attributes = attributes; subkeys = subkeys }

-- ---- places

-- the kind of component that a signature is on, as in its number: the key, a user ID, a user attribute, a subkey
abbrev pub on_key : ℕ
on_key = 0

abbrev pub on_user_id : ℕ
on_user_id = 1

abbrev pub on_attribute : ℕ
on_attribute = 2

abbrev pub on_subkey : ℕ
on_subkey = 3

-- ---- merging

abbrev pub sig_cmp : Signature → Signature → Ordering
sig_cmp a b = slice_cmp nat_cmp a.body b.body

abbrev pub part_cmp : Component → Component → Ordering
part_cmp a b = slice_cmp nat_cmp a.body b.body

-- The one that is there stays.
abbrev pub kept : Signature → Signature → Signature
kept old new = old

abbrev pub unite_sigs : List Signature → List Signature → List Signature
unite_sigs = united sig_cmp kept

abbrev pub unite_part : Component → Component → Component
unite_part old new = record { body = old.body; sigs = unite_sigs old.sigs new.sigs }

abbrev pub unite_parts : List Component → List Component → List Component
unite_parts = united part_cmp unite_part

-- Two certificates of one key, merged list by list. What the first one has stays, its marks included.
abbrev pub unite : Certificate → Certificate → Certificate
unite a b = record {
  key = a.key;
  direct = unite_sigs a.direct b.direct;
  user_ids = unite_parts a.user_ids b.user_ids;
  attributes = unite_parts a.attributes b.attributes;
  subkeys = unite_parts a.subkeys b.subkeys;
}

-- ---- marks

-- each signature changed so
abbrev pub part_with : (Signature → Signature) → Component → Component
part_with change p = record { body = p.body; sigs = map change p.sigs }

abbrev pub with_each : (Signature → Signature) → Certificate → Certificate
with_each change c = record {
  key = c.key;
  direct = map change c.direct;
  user_ids = map (part_with change) c.user_ids;
  attributes = map (part_with change) c.attributes;
  subkeys = map (part_with change) c.subkeys;
}

abbrev pub unmarked_sig : Signature → Signature
unmarked_sig s = record { body = s.body; number = s.number; admitted = false }

-- the certificate with no mark
abbrev pub unmarked : Certificate → Certificate
unmarked c = with_each unmarked_sig c
