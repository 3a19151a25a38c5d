-- A log of changes: the fingerprints of altered certificates with the stamps that they were given, so that finding what
-- changed since a count needs no walk over the keyring.
use Rattle.std.specs.Prelude.{◌≡◌, ◌≤◌, ◌<◌, ◌⊎◌, ℕ, Bool, true, ◌&&◌, nat_eq, List, [], ◌∷◌, Some}
use Rattle.std.specs.List.{AllByRecursion, list_any}
use Rattle.std.specs.Map.{lookup}
use Rattle.wot_types.specs.declared.fpr.Fpr.{Fpr}
use Rattle.wot_key.specs.Key.{fpr_of}
use Rattle.wot_component.specs.Certificate.{Certificate}
use Rattle.wot_keyring_spec.specs.declared.kept.Kept.{Kept}
use Rattle.wot_index.specs.declared.log.Log.{Log}
use Rattle.wot_keyring_spec.specs.Keyring.{Entries, Keyring, is_fpr, stamp_at}

abbrev pub Logged : Type 0
Logged = List (ℕ × Fpr)

-- whether a fingerprint is among them
abbrev pub is_listed : Fpr → Logged → Bool
is_listed fpr logged = list_any (λ (e : ℕ × Fpr). is_fpr fpr e.1) logged

-- Each kept certificate with a stamp above the count is among them.
abbrev pub HasChangedSince : Keyring → ℕ → Logged → Type 0
HasChangedSince k count logged = (fpr : Fpr) → count < stamp_at k fpr → is_listed fpr logged ≡ true

-- whether a fingerprint is among them with this stamp
abbrev pub is_logged_at : ℕ → Fpr → Logged → Bool
is_logged_at stamp fpr logged = list_any (λ (e : ℕ × Fpr). nat_eq stamp e.0 && is_fpr fpr e.1) logged

-- The stamps don't fall.
abbrev pub AreRising : Logged → Type 0
AreRising [] = Unit {0}
AreRising (e ∷ es) = AllByRecursion (λ (later : ℕ × Fpr). e.0 ≤ later.0) es × AreRising es

-- The stamps rise, up to this one at most.
pub record IsRisingTo (stamp : ℕ) (log : Log) : Type 0 where
  pub rising : AreRising log.entries.items
  pub past : AllByRecursion (λ (e : ℕ × Fpr). e.0 ≤ stamp) log.entries.items

-- Each certificate is logged with its stamp, if that is above the one at which the log starts.
pub record IsLogOf (log : Log) (es : Entries) (changes : ℕ) : Type 0 where
  pub from : log.from ≤ changes
  pub rising : IsRisingTo changes log
  pub whole :
      (fpr : Fpr) (x : Kept) → lookup (is_fpr fpr) es ≡ Some x → log.from < x.stamp
      → is_logged_at x.stamp fpr log.entries.items ≡ true

-- These fingerprints were logged with a stamp, and earlier entries are still there. Nothing is claimed for stamps up to
-- the new `from`.
pub record LogsAt (stamp : ℕ) (these : Fpr → Bool) (old new : Log) : Type 0 where
  pub from : old.from ≤ new.from
  pub past : new.from ≤ stamp
  pub kept :
      (s : ℕ) (fpr : Fpr) → s ≤ stamp → new.from < s → is_logged_at s fpr old.entries.items ≡ true
      → is_logged_at s fpr new.entries.items ≡ true
  pub logged : (fpr : Fpr) → new.from < stamp → these fpr ≡ true → is_logged_at stamp fpr new.entries.items ≡ true
  pub rising : IsRisingTo stamp old → IsRisingTo stamp new

-- whether one of these certificates has this fingerprint
abbrev pub is_named_in : List Certificate → Fpr → Bool
is_named_in cs fpr = list_any (λ (c : Certificate). is_fpr (fpr_of c.key) fpr) cs

-- Each certificate whose stamp changed has this stamp, and is one of these.
abbrev pub RestampsThese : ℕ → (Fpr → Bool) → Entries → Entries → Type 0
RestampsThese stamp these old new =
    (fpr : Fpr) (x : Kept) → lookup (is_fpr fpr) new ≡ Some x
    → ((x.stamp ≡ stamp) × (these fpr ≡ true)) ⊎ ((y : Kept) × (lookup (is_fpr fpr) old ≡ Some y) × (y.stamp ≡ x.stamp))
