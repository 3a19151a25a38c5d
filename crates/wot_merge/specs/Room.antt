-- Room for one certificate, even if all of it is new.
use Rattle.std.specs.Prelude.{◌≡◌, ◌≤◌, ◌<◌, ◌+◌, ℕ, length, Option, Some, None}
use Rattle.wot_types.specs.declared.limits.Limits.{Limits}
use Rattle.wot_component.specs.Certificate.{Certificate}
use Rattle.wot_component.specs.Counts.{signatures_of}
use Rattle.wot_component.specs.Text.{size_of}
use Rattle.wot_keyring_spec.specs.declared.kept.Kept.{Kept}
use Rattle.wot_merge.specs.declared.tally.Weight.{Weight}
use Rattle.wot_keyring_spec.specs.Keyring.{Entries}
use Rattle.wot_merge.specs.Staging.{found_for}

-- What is kept under a certificate's fingerprint has its key, and both together stay within the limit on size.
abbrev pub FitsBeside : Option Kept → Certificate → ℕ → Type 0
FitsBeside None c limit = size_of c ≤ limit
FitsBeside (Some kept) c limit = (kept.cert.key ≡ c.key) × (size_of kept.cert + size_of c ≤ limit)

-- The totals exceed no limit with it.
pub record BringsFew (total : Weight) (c : Certificate) (l : Limits) : Type 0 where
  pub octets : total.octets + size_of c ≤ l.octets
  pub signatures : total.signatures + signatures_of c ≤ l.signatures

pub record HasRoom (es : Entries) (total : Weight) (c : Certificate) (l : Limits) : Type 0 where
  pub one_more : length es < l.certificates
  pub few : BringsFew total c l
  pub beside : FitsBeside (found_for es c) c l.certificate
