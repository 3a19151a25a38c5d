-- What a search looked at, and when it is still so.
use Rattle.std.specs.Prelude.{◌≡◌, ℕ, List}
use Rattle.std.specs.List.{AllByRecursion}
use Rattle.wot_types.specs.declared.fpr.Fpr.{Fpr}
use Rattle.wot_edge.specs.Roots.{root_amount}
use Rattle.wot_keyring_spec.specs.Keyring.{Keyring, stamp_at}
use Rattle.wot_answers.specs.declared.looked.Looked.{Looked}

-- roots with their amounts
abbrev pub Amounts : Type 0
Amounts = List (Fpr × ℕ)

-- a lookup at a fingerprint: its stamp, and its amount as a root
abbrev pub look : Keyring → Amounts → Fpr → Looked
look k roots fpr = record { fpr = fpr; stamp = stamp_at k fpr; amount = root_amount roots fpr }

-- the stamp and the amount are still those that were noted
pub record IsStill (k : Keyring) (roots : Amounts) (looked : Looked) : Type 0 where
  pub stamp : stamp_at k looked.fpr ≡ looked.stamp
  pub amount : root_amount roots looked.fpr ≡ looked.amount

abbrev pub AreStill : Keyring → Amounts → List Looked → Type 0
AreStill k roots looked = AllByRecursion (IsStill k roots) looked
