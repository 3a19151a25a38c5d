-- A keyring that is marked by policy rows stays so when a certificate is removed or a verdict changes.
use Rattle.std.proofs.Common.{ℕ, Bool, true, false, cond, [], ◌∷◌}
use Rattle.std.specs.Map.{remove_entry}
use Rattle.wot_types.specs.declared.fpr.Fpr.{Fpr}
use Rattle.wot_types.specs.declared.number.SigNumber.{SigNumber}
use Rattle.wot_policy.specs.declared.rows.PolicyRows.{PolicyRows}
use Rattle.wot_keyring_spec.specs.Keyring.{Entries}
use Rattle.wot_keyring_spec.specs.Kept.{AreJudged}
use Rattle.wot_keyring_spec.specs.Verdict.{restamped_all}

pub removed_judged : (rows : PolicyRows) (test : Fpr → Bool) (es : Entries) → AreJudged rows es →
    AreJudged rows (remove_entry test es)
removed_judged rows test [] all = tt
removed_judged rows test (e ∷ es) all =
    elim (test e.0) as (λ b. AreJudged rows (cond b es (e ∷ remove_entry test es))) [
      | true ↦ all.1
      | false ↦ (all.0, removed_judged rows test es all.1)
    ]

pub restamped_judged : (rows : PolicyRows) (number : SigNumber) (stamp : ℕ) (es : Entries) → AreJudged rows es →
    AreJudged rows (restamped_all number stamp es)
restamped_judged rows number stamp [] all = tt
restamped_judged rows number stamp (e ∷ es) all = (all.0, restamped_judged rows number stamp es all.1)
