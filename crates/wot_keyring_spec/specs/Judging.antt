-- A keyring and a policy that judge alike: what an import needs, and what it leaves.
use Rattle.std.specs.Prelude.{◌≡◌, Bool}
use Rattle.std.specs.Fn.{Shared}
use Rattle.wot_policy.specs.declared.policy.Policy.{Policy}
use Rattle.wot_policy.specs.declared.rows.Ask.{Ask}
use Rattle.wot_policy.specs.Kept.{IsFaithful, rows_of}
use Rattle.wot_keyring_spec.specs.Keyring.{Keyring}
use Rattle.wot_keyring_spec.specs.Kept.{IsJudgedBy}

-- The policy's rows judge what is held, and the policy answers by these rows.
pub record IsJudging {F : Type 0} (calls : Shared F (Ask × Unit {0}) Bool) (policy : Policy F) (keyring : Keyring)
    : Type 0 where
  pub judged : IsJudgedBy (rows_of policy) keyring
  pub faithful : IsFaithful calls policy

-- After a call, the rows that the policy had before it judge what is held, and the policy answers by these rows.
pub record StaysJudging {F : Type 0} (calls : Shared F (Ask × Unit {0}) Bool) (old new : Policy F) (keyring : Keyring)
    : Type 0 where
  pub judged : IsJudgedBy (rows_of old) keyring
  pub faithful : IsFaithful calls new
  pub rows : rows_of new ≡ rows_of old
