-- What an import leaves: the next keyring, and a policy of the same rows.
use Rattle.std.proofs.Common.{◌≡◌, inl, ℕ, Bool, Err, refl, sym, ap, subst, arith}
use Rattle.std.specs.Fn.{Shared}
use Rattle.wot_policy.specs.declared.policy.Policy.{Policy}
use Rattle.wot_policy.specs.declared.rows.Ask.{Ask}
use Rattle.wot_policy.specs.Kept.{IsFaithful, asked_more, rows_of}
use Rattle.wot_keyring_spec.specs.declared.refusal.Refusal.{Refusal}
use Rattle.wot_keyring_spec.specs.declared.refusal.Refusal.TheVariants.{Packet, Cert, Clash, Full, Misfiled, Memory}
use Rattle.wot_keyring_spec.specs.Import.{Asked, IsAskedAbout, IsNext}
use Rattle.wot_keyring_spec.specs.Judging.{IsJudging, StaysJudging}
use Rattle.wot_keyring_spec.specs.Keyring.{Keyring}
use Rattle.wot_keyring_spec.specs.Kept.{IsJudgedBy}
use Rattle.wot_component.proofs.PolicyAsked.{not_asked}
use Rattle.wot_index.proofs.Later.{later_itself}

-- nothing was read
pub next_itself : (k : Keyring) → IsNext k k
next_itself k = record { counted = inl refl; later = later_itself k; limits = refl }

pub next_still : (old new : Keyring) → new ≡ old → IsNext old new
next_still old new same = subst (λ (k : Keyring). IsNext old k) (sym same) (next_itself old)

-- A refusal asks nothing.
none_asked : (refusal : Refusal) (new : ℕ) → IsAskedAbout (Err refusal) new 0
none_asked (Packet f) new = refl
none_asked (Cert f) new = refl
none_asked Misfiled new = refl
none_asked Clash new = refl
none_asked (Full limit) new = refl
none_asked Memory new = omega arith

pub asked_nothing : {F : Type 0} (refusal : Refusal) (new : ℕ) (policy : Policy F) →
    Asked (Err refusal) new policy policy
asked_nothing refusal new policy = (0, not_asked policy, none_asked refusal new)

module _ {F : Type 0} (calls : Shared F (Ask × Unit {0}) Bool) (before : Policy F) where
  -- the policy wasn't asked, and the keyring is unchanged
  pub judging_still : (k : Keyring) → IsJudging calls before k → StaysJudging calls before before k
  judging_still k judging = record { judged = judging.judged; faithful = judging.faithful; rows = refl }

  pub judging_at : (old new : Keyring) → new ≡ old → IsJudging calls before old → IsJudging calls before new
  judging_at old new same judging = subst (λ (k : Keyring). IsJudging calls before k) (sym same) judging

  pub judging_kept : (old new : Keyring) → new ≡ old → IsJudging calls before old
      → StaysJudging calls before before new
  judging_kept old new same judging = judging_still new (judging_at old new same judging)

  -- the policy was asked this often
  pub judging_asked : (n : ℕ) (after : Policy F) (k : Keyring) → after ≡ asked_more n before
      → IsJudgedBy (rows_of before) k → IsFaithful calls after → StaysJudging calls before after k
  judging_asked n after k asked judged faithful = record {
    judged = judged;
    faithful = faithful;
    rows = ap (λ (p : Policy F). rows_of p) asked;
  }
