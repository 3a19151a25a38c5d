-- Signatures, marked by the rows of a policy.
use Rattle.std.specs.Prelude.{◌≡◌, ℕ, Bool, true, false, ◌&&◌, if◌then◌else◌}
use Rattle.std.specs.Option.{option_map_or}
use Rattle.std.specs.List.{AllByRecursion}
use Rattle.wot_policy.specs.declared.rows.Ask.{Ask}
use Rattle.wot_policy.specs.declared.rows.PolicyRows.{PolicyRows}
use Rattle.wot_policy.specs.Admits.{admits}
use Rattle.wot_signature.specs.declared.facts.SigFacts.{SigFacts}
use Rattle.wot_component.specs.Certificate.{Signature, Component, Certificate, said_by, with_each}
use Rattle.wot_component.specs.Counts.{weight_of}

-- whether a signature can be parsed and this is true of it
abbrev pub is_true_of : (SigFacts → Bool) → Signature → Bool
is_true_of test s = option_map_or test (said_by s) false

abbrev pub is_sound : Signature → Bool
is_sound s = is_true_of (λ f. f.sound) s

-- what the policy is asked of a signature
abbrev pub ask_of : SigFacts → Ask
ask_of f = record { kind = f.kind; hash = f.hash; made = f.made }

-- whether a signature is well-formed and the rows admit it
abbrev pub is_admitted_by : PolicyRows → Signature → Bool
is_admitted_by rows s = is_true_of (λ f. f.sound && admits rows (ask_of f)) s

-- the signature with the mark that the rows give it
abbrev pub judged_sig : PolicyRows → Signature → Signature
judged_sig rows s = record { body = s.body; number = s.number; admitted = is_admitted_by rows s }

abbrev pub judged : PolicyRows → Certificate → Certificate
judged rows c = with_each (judged_sig rows) c

-- A well-formed signature is admitted if and only if the rows say so.
abbrev pub IsJudgedSig : PolicyRows → Signature → Type 0
IsJudgedSig rows s = is_sound s ≡ true → s.admitted ≡ is_admitted_by rows s

abbrev pub IsJudgedPart : PolicyRows → Component → Type 0
IsJudgedPart rows p = AllByRecursion (IsJudgedSig rows) p.sigs

pub record IsJudged (rows : PolicyRows) (c : Certificate) : Type 0 where
  pub direct : AllByRecursion (IsJudgedSig rows) c.direct
  pub user_ids : AllByRecursion (IsJudgedPart rows) c.user_ids
  pub attributes : AllByRecursion (IsJudgedPart rows) c.attributes
  pub subkeys : AllByRecursion (IsJudgedPart rows) c.subkeys

-- 1 if a signature is well-formed
abbrev pub if_sound : Signature → ℕ
if_sound s = if is_sound s then 1 else 0

-- how many signatures are well-formed
abbrev pub sound_of : Certificate → ℕ
sound_of c = weight_of if_sound (λ _. 0) c
