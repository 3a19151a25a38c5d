-- The parts of an import: reading, trying, and doing.
use Rattle.std.specs.Prelude.{◌≡◌, ◌⊎◌, ℕ, ◌-◌, false, List, map, Option, Some, None, Result, Ok, Err}
use Rattle.std.specs.List.{AllByRecursion}
use Rattle.wot_types.specs.declared.fpr.Fpr.{Fpr}
use Rattle.wot_types.specs.declared.limits.Limits.{Limits}
use Rattle.wot_types.specs.declared.limits.Limit.{Limit}
use Rattle.wot_policy.specs.declared.rows.PolicyRows.{PolicyRows}
use Rattle.wot_cert.specs.declared.assembling.Assembled.{Assembled}
use Rattle.wot_component.specs.Certificate.{Certificate}
use Rattle.wot_component.specs.Judged.{sound_of}
use Rattle.wot_component.specs.Whole.{IsCertificate}
use Rattle.wot_keyring_spec.specs.declared.imported.Imported.{Imported}
use Rattle.wot_keyring_spec.specs.declared.refusal.Refusal.{Refusal}
use Rattle.wot_keyring_spec.specs.declared.refusal.Refusal.TheVariants.{Memory}
use Rattle.wot_keyring_spec.specs.Keyring.{Certificates, Keyring, certificates_in}
use Rattle.wot_keyring_spec.specs.Import.{weigh, with_certs, any_clash, first_full, spelled_in, Demand, answer_united}
use Rattle.wot_keyring_spec.specs.Import.{answer_meeting, answer_under}

-- ---- reading

-- These are the certificates that the octets spell.
pub record IsRead (octets : List ℕ) (read : Assembled) : Type 0 where
  pub spelled : read.certs ≡ spelled_in octets
  pub whole : AllByRecursion IsCertificate read.certs
  pub answer : (demand : Demand) (rows : PolicyRows) (limits : Limits) (certs : Certificates)
      → answer_under demand rows limits certs octets ≡ answer_meeting demand rows limits certs read.certs read.skipped

-- The octets are refused with this, whatever is kept and demanded.
abbrev pub IsRefused : Refusal → List ℕ → Type 0
IsRefused refusal octets =
    (demand : Demand) (rows : PolicyRows) (limits : Limits) (certs : Certificates)
    → answer_under demand rows limits certs octets ≡ Err refusal

-- What was read, or why it was refused; nothing is claimed on "out of memory".
abbrev pub TellsRead : Result Assembled Refusal → List ℕ → Type 0
TellsRead (Ok read) octets = IsRead octets read
TellsRead (Err Memory) octets = Unit {0}
TellsRead (Err refusal) octets = IsRefused refusal octets

-- ---- trying

-- the certificates without their fingerprints
abbrev pub alone : Certificates → List Certificate
alone certs = map (λ (e : Fpr × Certificate). e.1) certs

-- No two clash and no limit is exceeded, whatever the policy rows.
pub record MayUnite (limits : Limits) (certs : Certificates) (cs : List Certificate) : Type 0 where
  pub clash : any_clash (alone certs) cs ≡ false
  pub full : (rows : PolicyRows) → first_full limits (with_certs rows certs cs) ≡ None

-- Whether these certificates may be merged with the kept ones, or why not; nothing is claimed on "out of memory".
abbrev pub TellsUnion : Option Refusal → Limits → Certificates → List Certificate → Type 0
TellsUnion None limits certs cs = MayUnite limits certs cs
TellsUnion (Some Memory) limits certs cs = Unit {0}
TellsUnion (Some refusal) limits certs cs =
    (rows : PolicyRows) (skipped : ℕ) → answer_united rows limits certs cs skipped ≡ Err refusal

-- This is the first limit that the kept certificates exceed with these merged in, whatever the policy rows.
abbrev pub IsFirstFull : Limits → Certificates → List Certificate → Option Limit → Type 0
IsFirstFull limits certs cs full = (rows : PolicyRows) → full ≡ first_full limits (with_certs rows certs cs)

-- ---- doing

-- That is the answer, or "out of memory".
abbrev pub AnswersUnited : Result Imported Refusal → PolicyRows → Keyring → List Certificate → ℕ → Type 0
AnswersUnited result rows old cs skipped =
    (result ≡ answer_united rows old.limits (certificates_in old) cs skipped) ⊎ (result ≡ Err Memory)

-- how often the policy is asked about them: once for each well-formed signature that is new
abbrev pub asked_for : PolicyRows → Keyring → List Certificate → ℕ
asked_for rows old cs = weigh sound_of (with_certs rows (certificates_in old) cs) - weigh sound_of (certificates_in old)
