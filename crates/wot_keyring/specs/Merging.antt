-- What a merge of certificates that were read returns.
use Rattle.std.specs.Prelude.{◌≡◌, ◌⊎◌, ℕ, List, Result, Ok, Err}
use Rattle.wot_policy.specs.declared.rows.PolicyRows.{PolicyRows}
use Rattle.wot_component.specs.Certificate.{Certificate}
use Rattle.wot_keyring_spec.specs.declared.imported.Imported.{Imported}
use Rattle.wot_keyring_spec.specs.declared.refusal.Refusal.{Refusal}
use Rattle.wot_keyring_spec.specs.declared.refusal.Refusal.TheVariants as refusals
use Rattle.wot_keyring_spec.specs.Import.{answer_united}
use Rattle.wot_keyring_spec.specs.Keyring.{Keyring, certificates_in}
use Rattle.wot_merge.specs.declared.staging.Fault.{Fault}
use Rattle.wot_merge.specs.declared.staging.Fault.TheVariants.{Clash, Memory}

-- the refusal for a fault
abbrev pub refused : Fault → Refusal
refused Clash = refusals.Clash
refused Memory = refusals.Memory

-- with this number of certificates read
abbrev pub counted_as : ℕ → Result Imported Refusal → Result Imported Refusal
counted_as taken (Ok done) = Ok (record { taken = taken; skipped = done.skipped; fresh = done.fresh })
counted_as taken (Err refusal) = Err refusal

-- That is the answer with this number of certificates read, or "out of memory".
abbrev pub AnswersCounting : ℕ → Result Imported Refusal → PolicyRows → Keyring → List Certificate → ℕ → Type 0
AnswersCounting taken result rows old cs skipped =
    (result ≡ counted_as taken (answer_united rows old.limits (certificates_in old) cs skipped))
    ⊎ (result ≡ Err refusals.Memory)
