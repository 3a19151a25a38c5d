-- On which certificate each signature is, by its number: how a change of a verdict finds the certificate.
use Rattle.std.specs.Prelude.{◌≡◌, ℕ, Bool, true, false, ◌&&◌, ◌||◌, cond, List, Option, None}
use Rattle.std.specs.Option.{option_map_or, MatchOption}
use Rattle.std.specs.List.{list_any}
use Rattle.std.specs.Map.{lookup, set_value}
use Rattle.wot_types.specs.declared.fpr.Fpr.{Fpr}
use Rattle.wot_types.specs.declared.number.SigNumber.{SigNumber}
use Rattle.wot_key.specs.Key.{fpr_of}
use Rattle.wot_verdict.specs.Verdicts.{ByNumber, holder_at, is_number}
use Rattle.wot_component.specs.Certificate.{Certificate}
use Rattle.wot_keyring_spec.specs.declared.kept.Kept.{Kept}
use Rattle.wot_index.specs.declared.index.Index.{Index}
use Rattle.wot_keyring_spec.specs.Keyring.{Entries, is_fpr}
use Rattle.wot_keyring_spec.specs.Verdict.{has_number}

-- ---- what is noted

-- the fingerprint noted for a number
abbrev pub holder_of : ByNumber → SigNumber → Option Fpr
holder_of verdicts n = holder_at verdicts.holders n

-- Both have the same fingerprint for each number.
abbrev pub HoldsSame : ByNumber → ByNumber → Type 0
HoldsSame old new = (n : SigNumber) → holder_of new n ≡ holder_of old n

-- Both have the same verdicts.
abbrev pub SaysSame : ByNumber → ByNumber → Type 0
SaysSame old new = new.entries ≡ old.entries

-- whether it is this fingerprint
abbrev pub is_holder : Option Fpr → Fpr → Bool
is_holder holder fpr = option_map_or (λ (p : Fpr). is_fpr p fpr) holder false

-- whether a number is noted at a fingerprint
abbrev pub is_noted : Index → SigNumber → Fpr → Bool
is_noted i n fpr = is_holder (holder_of i.verdicts n) fpr

-- whether the certificate kept under a fingerprint has a signature of this number
abbrev pub stands_at : Entries → SigNumber → Fpr → Bool
stands_at es n fpr = option_map_or (λ (x : Kept). has_number n x.cert) (lookup (is_fpr fpr) es) false

-- Each signature is noted with the certificate that it is on, and nothing else is noted. Nothing is claimed for an
-- index that isn't exact.
abbrev pub IsIndexOf : Index → Entries → Type 0
IsIndexOf i es = i.exact ≡ true → (n : SigNumber) (fpr : Fpr) → is_noted i n fpr ≡ stands_at es n fpr

-- ---- noting

-- whether the certificate has a signature of this number, and this fingerprint
abbrev pub stands_on : Certificate → SigNumber → Fpr → Bool
stands_on c n fpr = has_number n c && is_fpr (fpr_of c.key) fpr

-- whether one of these certificates has a signature of this number, and this fingerprint
abbrev pub stands_among : List Certificate → SigNumber → Fpr → Bool
stands_among cs n fpr = list_any (λ (c : Certificate). stands_on c n fpr) cs

-- The new index has what the old one has, and these too.
abbrev pub Notes : Index → Index → (SigNumber → Fpr → Bool) → Type 0
Notes old new these =
    new.exact ≡ true → (old.exact ≡ true)
    × ((n : SigNumber) (fpr : Fpr) → is_noted new n fpr ≡ (is_noted old n fpr || these n fpr))

-- Once the rest is noted, the new index has what the old one has, and all of these too.
abbrev pub NotesOn : Index → Index → (SigNumber → Fpr → Bool) → (SigNumber → Fpr → Bool) → Type 0
NotesOn old new rest all =
    new.exact ≡ true → (old.exact ≡ true)
    × ((n : SigNumber) (fpr : Fpr) → (is_noted new n fpr || rest n fpr) ≡ (is_noted old n fpr || all n fpr))

-- Both have the same fingerprint for each number.
abbrev pub NotesNothing : Index → Index → Type 0
NotesNothing old new =
    new.exact ≡ true → (old.exact ≡ true) × HoldsSame old.verdicts new.verdicts

-- ---- removal

-- nothing if the test holds
abbrev pub unless : Bool → Option Fpr → Option Fpr
unless out holder = cond out None holder

abbrev pub is_logged : SigNumber → List SigNumber → Bool
is_logged n log = list_any (is_number n) log

-- what is noted for a number without the logged ones
abbrev pub holder_without : List SigNumber → ByNumber → SigNumber → Option Fpr
holder_without log verdicts n = unless (is_logged n log) (holder_of verdicts n)

-- What was noted for these numbers was removed.
abbrev pub Forgets : ByNumber → ByNumber → (SigNumber → Bool) → Type 0
Forgets old new these = (n : SigNumber) → holder_of new n ≡ unless (these n) (holder_of old n)

-- Removing what the new log lists leaves what removing what the old one lists would have left.
abbrev pub StillLogged : Index → List SigNumber → Index → List SigNumber → Type 0
StillLogged old log new log' =
    new.exact ≡ true → (old.exact ≡ true)
    × ((n : SigNumber) → holder_without log' new.verdicts n ≡ holder_without log old.verdicts n)

-- ---- restamping

-- The certificate of a fingerprint has this stamp now; everything else is unchanged.
abbrev pub RestampsAt : Fpr → ℕ → Entries → Entries → Type 0
RestampsAt fpr stamp old new =
    MatchOption (lookup (is_fpr fpr) old) (new ≡ old)
    (λ (kept : Kept). new ≡ set_value (is_fpr fpr) old (record kept { stamp = stamp }))
