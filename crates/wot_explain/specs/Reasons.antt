-- Why a certification isn't a usable edge at t.
use Rattle.std.specs.Prelude.{ℕ, ◌==◌, Bool, not, nat_lt, if◌then◌else◌, List, [], ◌∷◌, ◌++◌}
use Rattle.std.specs.Prelude.{Option, Some, None, is_some}
use Rattle.std.specs.Map.{lookup}
use Rattle.std.specs.Option.{option_and_then, option_map}
use Rattle.std.specs.Ordering.{is_eq}
use Rattle.wot_types.specs.declared.fpr.Fpr.{Fpr}
use Rattle.wot_types.specs.declared.number.SigNumber.{SigNumber}
use Rattle.wot_verdict.specs.Verdicts.{Entries, verdict_at}
use Rattle.wot_verdict.specs.declared.verdict.Verdict.{Verdict}
use Rattle.wot_component.specs.Certificate.{Signature, Component, Certificate, sig_cmp}
use Rattle.wot_cert.specs.Issuer.{allows, good_by}
use Rattle.wot_component.specs.Judged.{is_sound, is_true_of}
use Rattle.wot_cert.specs.Revoked.{is_unrevoked}
use Rattle.wot_cert.specs.Time.{is_live, made_of}
use Rattle.wot_edge.specs.Path.{step_of}
use Rattle.wot_edge.specs.declared.path.Step.{Step}
use Rattle.wot_keyring_spec.specs.Keyring.{Certificates, Keyring, certificates_in, is_fpr}
use Rattle.wot_live.specs.Edge.{edge_by}
use Rattle.wot_standing.specs.Standing.{newest_certification, standing_of}
use Rattle.wot_standing.specs.Usable.{is_after}
use Rattle.wot_standing.specs.declared.status.Standing.{Standing}
use Rattle.wot_explain.specs.declared.words.Certification.{Certification}
use Rattle.wot_explain.specs.Words.{Word, first_word, is_so}

-- ---- the issuer, by the verdict

-- the standing of a key, if it is kept
abbrev pub standing_by : Entries → Certificates → ℕ → Fpr → Option Standing
standing_by verdicts certs t fpr =
    option_map (λ (c : Certificate). standing_of verdicts c t) (lookup (is_fpr fpr) certs)

-- the standing of the issuer of a good verdict
abbrev pub issuer_standing : Entries → Certificates → ℕ → Option Verdict → Option Standing
issuer_standing verdicts certs t said = option_and_then (standing_by verdicts certs t) (good_by said)

-- It names another issuer.
abbrev pub names_other : Signature → Fpr → Bool
names_other s issuer = is_true_of (λ f. not (allows f.issuer issuer)) s

-- A revocation by this issuer revokes it.
abbrev pub is_revoked_by : Entries → ℕ → Component → Signature → Fpr → Bool
is_revoked_by verdicts t uid s issuer = not (is_unrevoked verdicts issuer t uid.sigs s)

-- The newest of the issuer's certifications on the user ID that count, are live and unrevoked is a different one.
abbrev pub is_older_by : Entries → ℕ → Component → Signature → Fpr → Bool
is_older_by verdicts t uid s issuer =
    not (is_so (λ newest. is_eq (sig_cmp s newest)) (newest_certification verdicts issuer t uid))

-- ---- the table, in four parts

-- by the issuer of the good verdict
abbrev pub counting_words : Signature → Option Fpr → List Word
counting_words s issuer =
    -- its hashed issuer fingerprint isn't the verdict's
    (4, is_so (names_other s) issuer)
    -- the policy doesn't admit it
    ∷ (5, not s.admitted)
    ∷ []

-- by the time
abbrev pub time_words : Entries → ℕ → Component → Signature → Option Fpr → List Word
time_words verdicts t uid s issuer =
    -- it was created after t
    (6, nat_lt t (made_of s))
    -- it expired
    ∷ (7, not (is_live t s))
    -- it is revoked by its issuer
    ∷ (8, is_so (is_revoked_by verdicts t uid s) issuer)
    -- a newer one by its issuer is the edge
    ∷ (9, is_so (is_older_by verdicts t uid s) issuer)
    ∷ []

-- by its creation time and the issuer's standing at t
abbrev pub issuer_words : ℕ → Option Standing → List Word
issuer_words made issuer =
    -- the issuer isn't kept
    (10, not (is_some issuer))
    -- it has no standing
    ∷ (11, is_so (λ i. not i.has) issuer)
    -- it was created after the certification
    ∷ (12, is_so (λ i. nat_lt made i.created) issuer)
    -- it expired then or before
    ∷ (13, is_so (λ i. not (is_after made i.end)) issuer)
    -- it is hard revoked
    ∷ (14, is_so (λ i. i.hard) issuer)
    -- it was soft revoked then or before
    ∷ (15, is_so (λ i. not (is_after made i.soft)) issuer)
    ∷ []

-- if the verdict on it is good by this issuer: the reasons from the time on, and all after the verdict's
abbrev pub counted_words : Keyring → ℕ → Component → Signature → Fpr → List Word
counted_words k t uid s issuer =
    time_words k.verdicts t uid s (Some issuer)
    ++ issuer_words (made_of s) (standing_by k.verdicts (certificates_in k) t issuer)

abbrev pub good_words : Keyring → ℕ → Component → Signature → Fpr → List Word
good_words k t uid s issuer = counting_words s (Some issuer) ++ counted_words k t uid s issuer

-- by the verdict on it, and by the issuer's standing
abbrev pub reason_words : Entries → ℕ → Component → Signature → Option Verdict → Option Standing → List Word
reason_words verdicts t uid s said issuer =
    -- it isn't valid
    (1, not (is_sound s))
    -- it has no verdict
    ∷ (2, not (is_some said))
    -- its verdict is bad
    ∷ (3, not (is_some (good_by said)))
    ∷ counting_words s (good_by said) ++ time_words verdicts t uid s (good_by said) ++ issuer_words (made_of s) issuer

-- the word of a certification on a user ID; 0 means that it is a usable edge
abbrev pub reason_word : Entries → Certificates → ℕ → Component → Signature → ℕ
reason_word verdicts certs t uid s =
    first_word (reason_words verdicts t uid s (verdict_at verdicts s.number)
    (issuer_standing verdicts certs t (verdict_at verdicts s.number)))

-- ---- the reason

-- the step of the edge that it makes, on the user ID at this place
abbrev pub step_by : Entries → Fpr → ℕ → Component → Signature → Option Step
step_by verdicts target place uid s =
    option_map step_of
    (option_and_then (λ issuer. edge_by issuer target place uid.sigs s) (good_by (verdict_at verdicts s.number)))

-- its number, its word and, if that is 0, its step
abbrev pub Reason : Type 0
Reason = SigNumber × ℕ × Option Step

abbrev pub reason_with : Signature → ℕ → Option Step → Reason
reason_with s word step = (s.number, word, if word == 0 then step else None)

abbrev pub reason_of : Entries → Certificates → ℕ → Fpr → ℕ → Component → Signature → Reason
reason_of verdicts certs t target place uid s =
    reason_with s (reason_word verdicts certs t uid s) (step_by verdicts target place uid s)

-- ---- of a certification, with the keyring and the time that it is looked at

abbrev pub word_of : Certification → ℕ
word_of on = reason_word on.keyring.now.verdicts (certificates_in on.keyring.now) on.t on.uid.now on.sig.now

abbrev pub verdict_reason : Certification → Fpr → ℕ → Reason
verdict_reason on target place =
    reason_of on.keyring.now.verdicts (certificates_in on.keyring.now) on.t target place on.uid.now on.sig.now
