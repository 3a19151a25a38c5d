-- Revocation of certifications and direct key signatures.
use Rattle.std.specs.Prelude.{ℕ, Bool, not, ◌&&◌, ◌||◌, ◌==◌, nat_lt, List}
use Rattle.std.specs.List.{list_all}
use Rattle.wot_types.specs.declared.fpr.Fpr.{Fpr}
use Rattle.wot_verdict.specs.Verdicts.{Entries}
use Rattle.wot_component.specs.Certificate.{Signature}
use Rattle.wot_component.specs.Judged.{is_true_of}
use Rattle.wot_cert.specs.Issuer.{counts_by}
use Rattle.wot_cert.specs.Time.{made_of, is_live}

abbrev pub has_kind : ℕ → Signature → Bool
has_kind kind s = is_true_of (λ f. f.kind == kind) s

abbrev pub is_revocable : Signature → Bool
is_revocable s = is_true_of (λ f. f.revocable) s

-- a live revocation (type 0x30) that counts as this key's
abbrev pub revokes_by : Entries → Fpr → ℕ → Signature → Bool
revokes_by verdicts fpr t r = has_kind 48 r && (counts_by verdicts fpr r && is_live t r)

-- Each live revocation by this key on the same component was created before the signature, or the signature isn't
-- revocable.
abbrev pub is_unrevoked : Entries → Fpr → ℕ → List Signature → Signature → Bool
is_unrevoked verdicts fpr t sigs s =
    not (is_revocable s) || list_all (λ r. not (revokes_by verdicts fpr t r) || nat_lt (made_of r) (made_of s)) sigs
