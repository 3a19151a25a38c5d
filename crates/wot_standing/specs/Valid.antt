-- Signatures on one component that are valid at a time, and the newest of them.
use Rattle.std.specs.Prelude.{ℕ, Bool, ◌&&◌, List, filter, Option}
use Rattle.wot_types.specs.declared.fpr.Fpr.{Fpr}
use Rattle.wot_verdict.specs.Verdicts.{Entries}
use Rattle.wot_component.specs.Certificate.{Signature}
use Rattle.wot_cert.specs.Issuer.{counts_by}
use Rattle.wot_component.specs.Ranked.{greatest}
use Rattle.wot_cert.specs.Revoked.{is_unrevoked}
use Rattle.wot_cert.specs.Time.{is_live, newness}
use Rattle.wot_standing.specs.declared.kinds.Binding.{Binding}
use Rattle.wot_standing.specs.Kinds.{is_binding}

-- It is of this type, counts as this key's, is live at t, and isn't revoked on its component.
abbrev pub is_valid : Entries → Fpr → ℕ → Binding → List Signature → Signature → Bool
is_valid verdicts fpr t binding sigs s =
    is_binding binding s && (counts_by verdicts fpr s && (is_live t s && is_unrevoked verdicts fpr t sigs s))

-- the newest of the valid ones
abbrev pub newest_valid : Entries → Fpr → ℕ → Binding → List Signature → Option Signature
newest_valid verdicts fpr t binding sigs = greatest newness (filter (is_valid verdicts fpr t binding sigs) sigs)
