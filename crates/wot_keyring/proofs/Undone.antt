-- A merge that ran out of memory leaves the keyring as it was.
use Rattle.std.proofs.Common.{◌≡◌, ℕ, ◌+◌, ◌≤◌, Option, refl, sym, ap, ◌∙◌, subst, arith}
use Rattle.wot_types.specs.declared.fpr.Fpr.{Fpr}
use Rattle.wot_types.specs.declared.limits.Limits.{Limits}
use Rattle.wot_verdict.specs.Verdicts as verdicts
use Rattle.wot_merge.specs.declared.tally.Weight.{Weight}
use Rattle.wot_merge.specs.Staging.{IsTally}
use Rattle.wot_index.specs.declared.index.Index.{Index}
use Rattle.wot_index.specs.declared.log.Log.{Log}
use Rattle.wot_index.specs.Index.{is_holder, stands_at, NotesNothing}
use Rattle.wot_index.specs.Log.{IsLogOf}
use Rattle.wot_index.proofs.Logged.{logged_again}
use Rattle.wot_keyring_spec.specs.Keyring.{Entries, Keyring, of_parts}
use Rattle.wot_keyring_spec.specs.Kept.{IsKeyring, AreTotals}
use Rattle.wot_keyring.specs.Parts.{HoldTogether}

module _ (limits : Limits) (es : Entries) (said : verdicts.Entries) (changes : ℕ) where
  pub same_parts : (es' : Entries) (said' : verdicts.Entries) (now : Keyring) → of_parts limits es said changes ≡ now
      → es' ≡ es → said' ≡ said → of_parts limits es' said' changes ≡ now
  same_parts es' said' now v same told = rw (same, told) v

  pub together_still : (octets signatures : ℕ) (index : Index) (log : Log) (es' : Entries) (said' : verdicts.Entries)
      (index' : Index) (mid log' : Log)
      → HoldTogether (of_parts limits es said changes) octets signatures index log → es' ≡ es → said' ≡ said
      → NotesNothing index index' → mid.from ≡ log.from → mid.entries.items ≡ log.entries.items → log' ≡ mid
      → HoldTogether (of_parts limits es' said' changes) octets signatures index' log'
  together_still octets signatures index log es' said' index' mid log' h same told nothing from entries logged =
      let back : of_parts limits es' said' changes ≡ of_parts limits es said changes =
      same_parts es' said' (of_parts limits es said changes) refl same told in (
        subst IsKeyring (sym back) h.0,
        subst (λ (k : Keyring). AreTotals k octets signatures) (sym back) h.1,
        λ exact n fpr.
            let step = nothing exact in
            ap (λ (holder : Option Fpr). is_holder holder fpr) (step.1 n) ∙ h.2 step.0 n fpr
            ∙ ap (λ (xs : Entries). stands_at xs n fpr) (sym same),
        subst (λ (l : Log). IsLogOf l es' changes) (sym logged)
            (subst (λ (xs : Entries). IsLogOf mid xs changes) (sym same)
            (logged_again log mid es changes from entries h.3)),
      )

  -- What the merge starts from, in the shape that the code has it.
  pub tally_now : (now : Keyring) (limit : ℕ) (total : Weight) → of_parts limits es said changes ≡ now
      → limit ≡ now.limits.certificate → IsTally now.limits.certificate now.certs total → IsTally limit es total
  tally_now now limit total v is tally =
      subst (λ l. IsTally l es total) (sym is)
      (subst (λ (k : Keyring). IsTally now.limits.certificate k.certs total) (sym v) tally)

  pub from_now : (now : Keyring) (from mid stamp : ℕ) → of_parts limits es said changes ≡ now
      → stamp ≡ now.changes + 1 → mid ≡ from → from ≤ changes → mid ≤ stamp
  from_now now from mid stamp v is same past =
      let count : changes ≡ now.changes = ap (λ (k : Keyring). k.changes) v in
      omega arith
