-- Whose a signature is, and whether it counts.
use Rattle.std.specs.Prelude.{Bool, true, false, ◌&&◌, if◌then◌else◌, Option, Some, None}
use Rattle.std.specs.Option.{option_map_or}
use Rattle.wot_types.specs.declared.fpr.Fpr.{Fpr}
use Rattle.wot_types.specs.Fpr.{same_fpr}
use Rattle.wot_signature.specs.declared.facts.SigFacts.{SigFacts}
use Rattle.wot_verdict.specs.declared.verdict.Verdict.{Verdict}
use Rattle.wot_verdict.specs.declared.verdict.Verdict.TheVariants.{Good}
use Rattle.wot_verdict.specs.Verdicts.{Entries, verdict_at}
use Rattle.wot_component.specs.Certificate.{Signature, said_by}

-- the key with which a verdict is good
abbrev pub good_by : Option Verdict → Option Fpr
good_by (Some (Good fpr)) = Some fpr
good_by _ = None

-- No other one is named as the issuer.
abbrev pub allows : Option Fpr → Fpr → Bool
allows None fpr = true
allows (Some issuer) fpr = same_fpr issuer fpr

abbrev pub issuer_with : Option SigFacts → Bool → Option Fpr → Option Fpr
issuer_with (Some facts) true (Some fpr) = if facts.sound && allows facts.issuer fpr then Some fpr else None
issuer_with _ _ _ = None

-- It can be parsed and is well-formed, and the policy admitted it.
abbrev pub may_count : Signature → Bool
may_count s = option_map_or (λ f. f.sound) (said_by s) false && s.admitted

-- The key whose signature this counts as: it can be parsed and is well-formed, its verdict is good with that key, its
-- hashed issuer fingerprint is absent or that key's, and the policy admitted it.
abbrev pub issuer_of : Entries → Signature → Option Fpr
issuer_of verdicts s = issuer_with (said_by s) s.admitted (good_by (verdict_at verdicts s.number))

-- whether it counts as a signature by this key
abbrev pub counts_by : Entries → Fpr → Signature → Bool
counts_by verdicts fpr s = option_map_or (same_fpr fpr) (issuer_of verdicts s) false
