-- Commands that are appended step by step.
use Rattle.std.proofs.Common.{◌≡◌, ℕ, ◌+◌, ◌/◌, ◌<◌, List, [], ◌∷◌, ◌++◌, map, length, get_or, refl, sym, ap, ◌∙◌}
use Rattle.std.proofs.Common.{append_assoc, codes}
use Rattle.std.specs.List.{flat_map}
use Rattle.std.proofs.lemmas.Option.{slice_get_read}
use Rattle.wot_script.specs.declared.command.Command.{Command}
use Rattle.wot_script.specs.declared.command.Command.TheVariants.{Import, Good, Time, Root}
use Rattle.wot_random.specs.Identities.{AreIdentities, IsIdentity, direct_number_at, fpr_at, packets_at}
use Rattle.wot_gen.specs.Script.{below, certificate_commands, view_commands}
use Rattle.wot_random.specs.declared.certification.Certification.{Certification}
use Rattle.wot_random.specs.declared.identity.Identity.{Identity}
use Rattle.wot_gen.proofs.Below.{below_more}

-- the commands of one more step
pub step_more : (step : ℕ → List Command) (n : ℕ) (before now next : List Command)
    → now ≡ before ++ below n step → next ≡ now ++ step n → next ≡ before ++ below (n + 1) step
step_more step n before now next so_far more =
    more
    ∙ ap (λ commands. commands ++ step n) so_far
    ∙ append_assoc before (below n step) (step n)
    ∙ ap (λ commands. before ++ commands) (sym (below_more step n))

-- what is read at an index
pub identity_read : (start count : ℕ) (identities : List Identity) (index : ℕ) (identity : Identity)
    → AreIdentities start count identities → index < length identities → identity ≡ get_or identities index identity
    → IsIdentity start index identity
identity_read start count identities index identity all within read =
    all.each index identity (slice_get_read identities (length identities) index identity refl within read)

one_by_one : (before more : List Command) (first second : Command)
    → ((before ++ first ∷ []) ++ second ∷ []) ++ more ≡ before ++ first ∷ second ∷ more
one_by_one before more first second = simp append_assoc

-- a certificate and its verdicts
pub certificate_put : (start index : ℕ) (identity : Identity) (made : List Certification) (before now : List Command)
    → IsIdentity start index identity
    → now ≡ ((before ++ Import (identity.packets ++ flat_map (λ (one : Certification). one.packet) made) ∷ [])
    ++ Good identity.direct identity.fpr ∷ []) ++ map (λ (one : Certification). Good one.number one.issuer) made
    → now ≡ before ++ certificate_commands start index made
unfolding certificate_commands
certificate_put start index identity made before now is e =
    let packets = flat_map (λ (one : Certification). one.packet) made in
    let verdicts = map (λ (one : Certification). Good one.number one.issuer) made in
    e
    ∙ one_by_one before verdicts (Import (identity.packets ++ packets)) (Good identity.direct identity.fpr)
    ∙ ap (λ own. before ++ Import (own ++ packets) ∷ Good identity.direct identity.fpr ∷ verdicts) is.packets
    ∙ ap (λ number. before ++ Import (packets_at start index ++ packets) ∷ Good number identity.fpr ∷ verdicts)
    is.direct
    ∙ ap (λ fpr. before ++ Import (packets_at start index ++ packets) ∷ Good (direct_number_at start index)
    fpr ∷ verdicts) is.fpr

in_three : (before : List Command) (a b c d e : Command)
    → ((before ++ a ∷ b ∷ []) ++ c ∷ d ∷ []) ++ e ∷ [] ≡ before ++ a ∷ b ∷ c ∷ d ∷ e ∷ []
in_three before a b c d e = simp append_assoc

-- both views
pub views_put : (start count : ℕ) (first middle : Identity) (before now : List Command)
    → IsIdentity start 0 first → IsIdentity start (count / 2) middle
    → now ≡ ((before ++ Time (codes "a") 1200000000 ∷ Root (codes "a") first.fpr 120 ∷ [])
    ++ Time (codes "b") 1200000000 ∷ Root (codes "b") first.fpr 60 ∷ []) ++ Root (codes "b") middle.fpr 60 ∷ []
    → now ≡ before ++ view_commands start count
unfolding view_commands
views_put start count first middle before now one half e =
    let a = codes "a" in
    let b = codes "b" in
    e
    ∙ in_three before (Time a 1200000000) (Root a first.fpr 120) (Time b 1200000000) (Root b first.fpr 60)
    (Root b middle.fpr 60)
    ∙ ap (λ fpr. before ++ Time a 1200000000 ∷ Root a fpr 120 ∷ Time b 1200000000 ∷ Root b fpr 60 ∷ Root b middle.fpr
    60 ∷ []) one.fpr
    ∙ ap (λ fpr. before ++ Time a 1200000000 ∷ Root a (fpr_at start 0) 120 ∷ Time b 1200000000 ∷ Root b (fpr_at start 0)
    60 ∷ Root b fpr 60 ∷ []) half.fpr
