-- How many octets the lines of a dump have in all.
use Rattle.std.proofs.Common.{◌≡◌, ℕ, ◌+◌, ◌*◌, ◌≤◌, List, [], ◌∷◌, ◌++◌, length, map, refl, arith, length-append}
use Rattle.std.proofs.lemmas.List.{length-map}
use Rattle.wot_types.specs.declared.fpr.Fpr.{Fpr}
use Rattle.wot_types.specs.declared.number.SigNumber.{SigNumber}
use Rattle.wot_fields.specs.StateLine.{most_octets, spelling}
use Rattle.wot_fields.specs.declared.state_line.StateLine.{StateLine}
use Rattle.wot_verdict.specs.declared.verdict.Verdict.{Verdict}
use Rattle.wot_verdict.specs.declared.verdict.Verdict.TheVariants.{Good, Bad}
use Rattle.wot_component.specs.Certificate.{Certificate}
use Rattle.wot_component.specs.Counts.{sum_of}
use Rattle.wot_component.specs.Text.{size_of}
use Rattle.wot_keyring_spec.specs.declared.kept.Kept.{Kept}
use Rattle.wot_keyring_spec.specs.Keyring.{Certificates, Keyring, certificates_in}
use Rattle.wot_keyring_spec.specs.Held.{held_of}
use Rattle.wot_keyring_spec.specs.Import.{weigh}
use Rattle.wot_keyring_spec.specs.Kept.{IsKeyring}
use Rattle.wot_keyring.specs.Dump.{AreLines, command_line_of, commands_of, import_of, lines_of, most_dumped, setting}
use Rattle.wot_keyring.specs.Dump.{setting_of}

-- the longest line of a command, with its line feed
abbrev line_most : StateLine → ℕ
line_most c = most_octets c + 1

abbrev lines_most : List StateLine → ℕ
lines_most commands = sum_of line_most commands

lines_fit : (commands : List StateLine) → AreLines commands → length (lines_of commands) ≤ lines_most commands
lines_fit [] lines = omega arith
lines_fit (c ∷ commands) lines =
    omega (
      arith,
      length-append (command_line_of c) (lines_of commands),
      length-append (spelling c) (10 ∷ []),
      lines.0.fits,
      lines_fit commands lines.1,
    )

most-append : (first last : List StateLine) → lines_most (first ++ last) ≡ lines_most first + lines_most last
most-append [] last = omega arith
most-append (c ∷ first) last = omega (arith, most-append first last)

imports_most : (certs : Certificates) → lines_most (map import_of certs) ≡ 8 * length certs + 2 * weigh size_of certs
imports_most [] = refl
imports_most (e ∷ certs) = omega (arith, imports_most certs)

setting_most : (number : SigNumber) (verdict : Verdict) → line_most (setting number verdict) ≤ 143
setting_most number (Good fpr) = omega arith
setting_most number Bad = omega arith

settings_most : (verdicts : List (SigNumber × Verdict)) → lines_most (map setting_of verdicts) ≤ 143 * length verdicts
settings_most [] = omega arith
settings_most (e ∷ verdicts) = omega (arith, setting_most e.0 e.1, settings_most verdicts)

-- a certificate without its stamp
abbrev bare : Fpr × Kept → Fpr × Certificate
bare e = (e.0, e.1.cert)

pub dump_fits : (k : Keyring) → IsKeyring k → AreLines (commands_of (held_of k))
    → length (lines_of (commands_of (held_of k))) ≤ most_dumped k.limits
dump_fits k is lines =
    let in_all = lines_fit (commands_of (held_of k)) lines in
    let split = most-append (map import_of (certificates_in k)) (map setting_of k.verdicts) in
    let certs = imports_most (certificates_in k) in
    let as_many : length (certificates_in k) ≡ length k.certs = length-map k.certs bare in
    let verdicts = settings_most k.verdicts in
    omega (arith, in_all, split, certs, as_many, verdicts, is.within.certificates, is.within.octets, is.within.verdicts)
