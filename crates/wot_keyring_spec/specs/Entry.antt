-- The one certificate of a directory entry.
use Rattle.std.specs.Prelude.{◌≡◌, ℕ, if◌then◌else◌, List, [], ◌∷◌, Result, Ok, Err}
use Rattle.std.specs.Option.{option_map}
use Rattle.wot_types.specs.declared.name.Name.{Name}
use Rattle.wot_packet.specs.Reading.{packets_of}
use Rattle.wot_cert.specs.declared.assembling.Assembled.{Assembled}
use Rattle.wot_component.specs.Certificate.{Certificate}
use Rattle.wot_cert.specs.Assembly.{certificates_of, skipped_in}
use Rattle.wot_cert.specs.Fault.{first_fault}
use Rattle.wot_keyring_spec.specs.declared.refusal.Refusal.{Refusal}
use Rattle.wot_keyring_spec.specs.declared.refusal.Refusal.TheVariants.{Cert, Misfiled, Memory}
use Rattle.wot_keyring_spec.specs.Import.{◌>>=◌, ◌>>◌, is_entry, packets_or_refusal}

-- certificates, and how many keys next to them were skipped
abbrev pub Parts : Type 0
Parts = List Certificate × ℕ

-- what octets spell, or their first error
abbrev pub parts_in : List ℕ → Result Parts Refusal
parts_in octets = do
  packets ← packets_or_refusal (packets_of octets)
  option_map Cert (first_fault packets)
  Ok (certificates_of packets, skipped_in packets)

-- the only one of these certificates, if it is what the entry of this name may hold
abbrev pub the_one : Name → List Certificate → ℕ → Result Certificate Refusal
the_one name [] skipped = Err Misfiled
the_one name (c ∷ cs) skipped = if is_entry name (c ∷ cs) skipped then Ok c else Err Misfiled

-- the certificate of an entry with these octets, or the first refusal
abbrev pub entry_in : Name → List ℕ → Result Certificate Refusal
entry_in name octets = parts_in octets >>= (λ parts. the_one name parts.0 parts.1)

-- The result is this certificate or this refusal, or "out of memory".
abbrev pub TellsEntry : Result Certificate Refusal → Name → List ℕ → Type 0
TellsEntry (Ok c) name octets = entry_in name octets ≡ Ok c
TellsEntry (Err Memory) name octets = Unit {0}
TellsEntry (Err refusal) name octets = entry_in name octets ≡ Err refusal

-- The result is what the octets spell or this refusal, or "out of memory".
abbrev pub TellsParts : Result Assembled Refusal → List ℕ → Type 0
TellsParts (Ok read) octets = parts_in octets ≡ Ok (read.certs, read.skipped)
TellsParts (Err Memory) octets = Unit {0}
TellsParts (Err refusal) octets = parts_in octets ≡ Err refusal
