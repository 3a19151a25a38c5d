-- What an import of octets replies and does: each certificate in them is merged with the kept one, all or none. Loading
-- a directory entry is an import with a demand on the certificates.
use Rattle.std.specs.Prelude.{◌≡◌, ◌≢◌, ◌<◌, ◌≤◌, ◌⊎◌, ℕ, ◌+◌, ◌-◌, Bool, true, false, not, ◌&&◌, ◌||◌, nat_eq, nat_lt}
use Rattle.std.specs.Prelude.{if◌then◌else◌, List, [], ◌∷◌, map, length, Option, Some, None, Result, Ok, Err}
use Rattle.std.specs.List.{list_any}
use Rattle.std.specs.Option.{option_map}
use Rattle.std.specs.Cmp.Lexicographic.{pointwise}
use Rattle.std.specs.BTreeMap.{insert_entry}
use Rattle.std.specs.Map.{lookup}
use Rattle.wot_types.specs.declared.fpr.Fpr.{Fpr}
use Rattle.wot_types.specs.declared.limits.Limits.{Limits}
use Rattle.wot_types.specs.declared.limits.Limit.{Limit}
use Rattle.wot_types.specs.declared.limits.Limit.TheVariants as limits
use Rattle.wot_types.specs.declared.name.Name.{Name}
use Rattle.wot_types.specs.declared.name.Name.TheVariants as names
use Rattle.wot_types.specs.Fpr.{fpr_cmp}
use Rattle.wot_key.specs.Key.{fpr_of}
use Rattle.wot_packet.specs.declared.packet.PacketFault.{PacketFault}
use Rattle.wot_packet.specs.Spelling.{Spelled}
use Rattle.wot_packet.specs.Reading.{packets_of}
use Rattle.wot_policy.specs.declared.policy.Policy.{Policy}
use Rattle.wot_policy.specs.declared.rows.PolicyRows.{PolicyRows}
use Rattle.wot_policy.specs.Kept.{asked_more, rows_of}
use Rattle.wot_component.specs.Certificate.{Certificate, unite}
use Rattle.wot_component.specs.Asking.{Asks}
use Rattle.wot_cert.specs.Assembly.{certificates_of, skipped_in}
use Rattle.wot_component.specs.Counts.{sum_of, items_of, signatures_of}
use Rattle.wot_cert.specs.Fault.{first_fault}
use Rattle.wot_component.specs.Judged.{judged, sound_of}
use Rattle.wot_component.specs.Text.{size_of}
use Rattle.wot_keyring_spec.specs.declared.imported.Imported.{Imported}
use Rattle.wot_keyring_spec.specs.declared.kept.Kept.{Kept}
use Rattle.wot_keyring_spec.specs.declared.refusal.Refusal.{Refusal}
use Rattle.wot_keyring_spec.specs.declared.refusal.Refusal.TheVariants.{Packet, Cert, Misfiled, Clash, Full, Memory}
use Rattle.wot_keyring_spec.specs.Keyring.{Keyring, Certificates, is_fpr, kept_at, certificates_in}
use Rattle.wot_keyring_spec.specs.Held.{Held, held_of}
use Rattle.wot_keyring_spec.specs.Later.{IsLater}

-- ---- the merge

abbrev pub merged_into : Option Certificate → Certificate → Certificate
merged_into (Some kept) c = unite kept c
merged_into None c = c

-- the certificates with this one, marked by the rows and merged with the one of its fingerprint
abbrev pub with_cert : PolicyRows → Certificates → Certificate → Certificates
with_cert rows certs c =
    insert_entry fpr_cmp certs (fpr_of c.key) (merged_into (lookup (is_fpr (fpr_of c.key)) certs) (judged rows c))

-- the certificates with each of these merged in, the first one first
abbrev pub with_certs : PolicyRows → Certificates → List Certificate → Certificates
with_certs rows certs [] = certs
with_certs rows certs (c ∷ cs) = with_certs rows (with_cert rows certs c) cs

-- ---- clashes

-- One fingerprint, two keys.
abbrev pub clash : Certificate → Certificate → Bool
clash c other = is_fpr (fpr_of c.key) (fpr_of other.key) && not (pointwise nat_eq c.key other.key)

-- whether one of these clashes with a certificate that is there or with one before it
abbrev pub any_clash : List Certificate → List Certificate → Bool
any_clash earlier [] = false
any_clash earlier (c ∷ cs) = list_any (clash c) earlier || any_clash (c ∷ earlier) cs

-- ---- limits

-- the sum of a measure over all certificates
abbrev pub weigh : (Certificate → ℕ) → Certificates → ℕ
weigh weight certs = sum_of (λ (e : Fpr × Certificate). weight e.1) certs

-- whether one of the certificates exceeds the limit
abbrev pub has_greater : ℕ → Certificates → Bool
has_greater limit certs = list_any (λ (e : Fpr × Certificate). nat_lt limit (size_of e.1)) certs

-- the first limit that these certificates exceed
abbrev pub first_full : Limits → Certificates → Option Limit
first_full l certs =
    if has_greater l.certificate certs then Some limits.Certificate
    else if nat_lt l.certificates (length certs) then Some limits.Certificates
    else if nat_lt l.octets (weigh size_of certs) then Some limits.Octets
    else if nat_lt l.signatures (weigh signatures_of certs) then Some limits.Signatures
    else None

-- ---- stamps

-- the stamp of a certificate: the new one if it wasn't kept or has something new, else the one it had
abbrev pub stamp_for : ℕ → Option Kept → Certificate → ℕ
stamp_for stamp None c = stamp
stamp_for stamp (Some old) c = if nat_lt (items_of old.cert) (items_of c) then stamp else old.stamp

abbrev pub stamped : Keyring → Fpr × Certificate → Fpr × Kept
stamped old e = (e.0, record { cert = e.1; stamp = stamp_for (old.changes + 1) (kept_at old e.0) e.1 })

-- how many keys, components and signatures the first list of certificates lacks
abbrev pub fresh_in : Certificates → Certificates → ℕ
fresh_in old certs = weigh items_of certs - weigh items_of old

-- the keyring with these certificates, given whether anything was added
abbrev pub holding : Keyring → Certificates → Keyring
holding old certs = record {
  limits = old.limits;
  certs = map (stamped old) certs;
  verdicts = old.verdicts;
  changes = if nat_lt 0 (fresh_in (certificates_in old) certs) then old.changes + 1 else old.changes;
}

-- the keyring with these certificates merged in
abbrev pub with_united : PolicyRows → Keyring → List Certificate → Keyring
with_united rows old cs = holding old (with_certs rows (certificates_in old) cs)

-- ---- the whole

abbrev pub of_packets : Result (List Spelled) PacketFault → List Certificate
of_packets (Ok packets) = certificates_of packets
of_packets (Err fault) = []

-- the certificates that the octets spell
abbrev pub spelled_in : List ℕ → List Certificate
spelled_in octets = of_packets (packets_of octets)

-- these certificates with those that the octets spell merged in
abbrev pub united_in : PolicyRows → Certificates → List ℕ → Certificates
united_in rows certs octets = with_certs rows certs (spelled_in octets)

-- what is held, with all certificates that the octets spell merged in
abbrev pub importing : PolicyRows → List ℕ → Held → Held
importing rows octets held = record held { certs = united_in rows held.certs octets }

-- the keyring after the import
abbrev pub imported : PolicyRows → Keyring → List ℕ → Keyring
imported rows old octets = holding old (united_in rows (certificates_in old) octets)

-- how often the policy is asked: once for each well-formed signature that is new
abbrev pub asked_in : PolicyRows → Certificates → List ℕ → ℕ
asked_in rows certs octets = weigh sound_of (united_in rows certs octets) - weigh sound_of certs

-- ---- what is demanded of the certificates that were read

-- whether these certificates are accepted, given how many keys were skipped
abbrev pub Demand : Type 0
Demand = List Certificate → ℕ → Bool

-- An import demands nothing.
abbrev pub any : Demand
any cs skipped = true

-- whether a directory entry of this name may hold the certificate
abbrev pub stands_under : Name → Certificate → Bool
stands_under (names.Cert fpr) c = is_fpr fpr (fpr_of c.key)
stands_under names.TrustRoot c = true

-- A directory entry is one certificate, the one of its name, and no key was skipped.
abbrev pub is_entry : Name → Demand
is_entry name (c ∷ []) skipped = nat_eq skipped 0 && stands_under name c
is_entry name cs skipped = false

-- ---- the answer

-- a first part, and a second one that uses its result
infixl 10 ◌>>=◌
abbrev pub ◌>>=◌ : {A B : Type 0} → Result A Refusal → (A → Result B Refusal) → Result B Refusal
Ok x >>= f = f x
Err refusal >>= f = Err refusal

-- the refusal, if there is one, and else the answer
infixl 10 ◌>>◌
abbrev pub ◌>>◌ : {A : Type 0} → Option Refusal → Result A Refusal → Result A Refusal
Some refusal >> answer = Err refusal
None >> answer = answer

abbrev pub refuse_if : Bool → Refusal → Option Refusal
refuse_if test refusal = if test then Some refusal else None

-- These certificates are merged with the kept ones, with this many keys skipped, unless two clash or a limit is
-- exceeded.
abbrev pub answer_united : PolicyRows → Limits → Certificates → List Certificate → ℕ → Result Imported Refusal
answer_united rows limits certs cs skipped = do
  refuse_if (any_clash (map (λ (e : Fpr × Certificate). e.1) certs) cs) Clash
  option_map Full (first_full limits (with_certs rows certs cs))
  Ok (record { taken = length cs; skipped = skipped; fresh = fresh_in certs (with_certs rows certs cs) })

-- the answer with a demand on the certificates: if they don't meet it, the entry is misfiled
abbrev pub answer_meeting : Demand → PolicyRows → Limits → Certificates → List Certificate → ℕ → Result Imported Refusal
answer_meeting demand rows limits certs cs skipped = do
  refuse_if (not (demand cs skipped)) Misfiled
  answer_united rows limits certs cs skipped

-- the packets, or their fault as a refusal
abbrev pub packets_or_refusal : Result (List Spelled) PacketFault → Result (List Spelled) Refusal
packets_or_refusal (Ok packets) = Ok packets
packets_or_refusal (Err fault) = Err (Packet fault)

-- the answer to octets with a demand, if there is enough memory: the first refusal in this order, or the counts
abbrev pub answer_under : Demand → PolicyRows → Limits → Certificates → List ℕ → Result Imported Refusal
answer_under demand rows limits certs octets = do
  packets ← packets_or_refusal (packets_of octets)
  option_map Cert (first_fault packets)
  answer_meeting demand rows limits certs (certificates_of packets) (skipped_in packets)

-- the answer to an import
abbrev pub answer_to : PolicyRows → Limits → Certificates → List ℕ → Result Imported Refusal
answer_to rows limits certs octets = answer_under any rows limits certs octets

-- That is the answer, or "out of memory".
abbrev pub ReturnsUnder : Demand → Result Imported Refusal → PolicyRows → Keyring → List ℕ → Type 0
ReturnsUnder demand result rows old octets =
    (result ≡ answer_under demand rows old.limits (certificates_in old) octets) ⊎ (result ≡ Err Memory)

abbrev pub ImportReturns : Result Imported Refusal → PolicyRows → Keyring → List ℕ → Type 0
ImportReturns result rows old octets = ReturnsUnder any result rows old octets

-- How often the policy was asked about what is new, for each answer: on Ok about all of it, if out of memory at most
-- about all, and on a refusal about nothing.
abbrev pub IsAskedAbout : Result Imported Refusal → ℕ → ℕ → Type 0
IsAskedAbout (Ok counts) new k = k ≡ new
IsAskedAbout (Err Memory) new k = k ≤ new
IsAskedAbout (Err _) new k = k ≡ 0

-- So often the policy was asked in between.
abbrev pub Asked : {F : Type 0} → Result Imported Refusal → ℕ → Policy F → Policy F → Type 0
Asked answer new before after = Asks before after (IsAskedAbout answer new)

-- So often it was asked about what these octets bring.
abbrev pub IsAsked : Result Imported Refusal → PolicyRows → Keyring → List ℕ → ℕ → Type 0
IsAsked result rows old octets k = IsAskedAbout result (asked_in rows (certificates_in old) octets) k

abbrev pub AsksFor : Result Imported Refusal → PolicyRows → Keyring → List ℕ → (ℕ → Type 0) → Type 0
AsksFor result rows old octets IsRisenBy = (k : ℕ) × IsRisenBy k × IsAsked result rows old octets k

-- So often this policy was asked, and nothing else of it changed.
abbrev pub ImportAsks : {F : Type 0} → Result Imported Refusal → Keyring → List ℕ → Policy F → Policy F → Type 0
ImportAsks result old octets before after =
    AsksFor result (rows_of before) old octets (λ k. after ≡ asked_more k before)

-- Some certificate, mark or verdict that is held has changed.
abbrev pub IsAltered : Keyring → Keyring → Type 0
IsAltered old new = held_of new ≢ held_of old

-- No certificate was removed.
abbrev pub KeepsAll : Keyring → Keyring → Type 0
KeepsAll old new = (fpr : Fpr) → kept_at new fpr ≡ None → kept_at old fpr ≡ None

-- What is held was altered, which counts as one change. If a certificate is gone it was removed, and fewer are kept.
pub record IsAlteration (old new : Keyring) : Type 0 where
  pub counted : new.changes ≡ old.changes + 1
  pub altered : IsAltered old new
  pub later : IsLater old new
  pub kept : KeepsAll old new ⊎ (length new.certs < length old.certs)

-- Either nothing was altered, not even a stamp or the count, or what is held was altered, which counts as one change.
abbrev pub IsOneChange : Keyring → Keyring → Type 0
IsOneChange old new = (new ≡ old) ⊎ IsAlteration old new

-- The keyring after a call: at most one change was counted, what was altered has a new stamp, and the limits stay.
pub record IsNext (old new : Keyring) : Type 0 where
  pub counted : IsOneChange old new
  pub later : IsLater old new
  pub limits : new.limits ≡ old.limits
