-- Certificates from a list of packets (RFC 9580, section 10.1).
use Rattle.std.specs.Prelude.{ℕ, Bool, true, false, not, ◌==◌, List, [], ◌∷◌, map, filter, count_by}
use Rattle.wot_key.specs.Key.{is_readable}
use Rattle.wot_packet.specs.Spelling.{Spelled}
use Rattle.wot_cert.specs.Packets.{is_key, is_signature, begins_component}
use Rattle.wot_component.specs.Certificate.{Signature, Component, Certificate, fresh, unite_sigs, unite_parts}
use Rattle.wot_component.specs.Certificate.{on_key, on_user_id, on_attribute, on_subkey}

-- ---- cutting a list of packets

-- a packet that begins a part, and those after it
abbrev pub Section : Type 0
Section = Spelled × List Spelled

abbrev pub cut_on : Bool → Spelled → List Spelled × List Section → List Spelled × List Section
cut_on true p cut = ([], (p, cut.0) ∷ cut.1)
cut_on false p cut = (p ∷ cut.0, cut.1)

-- the packets before the first that begins a part, and each that does with those after it
abbrev pub cut_at : (ℕ → Bool) → List Spelled → List Spelled × List Section
cut_at begins [] = ([], [])
cut_at begins (p ∷ ps) = cut_on (begins p.kind) p (cut_at begins ps)

-- each key with the packets up to the next one
abbrev pub keys_of : List Spelled → List Section
keys_of packets = (cut_at is_key packets).1

-- ---- a certificate

-- the set of the signatures among these packets, which are on this component
abbrev pub sigs_in : List ℕ → ℕ → List ℕ → List Spelled → List Signature
sigs_in key kind component packets =
    unite_sigs []
    (map (λ (p : Spelled). fresh key kind component p.body) (filter (λ (p : Spelled). is_signature p.kind) packets))

-- a component with the signatures after it
abbrev pub part_of : List ℕ → ℕ → Section → Component
part_of key kind section = record { body = section.0.body; sigs = sigs_in key kind section.0.body section.1 }

-- the components that packets of this type begin, by body
abbrev pub parts_of : List ℕ → ℕ → ℕ → List Section → List Component
parts_of key type kind sections =
    unite_parts [] (map (part_of key kind) (filter (λ (s : Section). s.0.kind == type) sections))

abbrev pub certificate_with : List ℕ → List Spelled × List Section → Certificate
certificate_with key cut = record {
  key = key;
  direct = sigs_in key on_key [] cut.0;
  user_ids = parts_of key 13 on_user_id cut.1;
  attributes = parts_of key 17 on_attribute cut.1;
  subkeys = parts_of key 14 on_subkey cut.1;
}

-- the certificate of a key and the packets after it
abbrev pub certificate_of : Section → Certificate
certificate_of section = certificate_with section.0.body (cut_at begins_component section.1)

-- ---- all of them

abbrev pub has_readable_key : Section → Bool
has_readable_key section = is_readable section.0.body

-- one certificate for each key that can be parsed, in the order of the packets
abbrev pub certificates_of : List Spelled → List Certificate
certificates_of packets = map certificate_of (filter has_readable_key (keys_of packets))

-- how many keys can't be parsed
abbrev pub skipped_in : List Spelled → ℕ
skipped_in packets = count_by (λ s. not (has_readable_key s)) (keys_of packets)

-- the certificate with this key and nothing else
abbrev pub bare : List ℕ → Certificate
bare key = record { key = key; direct = []; user_ids = []; attributes = []; subkeys = [] }
