-- What is assembled is whole.
use Rattle.std.proofs.Common.{◌≡◌, ℕ, Bool, true, false, cond, List, [], ◌∷◌, map, refl, subst}
use Rattle.std.specs.Prelude.{filter}
use Rattle.std.specs.List.{AllByRecursion}
use Rattle.wot_packet.specs.Spelling.{AreShort, Spelled}
use Rattle.wot_cert.specs.Assembly.{Section, cut_at, cut_on, keys_of, certificate_of, certificates_of, has_readable_key}
use Rattle.wot_component.specs.Certificate.{Certificate, fresh, unmarked, unmarked_sig, part_with, on_key, on_user_id}
use Rattle.wot_component.specs.Certificate.{on_attribute, on_subkey}
use Rattle.wot_cert.specs.Drafting.{Group, Sketch, sketched, part_drafted, completed}
use Rattle.wot_cert.specs.Packets.{is_key}
use Rattle.wot_component.specs.Whole.{IsCertificate}
use Rattle.wot_cert.proofs.CertificateWithKey.{completed-is, completed-whole, sketched-whole}
use Rattle.wot_cert.proofs.Same.{same_cert}

-- ---- short packets

abbrev IsShortSection : Section → Type 0
IsShortSection s = AreShort s.1

abbrev AreShortCut : List Spelled × List Section → Type 0
AreShortCut cut = AreShort cut.0 × AllByRecursion IsShortSection cut.1

cut-short : (begins : ℕ → Bool) (packets : List Spelled) → AreShort packets → AreShortCut (cut_at begins packets)
cut-short begins [] h = (tt, tt)
cut-short begins (p ∷ packets) h = by_case (begins p.kind) (cut-short begins packets h.1)
  where
    by_case : (b : Bool) → AreShortCut (cut_at begins packets) → AreShortCut (cut_on b p (cut_at begins packets))
    by_case true k = (tt, (k.0, k.1))
    by_case false k = ((h.0, k.0), k.1)

-- ---- whole certificates

section-whole : (s : Section) → has_readable_key s ≡ true → AreShort s.1 → IsCertificate (certificate_of s)
section-whole s e h =
    subst (λ (c : Certificate). IsCertificate c) (completed-is s.0.body s.1)
    (completed-whole s.0.body (sketched s.1) e (sketched-whole s.1 h))

sections-whole : (sections : List Section) → AllByRecursion IsShortSection sections
    → AllByRecursion IsCertificate (map certificate_of (filter has_readable_key sections))
sections-whole [] h = tt
sections-whole (s ∷ sections) h = by_case (has_readable_key s) refl (sections-whole sections h.1)
  where
    by_case : (b : Bool) → has_readable_key s ≡ b
        → AllByRecursion IsCertificate (map certificate_of (filter has_readable_key sections))
        → AllByRecursion IsCertificate
        (map certificate_of (cond b (s ∷ filter has_readable_key sections) (filter has_readable_key sections)))
    by_case true e k = (section-whole s e h.0, k)
    by_case false e k = k

pub all-whole : (packets : List Spelled) → AreShort packets → AllByRecursion IsCertificate (certificates_of packets)
all-whole packets h = sections-whole (keys_of packets) (cut-short is_key packets h).1

-- ---- no marks

sigs-plain : (key : List ℕ) (kind : ℕ) (component : List ℕ) (bodies : List (List ℕ))
    → map unmarked_sig (map (fresh key kind component) bodies) ≡ map (fresh key kind component) bodies
sigs-plain key kind component [] = refl
sigs-plain key kind component (b ∷ bodies) = λ i. fresh key kind component b ∷ sigs-plain key kind component bodies i

parts-plain : (key : List ℕ) (kind : ℕ) (groups : List Group)
    → map (part_with unmarked_sig) (map (part_drafted key kind) groups) ≡ map (part_drafted key kind) groups
parts-plain key kind [] = refl
parts-plain key kind (g ∷ groups) =
    λ i. record { body = g.0; sigs = sigs-plain key kind g.0 g.1 i } ∷ parts-plain key kind groups i

completed-plain : (key : List ℕ) (s : Sketch) → unmarked (completed key s) ≡ completed key s
completed-plain key s =
    same_cert _ _ refl (sigs-plain key on_key [] s.sigs) (parts-plain key on_user_id s.user_ids)
    (parts-plain key on_attribute s.attributes) (parts-plain key on_subkey s.subkeys)

abbrev IsPlain : Certificate → Type 0
IsPlain c = unmarked c ≡ c

section-plain : (s : Section) → IsPlain (certificate_of s)
section-plain s =
    subst (λ (c : Certificate). IsPlain c) (completed-is s.0.body s.1) (completed-plain s.0.body (sketched s.1))

sections-plain : (sections : List Section) → AllByRecursion IsPlain (map certificate_of sections)
sections-plain [] = tt
sections-plain (s ∷ sections) = (section-plain s, sections-plain sections)

pub all-plain : (packets : List Spelled)
    → AllByRecursion (λ (c : Certificate). unmarked c ≡ c) (certificates_of packets)
all-plain packets = sections-plain (filter has_readable_key (keys_of packets))
