-- The text of a certificate is read back as that certificate.
use Rattle.std.proofs.Common.{◌≡◌, ℕ, ◌+◌, ◌<◌, ◌≤◌, ◌^◌, Bool, true, false, cond, List, [], ◌∷◌, ◌++◌, map, length}
use Rattle.std.proofs.Common.{None, refl, sym, ap, ◌∙◌, arith, append_assoc}
use Rattle.std.specs.Prelude.{◌&&◌, ◌||◌, ◌==◌, count_by, filter, nat_le, nat_lt, not}
use Rattle.std.specs.Prelude.{drop, take}
use Rattle.std.specs.Int.{w32, from_be_bytes}
use Rattle.std.specs.List.{All, AllByRecursion}
use Rattle.std.specs.Cmp.Lexicographic.{on_texts}
use Rattle.std.specs.Cmp.{IsTotalOrder}
use Rattle.std.proofs.lemmas.Bool.{and_parts, leb-true, ltb-true}
use Rattle.std.proofs.lemmas.Cmp.{nat_list_cmp_total}
use Rattle.std.proofs.lemmas.List.Elements.{All-from_recursion}
use Rattle.wot_key.specs.Key.{is_readable, is_v4, is_v6, version_in}
use Rattle.wot_packet.specs.Spelling.{AreShort, Spelled}
use Rattle.wot_packet.specs.Writing.{CanBeWritten, placed, written, written_all}
use Rattle.wot_cert.specs.Assembly.{Section, cut_at, certificate_of, certificates_of, has_readable_key, skipped_in}
use Rattle.wot_cert.specs.Assembly.{keys_of}
use Rattle.wot_component.specs.Certificate.{Signature, Component, Certificate, fresh, unmarked, unmarked_sig, part_with}
use Rattle.wot_component.specs.Certificate.{sig_cmp, part_cmp, on_key, on_user_id, on_attribute, on_subkey}
use Rattle.wot_cert.specs.Drafting.{body_cmp, first_stays, Group, group_cmp, unite_group, put_group, Sketch, sketched}
use Rattle.wot_cert.specs.Drafting.{with_packet, part_drafted, completed}
use Rattle.wot_cert.specs.Fault.{fault_at, fault_from, first_fault}
use Rattle.wot_cert.specs.Packets.{is_key}
use Rattle.wot_component.specs.Ranked.{IsBelow, IsRising}
use Rattle.wot_component.specs.Text.{sigs_text, parts_text, text_of}
use Rattle.wot_component.specs.Whole.{IsSigAt, IsPartOf, IsCertificate}
use Rattle.wot_cert.proofs.CertificateWithKey.{completed-is}
use Rattle.wot_cert.proofs.Cuts.{at-other}
use Rattle.wot_component.proofs.Rank.{put_first}
use Rattle.wot_cert.proofs.Same.{same_cert}
use Rattle.wot_cert.proofs.Sketches.{sketched-more}

-- ---- the packets of a certificate, each its type and its body

abbrev pub Plain : Type 0
Plain = ℕ × List ℕ

abbrev pub sig_packets : List Signature → List Plain
sig_packets [] = []
sig_packets (s ∷ sigs) = (2, s.body) ∷ sig_packets sigs

abbrev pub parts_packets : ℕ → List Component → List Plain
parts_packets type [] = []
parts_packets type (p ∷ ps) = (type, p.body) ∷ (sig_packets p.sigs ++ parts_packets type ps)

abbrev pub behind_key : Certificate → List Plain
behind_key c =
    sig_packets c.direct
    ++ (parts_packets 13 c.user_ids ++ (parts_packets 17 c.attributes ++ parts_packets 14 c.subkeys))

abbrev pub cert_packets : Certificate → List Plain
cert_packets c = (6, c.key) ∷ behind_key c

-- ---- the text is what they are written as

written-append : (xs ys : List Plain) → written_all (xs ++ ys) ≡ written_all xs ++ written_all ys
written-append [] ys = refl
written-append (x ∷ xs) ys =
    ap (λ (t : List ℕ). written x.0 x.1 ++ t) (written-append xs ys)
    ∙ sym (append_assoc (written x.0 x.1) (written_all xs) (written_all ys))

sigs-written : (sigs : List Signature) → sigs_text sigs ≡ written_all (sig_packets sigs)
sigs-written [] = refl
sigs-written (s ∷ sigs) = ap (λ (t : List ℕ). written 2 s.body ++ t) (sigs-written sigs)

parts-written : (type : ℕ) (ps : List Component) → parts_text type ps ≡ written_all (parts_packets type ps)
parts-written type [] = refl
parts-written type (p ∷ ps) =
    append_assoc (written type p.body) (sigs_text p.sigs) (parts_text type ps)
    ∙ ap (λ (t : List ℕ). written type p.body ++ t)
    ((λ i. sigs-written p.sigs i ++ parts-written type ps i)
    ∙ sym (written-append (sig_packets p.sigs) (parts_packets type ps)))

five : (k s u a b : List ℕ) → k ++ s ++ u ++ a ++ b ≡ k ++ (s ++ (u ++ (a ++ b)))
five k s u a b = simp append_assoc

pub text-written : (c : Certificate) → text_of c ≡ written_all (cert_packets c)
text-written c =
    five (written 6 c.key) (sigs_text c.direct) (parts_text 13 c.user_ids) (parts_text 17 c.attributes)
    (parts_text 14 c.subkeys)
    ∙ ap (λ (t : List ℕ). written 6 c.key ++ t) (
    (λ i. sigs-written c.direct
    i ++ (parts-written 13 c.user_ids i ++ (parts-written 17 c.attributes i ++ parts-written 14 c.subkeys i)))
    ∙ sym (written-append (sig_packets c.direct)
    (parts_packets 13 c.user_ids ++ (parts_packets 17 c.attributes ++ parts_packets 14 c.subkeys))
    ∙ ap (λ (t : List ℕ). written_all (sig_packets c.direct) ++ t)
    (written-append (parts_packets 13 c.user_ids) (parts_packets 17 c.attributes ++ parts_packets 14 c.subkeys)
    ∙ ap (λ (t : List ℕ). written_all (parts_packets 13 c.user_ids) ++ t)
    (written-append (parts_packets 17 c.attributes) (parts_packets 14 c.subkeys)))))

-- ---- what holds of each packet

module _ (P : Plain → Type 0) where
  all-append : (xs ys : List Plain) → AllByRecursion P xs → AllByRecursion P ys → AllByRecursion P (xs ++ ys)
  all-append [] ys h k = k
  all-append (x ∷ xs) ys h k = (h.0, all-append xs ys h.1 k)

-- a packet that comes after a key and is no fault there
pub record IsBehind (x : Plain) : Type 0 where
  pub other : is_key x.0 ≡ false
  pub fine : (body : List ℕ) (at : ℕ) → fault_at true (record { kind = x.0; body = body; at = at }) ≡ None
  pub type : x.0 < 64
  pub size : length x.1 < 2 ^ 32

sigs-behind : (key : List ℕ) (kind : ℕ) (component : List ℕ) (sigs : List Signature)
    → AllByRecursion (IsSigAt key kind component) sigs → AllByRecursion IsBehind (sig_packets sigs)
sigs-behind key kind component [] h = tt
sigs-behind key kind component (s ∷ sigs) h = (
  record { other = refl; fine = λ body at. refl; type = omega arith; size = h.0.0 },
  sigs-behind key kind component sigs h.1,
)

module _ (type : ℕ) (other : is_key type ≡ false) (fine : (body : List ℕ) (at : ℕ)
    → fault_at true (record { kind = type; body = body; at = at }) ≡ None) (few : type < 64) where
  parts-behind : (key : List ℕ) (kind : ℕ) (ps : List Component) → AllByRecursion (IsPartOf key kind) ps
      → AllByRecursion IsBehind (parts_packets type ps)
  parts-behind key kind [] h = tt
  parts-behind key kind (p ∷ ps) h = (
    record { other = other; fine = fine; type = few; size = h.0.0 },
    all-append IsBehind (sig_packets p.sigs) (parts_packets type ps) (sigs-behind key kind p.body p.sigs h.0.1.1)
        (parts-behind key kind ps h.1),
  )

pub all-behind : (c : Certificate) → IsCertificate c → AllByRecursion IsBehind (behind_key c)
all-behind c h =
    all-append IsBehind (sig_packets c.direct)
    (parts_packets 13 c.user_ids ++ (parts_packets 17 c.attributes ++ parts_packets 14 c.subkeys))
    (sigs-behind c.key on_key [] c.direct h.direct.1)
    (all-append IsBehind (parts_packets 13 c.user_ids) (parts_packets 17 c.attributes ++ parts_packets 14 c.subkeys)
    (parts-behind 13 refl (λ body at. refl) (omega arith) c.key on_user_id c.user_ids h.user_ids.1)
    (all-append IsBehind (parts_packets 17 c.attributes) (parts_packets 14 c.subkeys)
    (parts-behind 17 refl (λ body at. refl) (omega arith) c.key on_attribute c.attributes h.attributes.1)
    (parts-behind 14 refl (λ body at. refl) (omega arith) c.key on_subkey c.subkeys h.subkeys.1)))

-- ---- they can be written

key-short : (key : List ℕ) → is_readable key ≡ true → length key < 2 ^ 32
key-short key e = by (is_v4 key) refl e
  where
    of_v4 : is_v4 key ≡ true → length key < 2 ^ 32
    of_v4 f =
        let front = and_parts (nat_le 6 (length key) && nat_le (length key) 65535) (version_in key == 4) f in
        let most : length key ≤ 65535 =
        leb-true (length key) 65535 (and_parts (nat_le 6 (length key)) (nat_le (length key) 65535) front.0).1 in
        omega (arith, most)

    of_v6 : is_v6 key ≡ true → length key < 2 ^ 32
    of_v6 f =
        let three = and_parts (nat_le 10 (length key) && nat_lt (length key) (2 ^ 32) && (version_in key == 6))
        (from_be_bytes w32 (take 4 (drop 6 key)) + 10 == length key) f in
        let two = and_parts (nat_le 10 (length key) && nat_lt (length key) (2 ^ 32)) (version_in key == 6) three.0 in
        ltb-true (length key) (2 ^ 32) (and_parts (nat_le 10 (length key)) (nat_lt (length key) (2 ^ 32)) two.0).1

    by : (b : Bool) → is_v4 key ≡ b → (b || is_v6 key) ≡ true → length key < 2 ^ 32
    by true f g = of_v4 f
    by false f g = of_v6 g

abbrev Writable : Plain → Type 0
Writable x = CanBeWritten x.0 x.1

behind-writable : (xs : List Plain) → AllByRecursion IsBehind xs → AllByRecursion Writable xs
behind-writable [] h = tt
behind-writable (x ∷ xs) h = ((h.0.type, h.0.size), behind-writable xs h.1)

pub can-be-written : (c : Certificate) → IsCertificate c → All (λ x. CanBeWritten x.0 x.1) (cert_packets c)
can-be-written c h =
    All-from_recursion Writable (cert_packets c)
    ((omega arith, key-short c.key h.readable), behind-writable (behind_key c) (all-behind c h))

pub placed-short : (at : ℕ) (xs : List Plain) → AllByRecursion IsBehind xs → AreShort (placed at xs)
placed-short at [] h = tt
placed-short at (x ∷ xs) h = (h.0.size, placed-short (at + length (written x.0 x.1)) xs h.1)

pub packets-short : (c : Certificate) → IsCertificate c → AreShort (placed 0 (cert_packets c))
packets-short c h =
    (key-short c.key h.readable, placed-short (0 + length (written 6 c.key)) (behind_key c) (all-behind c h))

-- ---- they have no fault

faultless : (at : ℕ) (xs : List Plain) → AllByRecursion IsBehind xs → fault_from true (placed at xs) ≡ None
faultless at [] h = refl
faultless at (x ∷ xs) h = rw (h.0.fine x.1 at) (faultless (at + length (written x.0 x.1)) xs h.1)

pub no-fault : (c : Certificate) → IsCertificate c → first_fault (placed 0 (cert_packets c)) ≡ None
no-fault c h = faultless (0 + length (written 6 c.key)) (behind_key c) (all-behind c h)

-- ---- they are one key and what follows it

no-key : (at : ℕ) (xs : List Plain) → AllByRecursion IsBehind xs → cut_at is_key (placed at xs) ≡ (placed at xs, [])
no-key at [] h = refl
no-key at (x ∷ xs) h =
    let there : ℕ = at + length (written x.0 x.1) in
    at-other (record { kind = x.0; body = x.1; at = at }) (placed there xs) h.0.other
    ∙ ap (λ (cut : List Spelled × List Section). ((record { kind = x.0; body = x.1; at = at }) ∷ cut.0, cut.1))
    (no-key there xs h.1)

abbrev key_packet : List ℕ → Spelled
key_packet key = record { kind = 6; body = key; at = 0 }

abbrev rest_of : Certificate → List Spelled
rest_of c = placed (0 + length (written 6 c.key)) (behind_key c)

one-key : (c : Certificate) → IsCertificate c → keys_of (placed 0 (cert_packets c)) ≡ (key_packet c.key, rest_of c) ∷ []
one-key c h =
    ap (λ (cut : List Spelled × List Section). (key_packet c.key, cut.0) ∷ cut.1)
    (no-key (0 + length (written 6 c.key)) (behind_key c) (all-behind c h))

-- ---- what they draft

abbrev sk : List (List ℕ) → List Group → List Group → List Group → Sketch
sk sigs u a k = record { sigs = sigs; user_ids = u; attributes = a; subkeys = k }

abbrev with_plain : Plain → Sketch → Sketch
with_plain x s = with_packet (record { kind = x.0; body = x.1; at = 0 }) s

abbrev drafting : List Plain → Sketch → Sketch
drafting [] s = s
drafting (x ∷ xs) s = with_plain x (drafting xs s)

drafting-append : (xs ys : List Plain) (s : Sketch) → drafting (xs ++ ys) s ≡ drafting xs (drafting ys s)
drafting-append [] ys s = refl
drafting-append (x ∷ xs) ys s = ap (with_plain x) (drafting-append xs ys s)

sketched-placed : (at : ℕ) (xs : List Plain) → sketched (placed at xs) ≡ drafting xs (sk [] [] [] [])
sketched-placed at [] = refl
sketched-placed at (x ∷ xs) =
    let there : ℕ = at + length (written x.0 x.1) in
    sketched-more (record { kind = x.0; body = x.1; at = at }) (placed there xs)
    ∙ ap (with_plain x) (sketched-placed there xs)

abbrev bodies : List Signature → List (List ℕ)
bodies [] = []
bodies (s ∷ sigs) = s.body ∷ bodies sigs

bodies-below : (s : Signature) (sigs : List Signature) → IsBelow sig_cmp s sigs → IsBelow body_cmp s.body (bodies sigs)
bodies-below s [] h = tt
bodies-below s (t ∷ sigs) h = (h.0, bodies-below s sigs h.1)

sigs-drafted : (sigs : List Signature) (u a k : List Group) → IsRising sig_cmp sigs
    → drafting (sig_packets sigs) (sk [] u a k) ≡ sk (bodies sigs) u a k
sigs-drafted [] u a k h = refl
sigs-drafted (s ∷ sigs) u a k h =
    ap (with_plain (2, s.body)) (sigs-drafted sigs u a k h.1)
    ∙ ap (λ (b : List (List ℕ)). sk b u a k)
    (put_first body_cmp first_stays nat_list_cmp_total (λ x y e z. refl) s.body (bodies sigs) (bodies-below s sigs h.0))

abbrev group_in : Component → Group
group_in p = (p.body, bodies p.sigs)

abbrev groups : List Component → List Group
groups [] = []
groups (p ∷ ps) = group_in p ∷ groups ps

groups-below : (p : Component) (ps : List Component) → IsBelow part_cmp p ps
    → IsBelow group_cmp (group_in p) (groups ps)
groups-below p [] h = tt
groups-below p (q ∷ ps) h = (h.0, groups-below p ps h.1)

groups_total : IsTotalOrder group_cmp
groups_total = on_texts (λ (g : Group). g.0)

module _ (type : ℕ) (hold : List (List ℕ) → List Group → Sketch)
    (component : (body : List ℕ) (sigs : List (List ℕ)) (gs : List Group)
    → with_plain (type, body) (hold sigs gs) ≡ hold [] (put_group (body, sigs) gs))
    (signed : (sigs : List Signature) (gs : List Group) → IsRising sig_cmp sigs
    → drafting (sig_packets sigs) (hold [] gs) ≡ hold (bodies sigs) gs) where
  parts-drafted : (key : List ℕ) (kind : ℕ) (ps : List Component) → IsRising part_cmp ps
      → AllByRecursion (IsPartOf key kind) ps
      → drafting (parts_packets type ps) (hold [] []) ≡ hold [] (groups ps)
  parts-drafted key kind [] r h = refl
  parts-drafted key kind (p ∷ ps) r h =
      ap (with_plain (type, p.body)) (
      drafting-append (sig_packets p.sigs) (parts_packets type ps) (hold [] [])
      ∙ ap (drafting (sig_packets p.sigs)) (parts-drafted key kind ps r.1 h.1)
      ∙ signed p.sigs (groups ps) h.0.1.0)
      ∙ component p.body (bodies p.sigs) (groups ps)
      ∙ ap (hold [])
      (put_first group_cmp unite_group groups_total (λ x y e z. refl) (group_in p) (groups ps) (groups-below p ps r.0))

pub cert-drafted : (c : Certificate) → IsCertificate c
    → drafting (behind_key c) (sk [] [] [] []) ≡ sk (bodies c.direct) (groups c.user_ids) (groups c.attributes)
    (groups c.subkeys)
cert-drafted c h =
    let k = parts-drafted 14 (λ sigs gs. sk sigs [] [] gs) (λ body sigs gs. refl)
    (λ sigs gs r. sigs-drafted sigs [] [] gs r) c.key on_subkey c.subkeys h.subkeys.0 h.subkeys.1 in
    let a = parts-drafted 17 (λ sigs gs. sk sigs [] gs (groups c.subkeys)) (λ body sigs gs. refl)
    (λ sigs gs r. sigs-drafted sigs [] gs (groups c.subkeys) r) c.key on_attribute c.attributes h.attributes.0
    h.attributes.1 in
    let u = parts-drafted 13 (λ sigs gs. sk sigs gs (groups c.attributes) (groups c.subkeys)) (λ body sigs gs. refl)
    (λ sigs gs r. sigs-drafted sigs gs (groups c.attributes) (groups c.subkeys) r) c.key on_user_id c.user_ids
    h.user_ids.0 h.user_ids.1 in
    drafting-append (sig_packets c.direct)
    (parts_packets 13 c.user_ids ++ (parts_packets 17 c.attributes ++ parts_packets 14 c.subkeys)) (sk [] [] [] [])
    ∙ ap (drafting (sig_packets c.direct)) (
    drafting-append (parts_packets 13 c.user_ids) (parts_packets 17 c.attributes ++ parts_packets 14 c.subkeys)
    (sk [] [] [] [])
    ∙ ap (drafting (parts_packets 13 c.user_ids)) (
    drafting-append (parts_packets 17 c.attributes) (parts_packets 14 c.subkeys) (sk [] [] [] [])
    ∙ ap (drafting (parts_packets 17 c.attributes)) k ∙ a)
    ∙ u)
    ∙ sigs-drafted c.direct (groups c.user_ids) (groups c.attributes) (groups c.subkeys) h.direct.0

-- ---- with the key

sigs-again : (key : List ℕ) (kind : ℕ) (component : List ℕ) (sigs : List Signature)
    → AllByRecursion (IsSigAt key kind component) sigs
    → map (fresh key kind component) (bodies sigs) ≡ map unmarked_sig sigs
sigs-again key kind component [] h = refl
sigs-again key kind component (s ∷ sigs) h =
    λ i. record { body = s.body; number = (sym h.0.1) i; admitted = false } ∷ sigs-again key kind component sigs h.1 i

parts-again : (key : List ℕ) (kind : ℕ) (ps : List Component) → AllByRecursion (IsPartOf key kind) ps
    → map (part_drafted key kind) (groups ps) ≡ map (part_with unmarked_sig) ps
parts-again key kind [] h = refl
parts-again key kind (p ∷ ps) h =
    λ i. record { body = p.body; sigs = sigs-again key kind p.body p.sigs h.0.1.1 i } ∷ parts-again key kind ps h.1 i

again : (c : Certificate) → IsCertificate c
    → completed c.key (sk (bodies c.direct) (groups c.user_ids) (groups c.attributes) (groups c.subkeys)) ≡ unmarked c
again c h =
    same_cert _ _ refl (sigs-again c.key on_key [] c.direct h.direct.1)
    (parts-again c.key on_user_id c.user_ids h.user_ids.1) (parts-again c.key on_attribute c.attributes h.attributes.1)
    (parts-again c.key on_subkey c.subkeys h.subkeys.1)

certificate-again : (c : Certificate) → IsCertificate c → certificate_of (key_packet c.key, rest_of c) ≡ unmarked c
certificate-again c h =
    sym (completed-is c.key (rest_of c))
    ∙ ap (completed c.key) (sketched-placed (0 + length (written 6 c.key)) (behind_key c) ∙ cert-drafted c h)
    ∙ again c h

one-certificate : (all rest : List Spelled) (p : Spelled) → keys_of all ≡ (p, rest) ∷ [] → is_readable p.body ≡ true
    → certificates_of all ≡ certificate_of (p, rest) ∷ []
one-certificate all rest p e r =
    ap (λ (keys : List Section). map certificate_of (filter has_readable_key keys)) e ∙ readable (is_readable p.body) r
  where
    readable : (b : Bool) → b ≡ true → map certificate_of (cond b ((p, rest) ∷ []) []) ≡ certificate_of (p, rest) ∷ []
    readable true r = refl
    readable false r = absurd cc

no-skipped : (all rest : List Spelled) (p : Spelled) → keys_of all ≡ (p, rest) ∷ [] → is_readable p.body ≡ true
    → skipped_in all ≡ 0
no-skipped all rest p e r = ap (count_by (λ s. not (has_readable_key s))) e ∙ readable (is_readable p.body) r
  where
    readable : (b : Bool) → b ≡ true → 0 + cond (not b) 1 0 ≡ 0
    readable true r = refl
    readable false r = absurd cc

pub certificates-again : (c : Certificate) → IsCertificate c
    → certificates_of (placed 0 (cert_packets c)) ≡ unmarked c ∷ []
certificates-again c h =
    one-certificate (placed 0 (cert_packets c)) (rest_of c) (key_packet c.key) (one-key c h) h.readable
    ∙ ap (λ (x : Certificate). x ∷ []) (certificate-again c h)

pub none-skipped : (c : Certificate) → IsCertificate c → skipped_in (placed 0 (cert_packets c)) ≡ 0
none-skipped c h = no-skipped (placed 0 (cert_packets c)) (rest_of c) (key_packet c.key) (one-key c h) h.readable
