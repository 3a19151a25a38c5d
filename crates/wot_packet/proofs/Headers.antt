-- What the plain reader finds of a header is what the octets spell.
use Rattle.std.proofs.Common.{◌≡◌, ◌≢◌, ◌⊎◌, inl, inr, ℕ, ◌+◌, ◌-◌, ◌*◌, ◌/◌, ◌%◌, ◌<◌, ◌≤◌, ltb, Bool, true, false}
use Rattle.std.proofs.Common.{cond, List, [], ◌∷◌, ◌++◌, length, Result, Ok, Err, refl, sym, ap, ◌∙◌, arith, ⊎_elim}
use Rattle.std.specs.List.{AllByRecursion}
use Rattle.std.proofs.lemmas.List.{append-nil, length-append}
use Rattle.std.proofs.lemmas.Bool.{ltb-true, ltb-false, lt-ltb, le-ltb, cond_both}
use Rattle.wot_packet.specs.Header.{IsLegacyLength, IsOpenpgpHeader, IsLegacyHeader, IsHeader}
use Rattle.wot_packet.specs.Spelling.{IsNotAPacket, IsCutLength, IsPartial, IsIndeterminate, IsFault}
use Rattle.wot_packet.specs.Reading.{openpgp_length, legacy_length, Headed, with_kind, headed_of}
use Rattle.wot_packet.specs.declared.packet.Why.{Why}
use Rattle.wot_packet.specs.declared.packet.Why.TheVariants.{NotAPacket, CutLength, CutBody, Partial, Indeterminate}
use Rattle.wot_packet.proofs.Lengths.{IsOctet, Found, OpenpgpMeans, LegacyMeans, openpgp_means, legacy_means}
use Rattle.wot_packet.proofs.Lengths.{openpgp_again, legacy_again, extended, openpgp_extends, legacy_extends}

-- A header is at the beginning, and the rest follows it.
pub record HasHeader (octets : List ℕ) (headed : Headed) : Type 0 where
  pub header : List ℕ
  pub is : IsHeader header headed.kind headed.size
  pub split : octets ≡ header ++ headed.rest

abbrev pub HeadedMeans : List ℕ → Result Headed Why → Type 0
HeadedMeans octets (Ok headed) = HasHeader octets headed
HeadedMeans octets (Err CutBody) = ⊥
HeadedMeans octets (Err why) = IsFault why octets

-- the type of the first octet
legacy_tag : (tag : ℕ) → 128 ≤ tag → tag < 192
    → (tag ≡ 128 + 4 * ((tag - 128) / 4) + (tag - 128) % 4) × ((tag - 128) / 4 < 16) × ((tag - 128) % 4 < 4)
legacy_tag tag l u = (omega arith, omega arith, omega arith)

begins : (tag : ℕ) (octets : List ℕ) → (tag ∷ octets) ≢ []
begins tag octets e = cc

openpgp_headed : (tag : ℕ) (octets : List ℕ) (found : Found) → 192 ≤ tag → tag < 256 → OpenpgpMeans octets found
    → HeadedMeans (tag ∷ octets) (with_kind (tag - 192) found)
openpgp_headed tag octets (Ok found) l u h =
    record {
      header = tag ∷ h.prefix;
      is = inl (omega arith, omega arith, h.is);
      split = ap (λ (x : List ℕ). tag ∷ x) h.split;
    }
openpgp_headed tag octets (Err NotAPacket) l u h = absurd h
openpgp_headed tag octets (Err CutLength) l u h =
    record {
      begun = begins tag octets;
      missing = h.missing;
      some = h.some;
      kind = tag - 192;
      size = h.size;
      header = inl (omega arith, omega arith, h.is);
    }
openpgp_headed tag octets (Err CutBody) l u h = absurd h
openpgp_headed tag [] (Err Partial) l u h = absurd h
openpgp_headed tag (a ∷ octets) (Err Partial) l u h = (l, u, h.0, h.1)
openpgp_headed tag octets (Err Indeterminate) l u h = absurd h

legacy_headed : (tag : ℕ) (octets : List ℕ) (found : Found) → 128 ≤ tag → tag < 192
    → LegacyMeans ((tag - 128) % 4) octets found → HeadedMeans (tag ∷ octets) (with_kind ((tag - 128) / 4) found)
legacy_headed tag octets (Ok found) l u h =
    let t = legacy_tag tag l u in
    record {
      header = tag ∷ h.prefix;
      is = inr ((tag - 128) % 4, t.1, t.0, h.is);
      split = ap (λ (x : List ℕ). tag ∷ x) h.split;
    }
legacy_headed tag octets (Err NotAPacket) l u h = absurd h
legacy_headed tag octets (Err CutLength) l u h =
    let t = legacy_tag tag l u in
    record {
      begun = begins tag octets;
      missing = h.missing;
      some = h.some;
      kind = (tag - 128) / 4;
      size = h.size;
      header = inr ((tag - 128) % 4, t.1, t.0, h.is);
    }
legacy_headed tag octets (Err CutBody) l u h = absurd h
legacy_headed tag octets (Err Partial) l u h = absurd h
legacy_headed tag octets (Err Indeterminate) l u h =
    let t = legacy_tag tag l u in
    let type : (tag - 128) % 4 ≡ 3 = omega (arith, t.2, h) in
    ((tag - 128) / 4, t.1, t.0 ∙ ap (λ (x : ℕ). 128 + 4 * ((tag - 128) / 4) + x) type)

pub headed_means : (tag : ℕ) (octets : List ℕ) → AllByRecursion IsOctet (tag ∷ octets)
    → HeadedMeans (tag ∷ octets) (headed_of (tag ∷ octets))
headed_means tag octets h =
    cond_both (ltb tag 128) (Err NotAPacket)
    (cond (ltb tag 192) (with_kind ((tag - 128) / 4) (legacy_length ((tag - 128) % 4) octets))
    (with_kind (tag - 192) (openpgp_length octets))) (HeadedMeans (tag ∷ octets))
    (λ e. ltb-true tag 128 e)
    (λ e. cond_both (ltb tag 192) (with_kind ((tag - 128) / 4) (legacy_length ((tag - 128) % 4) octets))
    (with_kind (tag - 192) (openpgp_length octets)) (HeadedMeans (tag ∷ octets))
    (λ f. legacy_headed tag octets (legacy_length ((tag - 128) % 4) octets) (ltb-false tag 128 e) (ltb-true tag 192 f)
    (legacy_means ((tag - 128) % 4) octets))
    (λ f. openpgp_headed tag octets (openpgp_length octets) (ltb-false tag 192 f) h.0 (openpgp_means octets h.1)))

-- A header that is spelled is found, whatever follows it.
abbrev pub headed : ℕ → ℕ → List ℕ → Headed
headed kind size rest = record { kind = kind; size = size; rest = rest }

openpgp_header_again : (header : List ℕ) (kind size : ℕ) (rest : List ℕ) → IsOpenpgpHeader header kind size
    → headed_of (header ++ rest) ≡ Ok (headed kind size rest)
openpgp_header_again [] kind size rest h = absurd h
openpgp_header_again (tag ∷ octets) kind size rest h =
    let below : ltb tag 128 ≡ false = le-ltb tag 128 (omega arith) in
    let above : ltb tag 192 ≡ false = le-ltb tag 192 (omega arith) in
    let type : tag - 192 ≡ kind = omega arith in
    rw (below, above, type, openpgp_again octets size rest h.2) refl

-- Length types are 0, 1 and 2.
length_type : (type : ℕ) (octets : List ℕ) (size : ℕ) → IsLegacyLength type octets size → type < 3
length_type type [] size h = absurd h
length_type type (a ∷ []) size h = omega (arith, h.0)
length_type type (a ∷ b ∷ []) size h = omega (arith, h.0)
length_type type (a ∷ b ∷ c ∷ []) size h = absurd h
length_type type (a ∷ b ∷ c ∷ d ∷ []) size h = omega (arith, h.0)
length_type type (a ∷ b ∷ c ∷ d ∷ e ∷ more) size h = absurd h

legacy_header_again : (header : List ℕ) (kind size : ℕ) (rest : List ℕ) → IsLegacyHeader header kind size
    → headed_of (header ++ rest) ≡ Ok (headed kind size rest)
legacy_header_again [] kind size rest h = absurd h
legacy_header_again (tag ∷ octets) kind size rest h =
    let small : h.0 < 3 = length_type h.0 octets size h.3 in
    let below : ltb tag 128 ≡ false = le-ltb tag 128 (omega arith) in
    let above : ltb tag 192 ≡ true = lt-ltb tag 192 (omega arith) in
    let type : (tag - 128) / 4 ≡ kind = omega arith in
    let way : (tag - 128) % 4 ≡ h.0 = omega arith in
    rw (below, above, type, way, legacy_again h.0 octets size rest h.3) refl

pub header_again : (header : List ℕ) (kind size : ℕ) (rest : List ℕ) → IsHeader header kind size
    → headed_of (header ++ rest) ≡ Ok (headed kind size rest)
header_again header kind size rest h =
    ⊎_elim (openpgp_header_again header kind size rest) (legacy_header_again header kind size rest) h

-- More octets after it change nothing if the header isn't cut.
abbrev pub headed_extended : Result Headed Why → List ℕ → Result Headed Why
headed_extended (Ok found) more = Ok (headed found.kind found.size (found.rest ++ more))
headed_extended (Err why) more = Err why

abbrev BothExtend : List ℕ → Result Headed Why → Result Headed Why → Type 0
BothExtend more here further = (here ≡ Err CutLength) ⊎ (further ≡ headed_extended here more)

both : (test : Bool) (a b x y : Result Headed Why) (more : List ℕ) → BothExtend more a x → BothExtend more b y
    → BothExtend more (cond test a b) (cond test x y)
both true a b x y more h k = h
both false a b x y more h k = k

same-kind : (kind : ℕ) (found : Found) (more : List ℕ)
    → with_kind kind (extended found more) ≡ headed_extended (with_kind kind found) more
same-kind kind (Ok found) more = refl
same-kind kind (Err why) more = refl

kind_extends : (kind : ℕ) (here further : Found) (more : List ℕ)
    → ((here ≡ Err CutLength) ⊎ (further ≡ extended here more))
    → BothExtend more (with_kind kind here) (with_kind kind further)
kind_extends kind here further more h =
    ⊎_elim (λ e. inl (ap (with_kind kind) e)) (λ e. inr (ap (with_kind kind) e ∙ same-kind kind here more)) h

pub headed_extends : (octets more : List ℕ)
    → (headed_of octets ≡ Err CutLength) ⊎ (headed_of (octets ++ more) ≡ headed_extended (headed_of octets) more)
headed_extends [] more = inl refl
headed_extends (tag ∷ octets) more =
    both (ltb tag 128) (Err NotAPacket)
    (cond (ltb tag 192) (with_kind ((tag - 128) / 4) (legacy_length ((tag - 128) % 4) octets))
    (with_kind (tag - 192) (openpgp_length octets)))
    (Err NotAPacket)
    (cond (ltb tag 192) (with_kind ((tag - 128) / 4) (legacy_length ((tag - 128) % 4) (octets ++ more)))
    (with_kind (tag - 192) (openpgp_length (octets ++ more)))) more (inr refl)
    (both (ltb tag 192) (with_kind ((tag - 128) / 4) (legacy_length ((tag - 128) % 4) octets))
    (with_kind (tag - 192) (openpgp_length octets))
    (with_kind ((tag - 128) / 4) (legacy_length ((tag - 128) % 4) (octets ++ more)))
    (with_kind (tag - 192) (openpgp_length (octets ++ more))) more
    (kind_extends ((tag - 128) / 4) (legacy_length ((tag - 128) % 4) octets)
    (legacy_length ((tag - 128) % 4) (octets ++ more)) more (legacy_extends ((tag - 128) % 4) octets more))
    (kind_extends (tag - 192) (openpgp_length octets) (openpgp_length (octets ++ more)) more
    (openpgp_extends octets more)))

-- A cut header isn't found.
cut_case : (here : Result Headed Why) (more : List ℕ) (kind size : ℕ) → more ≢ []
    → Ok (headed kind size []) ≡ headed_extended here more → ⊥
cut_case (Ok found) [] kind size ne e = ne refl
cut_case (Ok found) (o ∷ more) kind size ne e =
    let same : headed kind size [] ≡ headed found.kind found.size (found.rest ++ (o ∷ more)) = cc in
    let rest : [] ≡ found.rest ++ (o ∷ more) = ap (λ (x : Headed). x.rest) same in
    let n : 0 ≡ length found.rest + length (o ∷ more) = ap length rest ∙ length-append found.rest (o ∷ more) in
    omega arith
cut_case (Err why) more kind size ne e = cc

pub cut_again : (octets : List ℕ) → IsCutLength octets → headed_of octets ≡ Err CutLength
cut_again octets h =
    let whole : headed_of (octets ++ h.missing) ≡ Ok (headed h.kind h.size []) =
    ap headed_of (sym (append-nil (octets ++ h.missing)))
    ∙ header_again (octets ++ h.missing) h.kind h.size [] h.header in
    ⊎_elim (λ e. e) (λ e. absurd (cut_case (headed_of octets) h.missing h.kind h.size h.some (sym whole ∙ e)))
    (headed_extends octets h.missing)

pub not_again : (octets : List ℕ) → IsNotAPacket octets → headed_of octets ≡ Err NotAPacket
not_again [] h = absurd h
not_again (tag ∷ octets) h = rw (lt-ltb tag 128 h) refl

pub partial_again : (octets : List ℕ) → IsPartial octets → headed_of octets ≡ Err Partial
partial_again [] h = absurd h
partial_again (tag ∷ []) h = absurd h
partial_again (tag ∷ a ∷ octets) h =
    let below : ltb tag 128 ≡ false = le-ltb tag 128 (omega arith) in
    let above : ltb tag 192 ≡ false = le-ltb tag 192 (omega arith) in
    let one : ltb a 192 ≡ false = le-ltb a 192 (omega arith) in
    let two : ltb a 224 ≡ false = le-ltb a 224 (omega arith) in
    let five : ltb a 255 ≡ true = lt-ltb a 255 (omega arith) in
    rw (below, above, one, two, five) refl

pub indeterminate_again : (octets : List ℕ) → IsIndeterminate octets → headed_of octets ≡ Err Indeterminate
indeterminate_again [] h = absurd h
indeterminate_again (tag ∷ octets) h =
    let below : ltb tag 128 ≡ false = le-ltb tag 128 (omega arith) in
    let above : ltb tag 192 ≡ true = lt-ltb tag 192 (omega arith) in
    let way : (tag - 128) % 4 ≡ 3 = omega arith in
    rw (below, above, way) refl
