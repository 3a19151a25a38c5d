-- What the plain reader finds of a length is what the octets spell.
use Rattle.std.proofs.Common.{◌≡◌, ◌≢◌, ◌⊎◌, inl, inr, ℕ, ◌+◌, ◌-◌, ◌*◌, ◌<◌, ◌≤◌, ltb, eqb, Bool, true, false, cond}
use Rattle.std.proofs.Common.{List, [], ◌∷◌, ◌++◌, Result, Ok, Err, refl, arith}
use Rattle.std.specs.List.{AllByRecursion}
use Rattle.std.proofs.lemmas.Bool.{ltb-true, ltb-false, eqb-true, eqb-false, lt-ltb, le-ltb, cond_both}
use Rattle.std.specs.Int.{w16, w32, from_be_bytes}
use Rattle.wot_packet.specs.Header.{IsOpenpgpLength, IsLegacyLength}
use Rattle.wot_packet.specs.Reading.{one_octet, two_octets, four_octets, second_octet, openpgp_length, legacy_length}
use Rattle.wot_packet.specs.declared.packet.Why.{Why}
use Rattle.wot_packet.specs.declared.packet.Why.TheVariants.{CutLength, Partial, Indeterminate}

abbrev pub IsOctet : ℕ → Type 0
IsOctet o = o < 256

abbrev pub Found : Type 0
Found = Result (ℕ × List ℕ) Why

-- A length is at the beginning, and this follows it.
pub record Reads (IsLength : List ℕ → ℕ → Type 0) (octets : List ℕ) (n : ℕ) (rest : List ℕ) : Type 0 where
  pub prefix : List ℕ
  pub is : IsLength prefix n
  pub split : octets ≡ prefix ++ rest

-- A length is begun, and octets of it are missing.
pub record Lacks (IsLength : List ℕ → ℕ → Type 0) (octets : List ℕ) : Type 0 where
  pub missing : List ℕ
  pub some : missing ≢ []
  pub size : ℕ
  pub is : IsLength (octets ++ missing) size

abbrev pub BeginsPartial : List ℕ → Type 0
BeginsPartial [] = ⊥
BeginsPartial (a ∷ octets) = (224 ≤ a) × (a < 255)

abbrev pub OpenpgpMeans : List ℕ → Found → Type 0
OpenpgpMeans octets (Ok found) = Reads IsOpenpgpLength octets found.0 found.1
OpenpgpMeans octets (Err CutLength) = Lacks IsOpenpgpLength octets
OpenpgpMeans octets (Err Partial) = BeginsPartial octets
OpenpgpMeans octets (Err _) = ⊥

abbrev pub LegacyMeans : ℕ → List ℕ → Found → Type 0
LegacyMeans type octets (Ok found) = Reads (IsLegacyLength type) octets found.0 found.1
LegacyMeans type octets (Err CutLength) = Lacks (IsLegacyLength type) octets
LegacyMeans type octets (Err Indeterminate) = 3 ≤ type
LegacyMeans type octets (Err _) = ⊥

not-nil : (o : ℕ) (octets : List ℕ) → (o ∷ octets) ≢ []
not-nil o octets e = cc

second_means : (a : ℕ) (octets : List ℕ) → 192 ≤ a → a < 224 → OpenpgpMeans (a ∷ octets) (second_octet a octets)
second_means a [] l u =
    record { missing = 0 ∷ []; some = not-nil 0 []; size = (a - 192) * 256 + 0 + 192; is = (l, u, refl) }
second_means a (b ∷ octets) l u = record { prefix = a ∷ b ∷ []; is = (l, u, refl); split = refl }

five_means : (a : ℕ) (octets : List ℕ) → a ≡ 255 → OpenpgpMeans (a ∷ octets) (four_octets octets)
five_means a [] e =
    record {
      missing = 0 ∷ 0 ∷ 0 ∷ 0 ∷ [];
      some = not-nil 0 (0 ∷ 0 ∷ 0 ∷ []);
      size = from_be_bytes w32 (0 ∷ 0 ∷ 0 ∷ 0 ∷ []);
      is = (e, refl);
    }
five_means a (b ∷ []) e =
    record {
      missing = 0 ∷ 0 ∷ 0 ∷ [];
      some = not-nil 0 (0 ∷ 0 ∷ []);
      size = from_be_bytes w32 (b ∷ 0 ∷ 0 ∷ 0 ∷ []);
      is = (e, refl);
    }
five_means a (b ∷ c ∷ []) e =
    record {
      missing = 0 ∷ 0 ∷ [];
      some = not-nil 0 (0 ∷ []);
      size = from_be_bytes w32 (b ∷ c ∷ 0 ∷ 0 ∷ []);
      is = (e, refl);
    }
five_means a (b ∷ c ∷ d ∷ []) e =
    record { missing = 0 ∷ []; some = not-nil 0 []; size = from_be_bytes w32 (b ∷ c ∷ d ∷ 0 ∷ []); is = (e, refl) }
five_means a (b ∷ c ∷ d ∷ f ∷ octets) e = record { prefix = a ∷ b ∷ c ∷ d ∷ f ∷ []; is = (e, refl); split = refl }

pub openpgp_means : (octets : List ℕ) → AllByRecursion IsOctet octets → OpenpgpMeans octets (openpgp_length octets)
openpgp_means [] h = record { missing = 0 ∷ []; some = not-nil 0 []; size = 0; is = (omega arith, refl) }
openpgp_means (a ∷ octets) h =
    cond_both (ltb a 192) (Ok (a, octets))
    (cond (ltb a 224) (second_octet a octets) (cond (ltb a 255) (Err Partial) (four_octets octets)))
    (OpenpgpMeans (a ∷ octets))
    (λ e. record { prefix = a ∷ []; is = (ltb-true a 192 e, refl); split = refl })
    (λ e. cond_both (ltb a 224) (second_octet a octets) (cond (ltb a 255) (Err Partial) (four_octets octets))
    (OpenpgpMeans (a ∷ octets))
    (λ f. second_means a octets (ltb-false a 192 e) (ltb-true a 224 f))
    (λ f. cond_both (ltb a 255) (Err Partial) (four_octets octets) (OpenpgpMeans (a ∷ octets))
    (λ g. (ltb-false a 224 f, ltb-true a 255 g))
    (λ g. let most : a < 256 = h.0 in let least : 255 ≤ a = ltb-false a 255 g in five_means a octets (omega arith))))

one_means : (octets : List ℕ) → LegacyMeans 0 octets (one_octet octets)
one_means [] = record { missing = 0 ∷ []; some = not-nil 0 []; size = 0; is = (refl, refl) }
one_means (a ∷ octets) = record { prefix = a ∷ []; is = (refl, refl); split = refl }

two_means : (octets : List ℕ) → LegacyMeans 1 octets (two_octets octets)
two_means [] =
    record { missing = 0 ∷ 0 ∷ []; some = not-nil 0 (0 ∷ []); size = from_be_bytes w16 (0 ∷ 0 ∷ []); is = (refl, refl) }
two_means (a ∷ []) =
    record { missing = 0 ∷ []; some = not-nil 0 []; size = from_be_bytes w16 (a ∷ 0 ∷ []); is = (refl, refl) }
two_means (a ∷ b ∷ octets) = record { prefix = a ∷ b ∷ []; is = (refl, refl); split = refl }

four_means : (octets : List ℕ) → LegacyMeans 2 octets (four_octets octets)
four_means [] =
    record {
      missing = 0 ∷ 0 ∷ 0 ∷ 0 ∷ [];
      some = not-nil 0 (0 ∷ 0 ∷ 0 ∷ []);
      size = from_be_bytes w32 (0 ∷ 0 ∷ 0 ∷ 0 ∷ []);
      is = (refl, refl);
    }
four_means (a ∷ []) =
    record {
      missing = 0 ∷ 0 ∷ 0 ∷ [];
      some = not-nil 0 (0 ∷ 0 ∷ []);
      size = from_be_bytes w32 (a ∷ 0 ∷ 0 ∷ 0 ∷ []);
      is = (refl, refl);
    }
four_means (a ∷ b ∷ []) =
    record {
      missing = 0 ∷ 0 ∷ [];
      some = not-nil 0 (0 ∷ []);
      size = from_be_bytes w32 (a ∷ b ∷ 0 ∷ 0 ∷ []);
      is = (refl, refl);
    }
four_means (a ∷ b ∷ c ∷ []) =
    record { missing = 0 ∷ []; some = not-nil 0 []; size = from_be_bytes w32 (a ∷ b ∷ c ∷ 0 ∷ []); is = (refl, refl) }
four_means (a ∷ b ∷ c ∷ d ∷ octets) = record { prefix = a ∷ b ∷ c ∷ d ∷ []; is = (refl, refl); split = refl }

means-at : (type t : ℕ) (octets : List ℕ) (found : Found) → type ≡ t → LegacyMeans t octets found
    → LegacyMeans type octets found
means-at type t octets found e h = rw e h

pub legacy_means : (type : ℕ) (octets : List ℕ) → LegacyMeans type octets (legacy_length type octets)
legacy_means type octets =
    cond_both (eqb type 0) (one_octet octets)
    (cond (eqb type 1) (two_octets octets) (cond (eqb type 2) (four_octets octets) (Err Indeterminate)))
    (LegacyMeans type octets)
    (λ e. means-at type 0 octets (one_octet octets) (eqb-true type 0 e) (one_means octets))
    (λ e. cond_both (eqb type 1) (two_octets octets) (cond (eqb type 2) (four_octets octets) (Err Indeterminate))
    (LegacyMeans type octets)
    (λ f. means-at type 1 octets (two_octets octets) (eqb-true type 1 f) (two_means octets))
    (λ f. cond_both (eqb type 2) (four_octets octets) (Err Indeterminate) (LegacyMeans type octets)
    (λ g. means-at type 2 octets (four_octets octets) (eqb-true type 2 g) (four_means octets))
    (λ g. let a = eqb-false type 0 e in let b = eqb-false type 1 f in let d = eqb-false type 2 g in omega arith)))

-- What is spelled is found, whatever follows it.
pub openpgp_again : (prefix : List ℕ) (n : ℕ) (rest : List ℕ) → IsOpenpgpLength prefix n
    → openpgp_length (prefix ++ rest) ≡ Ok (n, rest)
openpgp_again [] n rest h = absurd h
openpgp_again (a ∷ []) n rest h = rw (lt-ltb a 192 h.0, h.1) refl
openpgp_again (a ∷ b ∷ []) n rest h = rw (le-ltb a 192 h.0, lt-ltb a 224 h.1, h.2) refl
openpgp_again (a ∷ b ∷ c ∷ []) n rest h = absurd h
openpgp_again (a ∷ b ∷ c ∷ d ∷ []) n rest h = absurd h
openpgp_again (a ∷ b ∷ c ∷ d ∷ e ∷ []) n rest h = rw (h.0, h.1) refl
openpgp_again (a ∷ b ∷ c ∷ d ∷ e ∷ f ∷ more) n rest h = absurd h

pub legacy_again : (type : ℕ) (prefix : List ℕ) (n : ℕ) (rest : List ℕ) → IsLegacyLength type prefix n
    → legacy_length type (prefix ++ rest) ≡ Ok (n, rest)
legacy_again type [] n rest h = absurd h
legacy_again type (a ∷ []) n rest h = rw (h.0, h.1) refl
legacy_again type (a ∷ b ∷ []) n rest h = rw (h.0, h.1) refl
legacy_again type (a ∷ b ∷ c ∷ []) n rest h = absurd h
legacy_again type (a ∷ b ∷ c ∷ d ∷ []) n rest h = rw (h.0, h.1) refl
legacy_again type (a ∷ b ∷ c ∷ d ∷ e ∷ more) n rest h = absurd h

-- More octets after it change nothing if the length isn't cut.
abbrev pub extended : Found → List ℕ → Found
extended (Ok found) more = Ok (found.0, found.1 ++ more)
extended (Err why) more = Err why

abbrev pub Extends : (List ℕ → Found) → List ℕ → List ℕ → Type 0
Extends read octets more = (read octets ≡ Err CutLength) ⊎ (read (octets ++ more) ≡ extended (read octets) more)

second_extends : (a : ℕ) (octets more : List ℕ) → Extends (second_octet a) octets more
second_extends a [] more = inl refl
second_extends a (b ∷ octets) more = inr refl

one_extends : (octets more : List ℕ) → Extends one_octet octets more
one_extends [] more = inl refl
one_extends (a ∷ octets) more = inr refl

two_extends : (octets more : List ℕ) → Extends two_octets octets more
two_extends [] more = inl refl
two_extends (a ∷ []) more = inl refl
two_extends (a ∷ b ∷ octets) more = inr refl

four_extends : (octets more : List ℕ) → Extends four_octets octets more
four_extends [] more = inl refl
four_extends (a ∷ []) more = inl refl
four_extends (a ∷ b ∷ []) more = inl refl
four_extends (a ∷ b ∷ c ∷ []) more = inl refl
four_extends (a ∷ b ∷ c ∷ d ∷ octets) more = inr refl

-- what the reader found here, it finds with more octets too
abbrev BothExtend : List ℕ → Found → Found → Type 0
BothExtend more here further = (here ≡ Err CutLength) ⊎ (further ≡ extended here more)

both : (test : Bool) (a b x y : Found) (more : List ℕ) → BothExtend more a x → BothExtend more b y
    → BothExtend more (cond test a b) (cond test x y)
both true a b x y more h k = h
both false a b x y more h k = k

pub openpgp_extends : (octets more : List ℕ) → Extends openpgp_length octets more
openpgp_extends [] more = inl refl
openpgp_extends (a ∷ octets) more =
    both (ltb a 192) (Ok (a, octets))
    (cond (ltb a 224) (second_octet a octets) (cond (ltb a 255) (Err Partial) (four_octets octets)))
    (Ok (a, octets ++ more))
    (cond (ltb a 224) (second_octet a (octets ++ more)) (cond (ltb a 255) (Err Partial) (four_octets (octets ++ more))))
    more (inr refl)
    (both (ltb a 224) (second_octet a octets) (cond (ltb a 255) (Err Partial) (four_octets octets))
    (second_octet a (octets ++ more)) (cond (ltb a 255) (Err Partial) (four_octets (octets ++ more))) more
    (second_extends a octets more)
    (both (ltb a 255) (Err Partial) (four_octets octets) (Err Partial) (four_octets (octets ++ more)) more (inr refl)
    (four_extends octets more)))

pub legacy_extends : (type : ℕ) (octets more : List ℕ) → Extends (legacy_length type) octets more
legacy_extends type octets more =
    both (eqb type 0) (one_octet octets)
    (cond (eqb type 1) (two_octets octets) (cond (eqb type 2) (four_octets octets) (Err Indeterminate)))
    (one_octet (octets ++ more))
    (cond (eqb type 1) (two_octets (octets ++ more))
    (cond (eqb type 2) (four_octets (octets ++ more)) (Err Indeterminate))) more (one_extends octets more)
    (both (eqb type 1) (two_octets octets) (cond (eqb type 2) (four_octets octets) (Err Indeterminate))
    (two_octets (octets ++ more)) (cond (eqb type 2) (four_octets (octets ++ more)) (Err Indeterminate)) more
    (two_extends octets more)
    (both (eqb type 2) (four_octets octets) (Err Indeterminate) (four_octets (octets ++ more)) (Err Indeterminate) more
    (four_extends octets more) (inr refl)))
