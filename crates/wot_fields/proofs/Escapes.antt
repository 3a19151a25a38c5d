-- User IDs are printed and read back.
use Rattle.std.proofs.Common.{◌≡◌, ℕ, zero, suc, ◌+◌, ◌<◌, ◌≤◌, ◌==◌, Bool, true, false, ◌&&◌, inl, inr, List, [], ◌∷◌}
use Rattle.std.proofs.Common.{Option, Some, None, length, drop, get_or, refl, sym, ap, ◌∙◌, arith, add-one, drop-cons}
use Rattle.std.proofs.Common.{◌++◌, append_assoc, append-nil}
use Rattle.std.specs.Prelude.{nat_le}
use Rattle.std.specs.Option.{option_map}
use Rattle.std.specs.Result.{result_ok}
use Rattle.std.specs.List.{flat_map}
use Rattle.std.proofs.lemmas.Bool.{cases_eq, ne_eqb}
use Rattle.std.proofs.lemmas.List.{drop_all}
use Rattle.std.proofs.lemmas.Option.{same_Some}
use Rattle.hex.specs.Hex.{IsBytes, encode_lower, encode_with}
use Rattle.hex.proofs.HexLemmas.{decode_sized-encode_lower}
use Rattle.wot_types.specs.Digits.{array_of_digits}
use Rattle.wot_fields.specs.Fields.{◌>>=◌}
use Rattle.wot_fields.specs.Turned.{Turned}
use Rattle.wot_fields.specs.Uid.{ended, escape, escaped, unescape_step, unescaped, unescaped_from}
use Rattle.wot_fields.specs.declared.uid.Place.{Place}
use Rattle.wot_fields.specs.declared.uid.Place.TheVariants.{Outside, Backslash, High, Low}

-- ---- reading

twice : (old made : List ℕ) (o : Option (List ℕ))
    → option_map (λ others. old ++ others) (option_map (λ others. made ++ others) o) ≡ option_map
    (λ others. (old ++ made) ++ others) o
twice old made None = refl
twice old made (Some others) = ap Some (sym (append_assoc old made others))

turned : (old new : List ℕ) (next : Place) (octets : List ℕ) (t : Option (List ℕ × Place))
    → Turned old new t (Some next)
    → option_map (λ others. new ++ others) (unescaped_from octets next)
    ≡ option_map (λ others. old ++ others)
    (t >>= (λ n. option_map (λ others. n.0 ++ others) (unescaped_from octets n.1)))
turned old new next octets None h = cc h
turned old new next octets (Some read) h =
    ap (λ place. option_map (λ others. new ++ others) (unescaped_from octets place)) (same_Some next read.1 h.1)
    ∙ ap (λ made. option_map (λ others. made ++ others) (unescaped_from octets read.1)) h.0
    ∙ sym (twice old read.0 (unescaped_from octets read.1))

drop_first : (text : List ℕ) (i : ℕ) → i < length text → drop i text ≡ get_or text i 0 ∷ drop (i + 1) text
drop_first text i h = rw (add-one, drop-cons text i 0) refl

-- what one step of the reading leaves unchanged
pub turn_kept : (old new text : List ℕ) (i : ℕ) (place next : Place) → i < length text
    → Turned old new (unescape_step place (get_or text i 0)) (Some next)
    → option_map (λ others. new ++ others) (unescaped_from (drop (i + 1) text) next)
    ≡ option_map (λ others. old ++ others) (unescaped_from (drop i text) place)
turn_kept old new text i place next h t =
    turned old new next (drop (i + 1) text) (unescape_step place (get_or text i 0)) t
    ∙ ap (λ rest. option_map (λ others. old ++ others) (unescaped_from rest place)) (sym (drop_first text i h))

failed : (old new octets : List ℕ) (t : Option (List ℕ × Place)) → Turned old new t None
    → option_map (λ others. old ++ others)
    (t >>= (λ n. option_map (λ others. n.0 ++ others) (unescaped_from octets n.1)))
    ≡ None
failed old new octets None h = refl
failed old new octets (Some read) h = cc (h.1)

-- after a step that fails, nothing is read
pub turn_fails : (old new text : List ℕ) (i : ℕ) (place : Place) → i < length text
    → Turned old new (unescape_step place (get_or text i 0)) None
    → option_map (λ others. old ++ others) (unescaped_from (drop i text) place) ≡ None
turn_fails old new text i place h t =
    ap (λ rest. option_map (λ others. old ++ others) (unescaped_from rest place)) (drop_first text i h)
    ∙ failed old new (drop (i + 1) text) (unescape_step place (get_or text i 0)) t

at_end : (old text : List ℕ) (i : ℕ) (place : Place) → length text ≤ i
    → option_map (λ others. old ++ others) (unescaped_from (drop i text) place)
    ≡ option_map (λ others. old ++ others) (ended place)
at_end old text i place h =
    ap (λ rest. option_map (λ others. old ++ others) (unescaped_from rest place)) (drop_all i text h)

-- a text that ends outside of an escape was read
pub end_outside : (old text : List ℕ) (i : ℕ) (place : Place) → length text ≤ i → place ≡ Outside
    → option_map (λ others. old ++ others) (unescaped_from (drop i text) place) ≡ Some old
end_outside old text i place h e =
    at_end old text i place h
    ∙ ap (λ (p : Place). option_map (λ others. old ++ others) (ended p)) e
    ∙ ap Some (append-nil old)

-- one that ends within an escape wasn't
pub end_inside : (old text : List ℕ) (i : ℕ) (place : Place) → length text ≤ i → (place ≡ Outside → ⊥)
    → option_map (λ others. old ++ others) (unescaped_from (drop i text) place) ≡ None
end_inside old text i place h apart = at_end old text i place h ∙ by place apart
  where
    by : (p : Place) → (p ≡ Outside → ⊥) → option_map (λ others. old ++ others) (ended p) ≡ None
    by Outside apart = absurd (apart refl)
    by Backslash apart = refl
    by High apart = refl
    by (Low high) apart = refl

nothing_put : (o : Option (List ℕ)) → option_map (λ others. [] ++ others) o ≡ o
nothing_put None = refl
nothing_put (Some others) = refl

-- before the first step
pub none_turned : (old text : List ℕ) → old ≡ []
    → option_map (λ others. old ++ others) (unescaped_from (drop 0 text) Outside) ≡ unescaped text
unfolding unescaped
none_turned old text e =
    ap (λ front. option_map (λ others. front ++ others) (unescaped_from text Outside)) e
    ∙ nothing_put (unescaped_from text Outside)

-- ---- printing

-- what an octet and the ones after it spell
abbrev with_octet : ℕ → Option (List ℕ) → Option (List ℕ)
with_octet octet o = option_map (λ others. octet ∷ others) o

one_byte : (octet : ℕ) → octet < 256 → IsBytes (octet ∷ [])
one_byte octet small zero = small
one_byte octet small (suc i) = omega arith

-- two digits after `\x`
pair_read : (octet : ℕ) (rest : List ℕ) → octet < 256
    → unescaped_from (encode_lower (octet ∷ []) ++ rest) High ≡ with_octet octet (unescaped_from rest Outside)
unfolding encode_with
pair_read octet rest small =
    let pair : array_of_digits 1 (encode_lower (octet ∷ [])) ≡ Some (octet ∷ []) =
    ap result_ok (decode_sized-encode_lower (octet ∷ []) 1 refl (one_byte octet small)) in
    rw pair (nothing_put (with_octet octet (unescaped_from rest Outside)))

-- an octet that isn't a backslash
escape_apart : (octet : ℕ) (rest : List ℕ) (plain : Bool) → octet < 256 → (octet == 92) ≡ false
    → (nat_le 32 octet && nat_le octet 126) ≡ plain
    → unescaped_from (escape octet ++ rest) Outside ≡ with_octet octet (unescaped_from rest Outside)
escape_apart octet rest true small apart plain = rw (apart, plain, apart) refl
escape_apart octet rest false small apart plain =
    rw (apart, plain) (
    nothing_put (option_map (λ others. [] ++ others) (unescaped_from (encode_lower (octet ∷ []) ++ rest) High))
    ∙ nothing_put (unescaped_from (encode_lower (octet ∷ []) ++ rest) High)
    ∙ pair_read octet rest small
    )

escape_read : (octet : ℕ) (rest : List ℕ) → octet < 256
    → unescaped_from (escape octet ++ rest) Outside ≡ with_octet octet (unescaped_from rest Outside)
escape_read octet rest small =
    elim (cases_eq octet 92) [
      | inl same ↦ rw same (nothing_put (with_octet 92 (unescaped_from rest Outside)))
      | inr apart ↦ escape_apart octet rest (nat_le 32 octet && nat_le octet 126) small (ne_eqb octet 92 apart) refl
    ]

escapes_read : (octets : List ℕ) → IsBytes octets → unescaped_from (flat_map escape octets) Outside ≡ Some octets
escapes_read [] bytes = refl
escapes_read (octet ∷ octets) bytes =
    escape_read octet (flat_map escape octets) (bytes 0)
    ∙ ap (with_octet octet) (escapes_read octets (λ i. bytes (suc i)))

pub unescaped-escaped : (octets : List ℕ) → IsBytes octets → unescaped (escaped octets) ≡ Some octets
unfolding unescaped escaped
unescaped-escaped octets bytes = escapes_read octets bytes
