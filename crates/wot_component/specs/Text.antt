-- The text of a certificate: the key and its signatures, then user IDs, attributes and subkeys, each followed by its
-- signatures (RFC 9580, section 10.1).
use Rattle.std.specs.Prelude.{◌≡◌, ℕ, List, ◌++◌, length, Result, OnOk}
use Rattle.std.specs.List.{flat_map}
use Rattle.wot_packet.specs.Writing.{written}
use Rattle.wot_component.specs.Certificate.{Signature, Component, Certificate}

abbrev pub sigs_text : List Signature → List ℕ
sigs_text sigs = flat_map (λ (s : Signature). written 2 s.body) sigs

abbrev pub part_text : ℕ → Component → List ℕ
part_text kind part = written kind part.body ++ sigs_text part.sigs

abbrev pub parts_text : ℕ → List Component → List ℕ
parts_text kind parts = flat_map (part_text kind) parts

-- the components, each kind in its order
abbrev pub components_text : Certificate → List ℕ
components_text c = parts_text 13 c.user_ids ++ parts_text 17 c.attributes ++ parts_text 14 c.subkeys

abbrev pub text_of : Certificate → List ℕ
text_of c =
    written 6 c.key ++ sigs_text c.direct ++ parts_text 13 c.user_ids ++ parts_text 17 c.attributes
    ++ parts_text 14 c.subkeys

-- how long the text is
abbrev pub size_of : Certificate → ℕ
size_of c = length (text_of c)

-- This text was appended; if memory ran out, some text was.
abbrev pub Appends : {T E : Type 0} → Result T E → List ℕ → List ℕ → List ℕ → Type 0
Appends result before after text = (more : List ℕ) × (after ≡ before ++ more) × OnOk result (more ≡ text)
