-- The one certificate of a directory entry.
use Rattle.std.proofs.Common.{◌≡◌, ℕ, Bool, true, List, [], ◌∷◌, ◌++◌, Result, Ok, Err, ap, ◌∙◌}
use Rattle.std.specs.Prelude.{if◌then◌else◌}
use Rattle.wot_types.specs.declared.name.Name.{Name}
use Rattle.wot_component.specs.Certificate.{Certificate}
use Rattle.wot_keyring_spec.specs.declared.refusal.Refusal.{Refusal}
use Rattle.wot_keyring_spec.specs.declared.refusal.Refusal.TheVariants.{Misfiled}
use Rattle.wot_keyring_spec.specs.Entry.{Parts, entry_in, parts_in, the_one}
use Rattle.wot_keyring_spec.specs.Import.{◌>>=◌, is_entry}

last_of_one : (x c : Certificate) (rest : List Certificate) → x ∷ [] ≡ rest ++ c ∷ [] → x ≡ c
last_of_one x c [] e = cc
last_of_one x c (y ∷ []) e = absurd cc
last_of_one x c (y ∷ z ∷ rest) e = absurd cc

one_taken : (name : Name) (certs rest : List Certificate) (skipped : ℕ) (c : Certificate) →
    is_entry name certs skipped ≡ true → certs ≡ rest ++ c ∷ []
    → the_one name certs skipped ≡ Ok c
one_taken name [] rest skipped c t e = absurd cc
one_taken name (x ∷ []) rest skipped c t e =
    let Chosen : Bool → Result Certificate Refusal = λ b. if b then Ok x else Err Misfiled in
    let Kept : Certificate → Result Certificate Refusal = λ x. Ok x in
    ap Chosen t ∙ ap Kept (last_of_one x c rest e)
one_taken name (x ∷ y ∷ xs) rest skipped c t e = absurd cc

pub entry_taken : (name : Name) (octets : List ℕ) (certs rest : List Certificate) (skipped : ℕ) (c : Certificate) →
    parts_in octets ≡ Ok (certs, skipped)
    → is_entry name certs skipped ≡ true → certs ≡ rest ++ c ∷ [] → entry_in name octets ≡ Ok c
entry_taken name octets certs rest skipped c parts t e =
    ap (λ (r : Result Parts Refusal). r >>= (λ (p : Parts). the_one name p.0 p.1)) parts
    ∙ one_taken name certs rest skipped c t e

-- ---- the parts
