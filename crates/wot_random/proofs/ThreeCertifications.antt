-- The three certifications of an index.
use Rattle.std.proofs.Common.{◌≡◌, ℕ, ◌+◌, ◌<◌, ◌==◌, false, [], ◌∷◌, ap, sym, ◌∙◌, arith, refl}
use Rattle.std.proofs.lemmas.Bool.{ne_eqb}
use Rattle.wot_random.specs.Certifications.{certification_by, certifications_at, drawn_before}
use Rattle.wot_random.specs.declared.certification.Certification.{Certification}

listed : (start drawn index : ℕ) (one two three : Certification)
    → one ≡ certification_by start drawn index 1
    → two ≡ certification_by start (drawn + 2) index 2
    → three ≡ certification_by start (drawn + 4) index 3
    → one ∷ two ∷ three ∷ []
    ≡ certification_by start (drawn + 0) index 1
    ∷ certification_by start (drawn + 2) index 2
    ∷ certification_by start (drawn + 4) index 3
    ∷ []
listed start drawn index one two three a b c =
    let first : one ≡ certification_by start (drawn + 0) index 1 = a ∙ ap (λ d. certification_by start d index 1)
    (omega arith) in
    cc (first, b, c)

pub three_listed : (start count index : ℕ) → (index == 0) ≡ false
    → certifications_at start count index
    ≡ certification_by start (drawn_before count index + 0) index 1
    ∷ certification_by start (drawn_before count index + 2) index 2
    ∷ certification_by start (drawn_before count index + 4) index 3
    ∷ []
unfolding certifications_at
three_listed start count index e = rw e refl

pub three_made : (start count index : ℕ) (one two three : Certification)
    → 0 < index
    → one ≡ certification_by start (drawn_before count index) index 1
    → two ≡ certification_by start (drawn_before count index + 2) index 2
    → three ≡ certification_by start (drawn_before count index + 4) index 3
    → one ∷ two ∷ three ∷ [] ≡ certifications_at start count index
three_made start count index one two three some a b c =
    listed start (drawn_before count index) index one two three a b c
    ∙ sym (three_listed start count index (ne_eqb index 0 (λ e. omega (arith, e, some))))
