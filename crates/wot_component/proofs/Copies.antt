-- Copies that keep their marks are equal.
use Rattle.std.proofs.Common.{◌≡◌, Bool, List, [], ◌∷◌, map, Result, Ok, Err, refl, ap, ◌∙◌}
use Rattle.std.specs.Prelude.{IfOk}
use Rattle.wot_component.specs.declared.sig.Marks.TheVariants.{Kept}
use Rattle.wot_component.specs.Certificate.{Signature, Component, Certificate, part_with, with_each}
use Rattle.wot_component.specs.Copied.{copied}

pub sigs_kept : (xs : List Signature) → map (copied Kept) xs ≡ xs
sigs_kept [] = refl
sigs_kept (x ∷ xs) = ap (λ ys. x ∷ ys) (sigs_kept xs)

pub part_kept : (p : Component) → part_with (copied Kept) p ≡ p
part_kept p = ap (λ (s : List Signature). record p { sigs = s }) (sigs_kept p.sigs)

pub parts_kept : (ps : List Component) → map (part_with (copied Kept)) ps ≡ ps
parts_kept [] = refl
parts_kept (p ∷ ps) = ap (λ q. q ∷ map (part_with (copied Kept)) ps) (part_kept p) ∙ ap (λ qs. p ∷ qs) (parts_kept ps)

pub cert_kept : (c : Certificate) → with_each (copied Kept) c ≡ c
cert_kept c =
    ap (λ (d : List Signature). record (with_each (copied Kept) c) { direct = d }) (sigs_kept c.direct)
    ∙ ap (λ (u : List Component). record (with_each (copied Kept) c) { direct = c.direct; user_ids = u })
    (parts_kept c.user_ids)
    ∙ ap (λ (u : List Component). record (with_each (copied Kept) c)
    { direct = c.direct; user_ids = c.user_ids; attributes = u }) (parts_kept c.attributes)
    ∙ ap (λ (u : List Component). record c { subkeys = u }) (parts_kept c.subkeys)

-- ---- what a call made that copies with the same marks

pub same_sig : {E : Type 0} (r : Result Signature E) (s : Signature) (mark : Bool) → mark ≡ s.admitted
    → IfOk r (λ made. made ≡ record s { admitted = mark }) → IfOk r (λ made. made ≡ s)
same_sig (Ok made) s mark m e = e ∙ ap (λ (b : Bool). record s { admitted = b }) m
same_sig (Err fault) s mark m e = tt

pub same_part : {E : Type 0} (r : Result Component E) (p : Component)
    → IfOk r (λ made. made ≡ part_with (copied Kept) p) → IfOk r (λ made. made ≡ p)
same_part (Ok made) p e = e ∙ part_kept p
same_part (Err fault) p e = tt
