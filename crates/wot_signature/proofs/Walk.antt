-- A walk over the subpackets of an area.
use Rattle.std.proofs.Common.{◌≡◌, List, [], ◌∷◌, ◌++◌, refl, sym, ap, ◌∙◌, append_assoc}
use Rattle.std.proofs.lemmas.List.{append-nil}
use Rattle.wot_subpacket.specs.Subpacket.{Subpacket}

-- Some of all subpackets were seen, the others are left, and the value is that of those seen.
pub record Walked {A : Type 0} (value_of : List Subpacket → A) (all left : List Subpacket) (value : A) : Type 0 where
  pub seen : List Subpacket
  pub split : all ≡ seen ++ left
  pub so_far : value ≡ value_of seen

pub walked_none : {A : Type 0} (value_of : List Subpacket → A) (all : List Subpacket) (value : A) → value ≡ value_of []
    → Walked value_of all all value
walked_none value_of all value h = record { seen = []; split = refl; so_far = h }

pub walked_more :
    {A : Type 0} (value_of : List Subpacket → A) (more : A → Subpacket → A)
    (push : (ss : List Subpacket) (s : Subpacket) → value_of (ss ++ s ∷ []) ≡ more (value_of ss) s)
    (all left : List Subpacket) (value : A) (s : Subpacket) (left' : List Subpacket) (value' : A) →
    Walked value_of all left value → left ≡ s ∷ left' → value' ≡ more value s → Walked value_of all left' value'
walked_more value_of more push all left value s left' value' w e h =
    record {
      seen = w.seen ++ s ∷ [];
      split = w.split ∙ ap (λ ss. w.seen ++ ss) e ∙ sym (append_assoc w.seen (s ∷ []) left');
      so_far = h ∙ ap (λ v. more v s) w.so_far ∙ sym (push w.seen s);
    }

pub walked_all : {A : Type 0} (value_of : List Subpacket → A) (all left : List Subpacket) (value : A)
    → Walked value_of all left value → left ≡ [] → value ≡ value_of all
walked_all value_of all left value w e =
    w.so_far ∙ ap value_of (sym (w.split ∙ ap (λ ss. w.seen ++ ss) e ∙ append-nil w.seen))
