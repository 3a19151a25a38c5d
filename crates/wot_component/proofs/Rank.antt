-- Unions of lists that rise.
use Rattle.std.proofs.Common.{◌≡◌, List, [], ◌∷◌, refl, ap, ◌∙◌}
use Rattle.std.specs.declared.cmp.Ordering.{Ordering}
use Rattle.std.specs.declared.cmp.Ordering.TheVariants.{Less, Equal, Greater}
use Rattle.std.specs.Ordering.{ordering_reverse}
use Rattle.std.specs.Cmp.{IsTotalOrder}
use Rattle.wot_component.specs.Ranked.{put, placed, united, IsBelow, IsRising}

module _ {A : Type 0} (R : A → A → Ordering) (join : A → A → A) (o : IsTotalOrder R)
    (same : (x y : A) → R x y ≡ Equal → (z : A) → R z (join x y) ≡ R z x) where
  turned : (x y : A) → R x y ≡ Less → R y x ≡ Greater
  turned x y h = o.antisymm y x ∙ ap ordering_reverse h

  turned_back : (x y : A) → R x y ≡ Greater → R y x ≡ Less
  turned_back x y h = o.antisymm y x ∙ ap ordering_reverse h

  tied : (x y : A) → R x y ≡ Equal → R y x ≡ Equal
  tied x y h = o.antisymm y x ∙ ap ordering_reverse h

  -- what is below the first is below all
  below_all : (x y : A) (ys : List A) → R x y ≡ Less → IsBelow R y ys → IsBelow R x ys
  below_all x y [] h b = tt
  below_all x y (z ∷ ys) h b = (o.trans x y z h b.0, below_all x y ys h b.1)

  below_tied : (x y : A) (ys : List A) → R x y ≡ Equal → IsBelow R y ys → IsBelow R x ys
  below_tied x y [] h b = tt
  below_tied x y (z ∷ ys) h b = (o.congr x y z h ∙ b.0, below_tied x y ys h b.1)

  placed_below : (r : Ordering) (w x y : A) (ys rest : List A) → R x y ≡ r → R w x ≡ Less → IsBelow R w (y ∷ ys)
      → IsBelow R w rest → IsBelow R w (placed r join x y ys rest)
  placed_below Less w x y ys rest e h b c = (h, b)
  placed_below Equal w x y ys rest e h b c = (same y x (tied x y e) w ∙ b.0, b.1)
  placed_below Greater w x y ys rest e h b c = (b.0, c)

  put_below : (w x : A) (ys : List A) → R w x ≡ Less → IsBelow R w ys → IsBelow R w (put R join x ys)
  put_below w x [] h b = (h, tt)
  put_below w x (y ∷ ys) h b = placed_below (R x y) w x y ys (put R join x ys) refl h b (put_below w x ys h b.1)

  pub united_below : (w : A) (xs ys : List A) → IsBelow R w xs → IsBelow R w ys → IsBelow R w (united R join xs ys)
  united_below w xs [] a b = a
  united_below w xs (y ∷ ys) a b = put_below w y (united R join xs ys) b.0 (united_below w xs ys a b.1)

  pub put_first : (x : A) (ys : List A) → IsBelow R x ys → put R join x ys ≡ x ∷ ys
  put_first x [] b = refl
  put_first x (y ∷ ys) b = rw b.0 refl

  -- what is below all of the others stays in front
  pub in_front : (x : A) (xs ys : List A) → IsBelow R x ys → united R join (x ∷ xs) ys ≡ x ∷ united R join xs ys
  in_front x xs [] b = refl
  in_front x xs (y ∷ ys) b =
      let e : united R join (x ∷ xs) ys ≡ x ∷ united R join xs ys = in_front x xs ys b.1 in
      let g : R y x ≡ Greater = turned x y b.0 in
      ap (put R join y) e ∙ rw g refl

  pub less : (x : A) (xs : List A) (y : A) (ys : List A) → IsRising R (y ∷ ys) → R x y ≡ Less
      → united R join (x ∷ xs) (y ∷ ys) ≡ x ∷ united R join xs (y ∷ ys)
  less x xs y ys b h = in_front x xs (y ∷ ys) (h, below_all x y ys h b.0)

  pub greater : (x : A) (xs : List A) (y : A) (ys : List A) → IsRising R (x ∷ xs) → IsRising R (y ∷ ys)
      → R x y ≡ Greater → united R join (x ∷ xs) (y ∷ ys) ≡ y ∷ united R join (x ∷ xs) ys
  greater x xs y ys a b h =
      let l : R y x ≡ Less = turned_back x y h in
      put_first y (united R join (x ∷ xs) ys) (united_below y (x ∷ xs) ys (l, below_all y x xs l a.0) b.0)

  pub equal : (x : A) (xs : List A) (y : A) (ys : List A) → IsRising R (y ∷ ys) → R x y ≡ Equal
      → united R join (x ∷ xs) (y ∷ ys) ≡ join x y ∷ united R join xs ys
  equal x xs y ys b h =
      let e : united R join (x ∷ xs) ys ≡ x ∷ united R join xs ys = in_front x xs ys (below_tied x y ys h b.0) in
      let g : R y x ≡ Equal = tied x y h in
      ap (put R join y) e ∙ rw g refl

  pub only : (ys : List A) → IsRising R ys → united R join [] ys ≡ ys
  only [] b = refl
  only (y ∷ ys) b = ap (put R join y) (only ys b.1) ∙ put_first y ys b.0

  joined_below : (x y : A) → R x y ≡ Equal → (zs : List A) → IsBelow R y zs → IsBelow R (join y x) zs
  joined_below x y e [] h = tt
  joined_below x y e (z ∷ zs) h =
      (turned_back z (join y x) (same y x (tied x y e) z ∙ turned y z h.0), joined_below x y e zs h.1)

  put_rises : (x : A) (ys : List A) → IsRising R ys → IsRising R (put R join x ys)
  put_rises x [] b = (tt, tt)
  put_rises x (y ∷ ys) b =
      elim (R x y) as (λ r. R x y ≡ r → IsRising R (placed r join x y ys (put R join x ys))) [
        | Less ↦ λ e. ((e, below_all x y ys e b.0), b)
        | Equal ↦ λ e. (joined_below x y e ys b.0, b.1)
        | Greater ↦ λ e. (put_below y x ys (turned_back x y e) b.0, put_rises x ys b.1)
      ] refl

  pub united_rises : (xs ys : List A) → IsRising R xs → IsRising R (united R join xs ys)
  united_rises xs [] a = a
  united_rises xs (y ∷ ys) a = put_rises y (united R join xs ys) (united_rises xs ys a)
