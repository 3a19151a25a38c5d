-- Sorted lists are equal if each rank finds equal items in both.
use Rattle.std.proofs.Common.{◌≡◌, List, [], ◌∷◌, Option, Some, None, refl, sym, ap, ◌∙◌, subst}
use Rattle.std.specs.declared.cmp.Ordering.{Ordering}
use Rattle.std.specs.declared.cmp.Ordering.TheVariants.{Less, Equal, Greater}
use Rattle.std.specs.Ordering.{ordering_reverse}
use Rattle.std.specs.Cmp.{IsTotalOrder}
use Rattle.std.specs.List.{AllByRecursion}
use Rattle.wot_component.specs.Ranked.{put, placed, united, IsBelow, IsRising}
use Rattle.wot_component.proofs.Rank.{united_rises}

abbrev pub found : {A : Type 0} → Ordering → A → Option A → Option A
found Less x rest = rest
found Equal x rest = Some x
found Greater x rest = rest

-- the first of this rank
abbrev pub find : {A : Type 0} → (A → A → Ordering) → A → List A → Option A
find R k [] = None
find R k (x ∷ xs) = found (R k x) x (find R k xs)

-- what is found in a union, by what is found in both
abbrev pub merged : {A : Type 0} → (A → A → A) → Option A → Option A → Option A
merged join None y = y
merged join (Some x) None = Some x
merged join (Some x) (Some y) = Some (join x y)

abbrev with_found : {A : Type 0} → (A → A → A) → Ordering → A → Option A → Option A
with_found join Less x y = y
with_found join Equal x None = Some x
with_found join Equal x (Some y) = Some (join y x)
with_found join Greater x y = y

module _ {A : Type 0} (R : A → A → Ordering) (o : IsTotalOrder R) where
  own-reverse : (r : Ordering) → r ≡ ordering_reverse r → r ≡ Equal
  own-reverse Less e = absurd cc
  own-reverse Equal e = refl
  own-reverse Greater e = absurd cc

  pub itself : (x : A) → R x x ≡ Equal
  itself x = own-reverse (R x x) (o.antisymm x x)

  below-all : (x y : A) (ys : List A) → R x y ≡ Less → IsBelow R y ys → IsBelow R x ys
  below-all x y [] h b = tt
  below-all x y (z ∷ ys) h b = (o.trans x y z h b.0, below-all x y ys h b.1)

  below-tied : (x y : A) (ys : List A) → R x y ≡ Equal → IsBelow R y ys → IsBelow R x ys
  below-tied x y [] h b = tt
  below-tied x y (z ∷ ys) h b = (o.congr x y z h ∙ b.0, below-tied x y ys h b.1)

  none-below : (k : A) (ys : List A) → IsBelow R k ys → find R k ys ≡ None
  none-below k [] h = refl
  none-below k (y ∷ ys) h = rw h.0 (none-below k ys h.1)

  pub none-tied : (k x : A) (xs : List A) → R k x ≡ Equal → IsBelow R x xs → find R k xs ≡ None
  none-tied k x xs e h = none-below k xs (below-tied k x xs e h)

  at-first : (k x : A) (xs : List A) → R k x ≡ Equal → find R k (x ∷ xs) ≡ Some x
  at-first k x xs e = rw e refl

  -- ---- equal lists

  rests-alike : (k x : A) (xs ys : List A) → IsBelow R x xs → IsBelow R x ys → find R k (x ∷ xs) ≡ find R k (x ∷ ys)
      → find R k xs ≡ find R k ys
  rests-alike k x xs ys a b e = by_case (R k x) refl e
    where
      by_case : (r : Ordering) → R k x ≡ r → found r x (find R k xs) ≡ found r x (find R k ys)
          → find R k xs ≡ find R k ys
      by_case Less h e = e
      by_case Equal h e = none-tied k x xs h a ∙ sym (none-tied k x ys h b)
      by_case Greater h e = e

  same-first : (x y : A) (xs ys : List A) → find R x (x ∷ xs) ≡ find R x (y ∷ ys)
      → find R y (x ∷ xs) ≡ find R y (y ∷ ys) → IsBelow R x xs → IsBelow R y ys → x ≡ y
  same-first x y xs ys e f a b = by_case (R x y) refl
    where
      by_case : (r : Ordering) → R x y ≡ r → x ≡ y
      by_case Less h =
          let here : find R x (x ∷ xs) ≡ Some x = at-first x x xs (itself x) in
          let gone : find R x (y ∷ ys) ≡ None = none-below x (y ∷ ys) (h, below-all x y ys h b) in
          absurd (cc)
      by_case Equal h =
          let here : find R x (x ∷ xs) ≡ Some x = at-first x x xs (itself x) in
          let there : find R x (y ∷ ys) ≡ Some y = at-first x y ys h in
          cc
      by_case Greater h =
          let turned : R y x ≡ Less = o.antisymm y x ∙ ap ordering_reverse h in
          let here : find R y (y ∷ ys) ≡ Some y = at-first y y ys (itself y) in
          let gone : find R y (x ∷ xs) ≡ None = none-below y (x ∷ xs) (turned, below-all y x xs turned a) in
          absurd (cc)

  pub alike : (xs ys : List A) → IsRising R xs → IsRising R ys → ((k : A) → find R k xs ≡ find R k ys) → xs ≡ ys
  alike [] [] a b e = refl
  alike [] (y ∷ ys) a b e =
      let here : find R y (y ∷ ys) ≡ Some y = at-first y y ys (itself y) in let h = e y in absurd (cc)
  alike (x ∷ xs) [] a b e =
      let here : find R x (x ∷ xs) ≡ Some x = at-first x x xs (itself x) in let h = e x in absurd (cc)
  alike (x ∷ xs) (y ∷ ys) a b e =
      let first : x ≡ y = same-first x y xs ys (e x) (e y) a.0 b.0 in
      let Below : A → Type 0 = λ z. IsBelow R z ys in
      let below : IsBelow R x ys = subst Below (sym first) b.0 in
      let rests : (k : A) → find R k xs ≡ find R k ys =
      λ k. rests-alike k x xs ys a.0 below (e k ∙ ap (λ (z : A). find R k (z ∷ ys)) (sym first)) in
      let others : xs ≡ ys = alike xs ys a.1 b.1 rests in
      λ i. first i ∷ others i

  -- ---- what is found

  pub found-all : (P : A → Type 0) (k x : A) (xs : List A) → AllByRecursion P xs → find R k xs ≡ Some x → P x
  found-all P k x [] h e = absurd cc
  found-all P k x (y ∷ ys) h e = by_case (R k y) (found-all P k x ys h.1) e
    where
      by_case : (r : Ordering) → (find R k ys ≡ Some x → P x) → found r y (find R k ys) ≡ Some x → P x
      by_case Less f e = f e
      by_case Equal f e = let same : y ≡ x = cc in subst P same h.0
      by_case Greater f e = f e

  pub found-rank : (k x : A) (xs : List A) → find R k xs ≡ Some x → R k x ≡ Equal
  found-rank k x [] e = absurd cc
  found-rank k x (y ∷ ys) e = by_case (R k y) refl (found-rank k x ys) e
    where
      by_case : (r : Ordering) → R k y ≡ r → (find R k ys ≡ Some x → R k x ≡ Equal) → found r y (find R k ys) ≡ Some x
          → R k x ≡ Equal
      by_case Less h f e = f e
      by_case Equal h f e = let same : y ≡ x = cc in ap (R k) (sym same) ∙ h
      by_case Greater h f e = f e

  -- ---- what is found in a union

  module _ (join : A → A → A) (same : (x y : A) → R x y ≡ Equal → (z : A) → R z (join x y) ≡ R z x) where
    one-found : (r : Ordering) (x : A) → found r x None ≡ with_found join r x None
    one-found Less x = refl
    one-found Equal x = refl
    one-found Greater x = refl

    found-less : (r : Ordering) (x : A) (rest : Option A) → (r ≡ Equal → rest ≡ None)
        → found r x rest ≡ with_found join r x rest
    found-less Less x rest h = refl
    found-less Equal x rest h = rw (h refl) refl
    found-less Greater x rest h = refl

    found-equal : (r : Ordering) (x y : A) (rest : Option A)
        → found r (join y x) rest ≡ with_found join r x (found r y rest)
    found-equal Less x y rest = refl
    found-equal Equal x y rest = refl
    found-equal Greater x y rest = refl

    found-greater : (r s : Ordering) (x y : A) (rest : Option A) → (r ≡ Equal → s ≡ Less)
        → found r y (with_found join s x rest) ≡ with_found join s x (found r y rest)
    found-greater Less s x y rest h = refl
    found-greater Equal s x y rest h = rw (h refl) refl
    found-greater Greater s x y rest h = refl

    tied-right : (k x y : A) → R x y ≡ Equal → R k x ≡ R k y
    tied-right k x y e = o.antisymm k x ∙ ap ordering_reverse (o.congr x y k e) ∙ sym (o.antisymm k y)

    find-put : (k x : A) (ys : List A) → IsRising R ys
        → find R k (put R join x ys) ≡ with_found join (R k x) x (find R k ys)
    find-put k x [] b = one-found (R k x) x
    find-put k x (y ∷ ys) b = by_case (R x y) refl (find-put k x ys b.1)
      where
        by_case : (r : Ordering) → R x y ≡ r → find R k (put R join x ys) ≡ with_found join (R k x) x (find R k ys)
            → find R k (placed r join x y ys (put R join x ys)) ≡ with_found join (R k x) x (find R k (y ∷ ys))
        by_case Less h f =
            found-less (R k x) x (find R k (y ∷ ys)) (λ e. none-tied k x (y ∷ ys) e (h, below-all x y ys h b.0))
        by_case Equal h f =
            let back : R y x ≡ Equal = o.antisymm y x ∙ ap ordering_reverse h in
            ap (λ (r : Ordering). found r (join y x) (find R k ys)) (same y x back k)
            ∙ found-equal (R k y) x y (find R k ys)
            ∙ ap (λ (r : Ordering). with_found join r x (found (R k y) y (find R k ys))) (sym (tied-right k x y h))
        by_case Greater h f =
            let less : R y x ≡ Less = o.antisymm y x ∙ ap ordering_reverse h in
            ap (found (R k y) y) f
            ∙ found-greater (R k y) (R k x) x y (find R k ys) (λ e. o.congr k y x e ∙ less)

    with-merged : (r : Ordering) (y : A) (a b : Option A) → (r ≡ Equal → b ≡ None)
        → with_found join r y (merged join a b) ≡ merged join a (found r y b)
    with-merged Less y a b h = refl
    with-merged Equal y None b h = rw (h refl) refl
    with-merged Equal y (Some x) b h = rw (h refl) refl
    with-merged Greater y a b h = refl

    pub find-united : (k : A) (xs ys : List A) → IsRising R xs → IsRising R ys
        → find R k (united R join xs ys) ≡ merged join (find R k xs) (find R k ys)
    find-united k xs [] a b = alone (find R k xs)
      where
        alone : (x : Option A) → x ≡ merged join x None
        alone None = refl
        alone (Some x) = refl
    find-united k xs (y ∷ ys) a b =
        find-put k y (united R join xs ys) (united_rises R join o same xs ys a)
        ∙ ap (with_found join (R k y) y) (find-united k xs ys a b.1)
        ∙ with-merged (R k y) y (find R k xs) (find R k ys) (λ e. none-tied k y ys e b.0)

    -- ---- laws of unions

    module _ (P : A → Type 0) where
      pub united-associates : ((x y z : A) → P x → P y → P z → join (join x y) z ≡ join x (join y z))
          → (xs ys zs : List A) → IsRising R xs → IsRising R ys → IsRising R zs → AllByRecursion P xs
          → AllByRecursion P ys → AllByRecursion P zs
          → united R join (united R join xs ys) zs ≡ united R join xs (united R join ys zs)
      united-associates assoc xs ys zs a b c p q s =
          let ab = united_rises R join o same xs ys a in
          let bc = united_rises R join o same ys zs b in
          alike _ _ (united_rises R join o same (united R join xs ys) zs ab)
          (united_rises R join o same xs (united R join ys zs) a) (λ k.
          find-united k (united R join xs ys) zs ab c
          ∙ ap (λ (u : Option A). merged join u (find R k zs)) (find-united k xs ys a b)
          ∙ three (find R k xs) (find R k ys) (find R k zs) (λ x e. found-all P k x xs p e)
          (λ x e. found-all P k x ys q e) (λ x e. found-all P k x zs s e)
          ∙ ap (merged join (find R k xs)) (sym (find-united k ys zs b c))
          ∙ sym (find-united k xs (united R join ys zs) a bc))
        where
          three : (x y z : Option A) → ((v : A) → x ≡ Some v → P v) → ((v : A) → y ≡ Some v → P v)
              → ((v : A) → z ≡ Some v → P v) → merged join (merged join x y) z ≡ merged join x (merged join y z)
          three None y z p q s = refl
          three (Some x) None None p q s = refl
          three (Some x) None (Some z) p q s = refl
          three (Some x) (Some y) None p q s = refl
          three (Some x) (Some y) (Some z) p q s = ap (λ (v : A). Some v) (assoc x y z (p x refl) (q y refl) (s z refl))

      pub united-commutes : ((x y : A) → R x y ≡ Equal → P x → P y → join x y ≡ join y x) → (xs ys : List A)
          → IsRising R xs → IsRising R ys → AllByRecursion P xs → AllByRecursion P ys
          → united R join xs ys ≡ united R join ys xs
      united-commutes comm xs ys a b p q =
          alike _ _ (united_rises R join o same xs ys a) (united_rises R join o same ys xs b) (λ k.
          find-united k xs ys a b
          ∙ two k (find R k xs) (find R k ys) (λ x e. (found-all P k x xs p e, found-rank k x xs e))
          (λ x e. (found-all P k x ys q e, found-rank k x ys e))
          ∙ sym (find-united k ys xs b a))
        where
          two : (k : A) (x y : Option A) → ((v : A) → x ≡ Some v → P v × (R k v ≡ Equal))
              → ((v : A) → y ≡ Some v → P v × (R k v ≡ Equal)) → merged join x y ≡ merged join y x
          two k None None p q = refl
          two k None (Some y) p q = refl
          two k (Some x) None p q = refl
          two k (Some x) (Some y) p q =
              let px = p x refl in
              let qy = q y refl in
              let back : R x k ≡ Equal = o.antisymm x k ∙ ap ordering_reverse px.1 in
              ap (λ (v : A). Some v) (comm x y (o.congr x k y back ∙ qy.1) px.0 qy.0)

      pub united-itself : ((x : A) → P x → join x x ≡ x) → (xs : List A) → IsRising R xs → AllByRecursion P xs
          → united R join xs xs ≡ xs
      united-itself idem xs a p =
          alike _ _ (united_rises R join o same xs xs a) a (λ k.
          find-united k xs xs a a ∙ twice (find R k xs) (λ x e. found-all P k x xs p e))
        where
          twice : (x : Option A) → ((v : A) → x ≡ Some v → P v) → merged join x x ≡ x
          twice None p = refl
          twice (Some x) p = ap (λ (v : A). Some v) (idem x (p x refl))
