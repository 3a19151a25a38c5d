-- What the two passes keep true: which trees hold up to a position, from where they may begin.
use Rattle.std.specs.Prelude.{◌≡◌, ℕ, zero, suc, ◌+◌, ◌<◌, ◌≤◌, ◌⊎◌, Bool, true, false, ◌&&◌, ◌||◌, not, nat_le, List}
use Rattle.std.specs.Prelude.{[], ◌∷◌, length, Option, Some, None, slice_get}
use Rattle.std.proofs.Common.{refl, sym, subst, ap, ◌∙◌, inl, inr, arith}
use Rattle.std.proofs.lemmas.Bool.{cases_lt, leb-true, le-leb, eqb-true, eq-eqb, false≢true}
use Rattle.wot_pattern.specs.declared.item.Item.{Item}
use Rattle.wot_pattern.specs.declared.flow.Flow.{Flow}
use Rattle.wot_pattern.specs.Reading.{Atom, exactly, any, start, end, range, Reading, nothing, single, sequence, either}
use Rattle.wot_pattern.specs.Reading.{star, plus, optional}
use Rattle.wot_pattern.specs.Meaning.{Repeats, InItems, Takes, OneTaken, AtomHolds, Holds}
use Rattle.wot_pattern.specs.MeaningTest.{in_items, takes}
use Rattle.wot_pattern.specs.Passes.{flow, holds_empty}
use Rattle.wot_pattern.proofs.Tests.{IsTestOf, tells_or, tells_and, tells_as, tells_always, tells_never}

pub Repeats-le :
    (R : ℕ → ℕ → Type 0) → ((i j : ℕ) → R i j → i ≤ j) → (n i j : ℕ) → Repeats R n i j → i ≤ j
Repeats-le R f zero i j e = omega arith
Repeats-le R f (suc n) i j (k, r, more) =
    let a : i ≤ k = f i k r in let b : k ≤ j = Repeats-le R f n k j more in omega arith

Repeats-snoc : (R : ℕ → ℕ → Type 0) (n i k j : ℕ) → Repeats R n i k → R k j → Repeats R (suc n) i j
Repeats-snoc R zero i k j e r = (j, subst (λ x. R x j) (sym e) r, refl)
Repeats-snoc R (suc n) i k j (m, a, more) r = (m, a, Repeats-snoc R n m k j more r)

le_tells : (a b : ℕ) → IsTestOf (nat_le a b) (a ≤ b)
le_tells a b = record { says = λ e. leb-true a b e; said = λ l. le-leb a b l }

in_items_tells : (c : ℕ) (xs : List Item) → IsTestOf (in_items c xs) (InItems c xs)
in_items_tells c [] = tells_never false ⊥ refl (λ h. h)
in_items_tells c (x ∷ xs) =
    tells_or (nat_le x.from c && nat_le c x.to) (in_items c xs) ((x.from ≤ c) × (c ≤ x.to)) (InItems c xs)
    (tells_and (nat_le x.from c) (nat_le c x.to) (x.from ≤ c) (c ≤ x.to) (le_tells x.from c) (le_tells c x.to))
    (in_items_tells c xs)

tells_not : (b : Bool) (P : Type 0) → IsTestOf b P → IsTestOf (not b) (P → ⊥)
tells_not true P h = tells_never false (P → ⊥) refl (λ f. f (h.says refl))
tells_not false P h = tells_always (P → ⊥) (λ p. false≢true (h.said p))

pub takes_tells : (a : Atom) (c : ℕ) → IsTestOf (takes a c) (Takes a c)
takes_tells (exactly d) c = record { says = λ e. eqb-true c d e; said = λ e. eq-eqb c d e }
takes_tells any c = tells_always (Unit {0}) tt
takes_tells start c = tells_never false ⊥ refl (λ h. h)
takes_tells end c = tells_never false ⊥ refl (λ h. h)
takes_tells (range false items) c = in_items_tells c items
takes_tells (range true items) c = tells_not (in_items c items) (InItems c items) (in_items_tells c items)

module _ (text : List ℕ) where
  OneTaken-le : (a : Atom) (i j : ℕ) → OneTaken a text i j → i ≤ j
  OneTaken-le a i j h = let e : j ≡ i + 1 = h.0 in omega arith

  AtomHolds-le : (a : Atom) (i j : ℕ) → AtomHolds text a i j → i ≤ j
  AtomHolds-le start i j h = let e : i ≡ 0 = h.0 in omega arith
  AtomHolds-le end i j h = let e : i ≡ length text = h.0 in let e' : j ≡ length text = h.1 in omega arith
  AtomHolds-le (exactly d) i j h = OneTaken-le (exactly d) i j h
  AtomHolds-le any i j h = OneTaken-le any i j h
  AtomHolds-le (range n xs) i j h = OneTaken-le (range n xs) i j h

  pub Holds-le : (r : Reading) (i j : ℕ) → Holds text r i j → i ≤ j
  Holds-le nothing i j h = omega arith
  Holds-le (single a) i j h = AtomHolds-le a i j h
  Holds-le (sequence p q) i j (k, h, h') =
      let a : i ≤ k = Holds-le p i k h in let b : k ≤ j = Holds-le q k j h' in omega arith
  Holds-le (either p q) i j h = elim h [ inl x ↦ Holds-le p i j x | inr y ↦ Holds-le q i j y ]
  Holds-le (star p) i j (n, h) = Repeats-le (Holds text p) (λ i j. Holds-le p i j) n i j h
  Holds-le (plus p) i j (n, h) = Repeats-le (Holds text p) (λ i j. Holds-le p i j) (suc n) i j h
  Holds-le (optional p) i j h = elim h [ inl x ↦ omega arith | inr y ↦ Holds-le p i j y ]

  -- it may begin at some position before this one, and ends here
  abbrev pub Ended : Reading → (ℕ → Type 0) → ℕ → Type 0
  Ended r B i = (j : ℕ) × (j < i) × B j × Holds text r j i

  -- where what comes after it may begin
  abbrev pub After : (ℕ → Type 0) → Reading → ℕ → Type 0
  After B r i = (j : ℕ) × B j × Holds text r j i

  -- it may begin where it ends
  Closed : Reading → (ℕ → Type 0) → Type 0
  Closed p S = (j k : ℕ) → S j → Holds text p j k → S k

  last_turn :
      (p : Reading) (S : ℕ → Type 0) → ((j k : ℕ) → S j → Holds text p j k → S k)
      → (n j i : ℕ) → S j → Repeats (Holds text p) n j i → j < i → Ended p S i
  last_turn p S f zero j i s e l = absurd (omega arith)
  last_turn p S f (suc n) j i s (k, h, more) l =
      elim (cases_lt k i) [
        | inl k<i ↦ last_turn p S f n k i (f j k s h) more k<i
        | inr i≤k ↦
            let m : k ≤ i = Repeats-le (Holds text p) (λ i j. Holds-le p i j) n k i more in
            let e : k ≡ i = omega arith in (j, l, s, subst (λ x. Holds text p j x) e h)
      ]

  module _ (B : ℕ → Type 0) (p : Reading) where
    star_closed : (j k : ℕ) → After B (star p) j → Holds text p j k → After B (star p) k
    star_closed j k (m, b, (n, t)) h = (m, b, (suc n, Repeats-snoc (Holds text p) n m j k t h))

    -- a turn from where one may begin, in the loop
    loops : (i : ℕ) → Ended p (After B (star p)) i
        → (j : ℕ) × (j < i) × B j × ((n : ℕ) × Repeats (Holds text p) (suc n) j i)
    loops i (m, l, (j, b, (n, t)), h) =
        let a : j ≤ m = Repeats-le (Holds text p) (λ i j. Holds-le p i j) n j m t in
        (j, omega arith, b, (n, Repeats-snoc (Holds text p) n j m i t h))

    turns_end : (i j n : ℕ) → j < i → B j → Repeats (Holds text p) n j i → Ended p (After B (star p)) i
    turns_end i j n l b t = last_turn p (After B (star p)) star_closed n j i (j, b, (0, refl)) t l

    pub star_ended : (i : ℕ) (b : Bool) → IsTestOf b (Ended p (After B (star p)) i) → IsTestOf b (Ended (star p) B i)
    star_ended i b h = tells_as b (Ended p (After B (star p)) i) (Ended (star p) B i) h
        (λ e. let (j, l, c, (n, t)) = loops i e in (j, l, c, (suc n, t)))
        (λ (j, l, c, (n, t)). turns_end i j n l c t)

    pub plus_ended : (i : ℕ) (b : Bool) → IsTestOf b (Ended p (After B (star p)) i) → IsTestOf b (Ended (plus p) B i)
    plus_ended i b h = tells_as b (Ended p (After B (star p)) i) (Ended (plus p) B i) h
        (loops i)
        (λ (j, l, c, (n, t)). turns_end i j (suc n) l c t)

    pub plus_empty : (i : ℕ) (b : Bool) → IsTestOf b (Holds text p i i) → IsTestOf b (Holds text (plus p) i i)
    plus_empty i b h = tells_as b (Holds text p i i) (Holds text (plus p) i i) h
        (λ x. (0, (i, x, refl)))
        (λ (n, (k, x, t)).
        let l : i ≤ k = Holds-le p i k x in
        let m : k ≤ i = Repeats-le (Holds text p) (λ i j. Holds-le p i j) n k i t in
        let e : k ≡ i = omega arith in subst (λ y. Holds text p i y) e x)

    -- where a turn may begin
    pub loop_begins :
        (i : ℕ) (x b : Bool) → IsTestOf x (B i) → IsTestOf b (Ended p (After B (star p)) i)
        → IsTestOf (x || b) (After B (star p) i)
    loop_begins i x b h k = tells_as (x || b) (B i ⊎ Ended p (After B (star p)) i) (After B (star p) i)
        (tells_or x b (B i) (Ended p (After B (star p)) i) h k)
        (elim [ inl c ↦ (i, c, (0, refl)) | inr e ↦ let (j, l, c, (n, t)) = loops i e in (j, c, (suc n, t)) ])
        (λ (j, c, (n, t)). elim (cases_lt j i) [
          | inl l ↦ inr (turns_end i j n l c t)
          | inr l ↦
              let m : j ≤ i = Repeats-le (Holds text p) (λ i j. Holds-le p i j) n j i t in
              let e : j ≡ i = omega arith in inl (subst B e c)
        ])

  -- what a tree lets through at this position, where it may begin at these
  pub record Right (r : Reading) (B : ℕ → Type 0) (i : ℕ) (f : Flow) : Type 0 where
    pub empty : IsTestOf f.empty (Holds text r i i)
    pub ended : IsTestOf f.ended (Ended r B i)

  pub right_nothing : (B : ℕ → Type 0) (i : ℕ) → Right nothing B i (flow true false)
  right_nothing B i = record {
    empty = tells_always (i ≡ i) refl;
    ended = tells_never false (Ended nothing B i) refl (λ (j, l, b, e). omega arith);
  }

  pub right_sequence :
      (B : ℕ → Type 0) (p q : Reading) (i : ℕ) (f g : Flow) → Right p B i f → Right q (After B p) i g
      → Right (sequence p q) B i (flow (f.empty && g.empty) (g.ended || (f.ended && g.empty)))
  right_sequence B p q i f g h k = record {
    empty = tells_as (f.empty && g.empty) (Holds text p i i × Holds text q i i) (Holds text (sequence p q) i i)
        (tells_and f.empty g.empty (Holds text p i i) (Holds text q i i) h.empty k.empty)
        (λ (a, b). (i, a, b))
        (λ (m, a, b).
        let l : i ≤ m = Holds-le p i m a in let l' : m ≤ i = Holds-le q m i b in let e : m ≡ i = omega arith in
        (subst (λ y. Holds text p i y) e a, subst (λ y. Holds text q y i) e b));
    ended = tells_as (g.ended || (f.ended && g.empty)) (Ended q (After B p) i ⊎ (Ended p B i × Holds text q i i))
        (Ended (sequence p q) B i)
        (tells_or g.ended (f.ended && g.empty) (Ended q (After B p) i) (Ended p B i × Holds text q i i) k.ended
        (tells_and f.ended g.empty (Ended p B i) (Holds text q i i) h.ended k.empty))
        (elim [
          | inl (m, l, (j, b, a), c) ↦ let l' : j ≤ m = Holds-le p j m a in (j, omega arith, b, (m, a, c))
          | inr ((j, l, b, a), c) ↦ (j, l, b, (i, a, c))
        ])
        (λ (j, l, b, (m, a, c)). elim (cases_lt m i) [
          | inl m<i ↦ inl (m, m<i, (j, b, a), c)
          | inr i≤m ↦
              let l' : m ≤ i = Holds-le q m i c in let e : m ≡ i = omega arith in
              inr ((j, l, b, subst (λ y. Holds text p j y) e a), subst (λ y. Holds text q y i) e c)
        ]);
  }

  -- where the second part of a sequence may begin
  pub second_begins :
      (B : ℕ → Type 0) (p : Reading) (i : ℕ) (x : Bool) (f : Flow) → IsTestOf x (B i) → Right p B i f
      → IsTestOf (f.ended || (x && f.empty)) (After B p i)
  second_begins B p i x f h k =
      tells_as (f.ended || (x && f.empty)) (Ended p B i ⊎ (B i × Holds text p i i)) (After B p i)
      (tells_or f.ended (x && f.empty) (Ended p B i) (B i × Holds text p i i) k.ended
      (tells_and x f.empty (B i) (Holds text p i i) h k.empty))
      (elim [ inl (j, l, b, a) ↦ (j, b, a) | inr (b, a) ↦ (i, b, a) ])
      (λ (j, b, a). elim (cases_lt j i) [
        | inl l ↦ inl (j, l, b, a)
        | inr l ↦ let m : j ≤ i =
            Holds-le p j i a in let e : j ≡ i = omega arith in inr (subst B e b, subst (λ y. Holds text p y i) e a)
      ])

  pub right_either :
      (B : ℕ → Type 0) (p q : Reading) (i : ℕ) (f g : Flow) → Right p B i f → Right q B i g
      → Right (either p q) B i (flow (f.empty || g.empty) (f.ended || g.ended))
  right_either B p q i f g h k = record {
    empty = tells_or f.empty g.empty (Holds text p i i) (Holds text q i i) h.empty k.empty;
    ended = tells_as (f.ended || g.ended) (Ended p B i ⊎ Ended q B i) (Ended (either p q) B i)
        (tells_or f.ended g.ended (Ended p B i) (Ended q B i) h.ended k.ended)
        (elim [ inl (j, l, b, a) ↦ (j, l, b, inl a) | inr (j, l, b, a) ↦ (j, l, b, inr a) ])
        (λ (j, l, b, a). elim a [ inl x ↦ inl (j, l, b, x) | inr y ↦ inr (j, l, b, y) ]);
  }

  pub right_star :
      (B : ℕ → Type 0) (p : Reading) (i : ℕ) (f : Flow) → Right p (After B (star p)) i f
      → Right (star p) B i (flow true f.ended)
  right_star B p i f h = record {
    empty = tells_always (Holds text (star p) i i) (0, refl);
    ended = star_ended B p i f.ended h.ended;
  }

  pub right_plus : (B : ℕ → Type 0) (p : Reading) (i : ℕ) (f : Flow) → Right p (After B (star p)) i f
      → Right (plus p) B i f
  right_plus B p i f h = record { empty = plus_empty B p i f.empty h.empty; ended = plus_ended B p i f.ended h.ended }

  pub right_optional : (B : ℕ → Type 0) (p : Reading) (i : ℕ) (f : Flow) → Right p B i f
      → Right (optional p) B i (flow true f.ended)
  right_optional B p i f h = record {
    empty = tells_always (Holds text (optional p) i i) (inl refl);
    ended = tells_as f.ended (Ended p B i) (Ended (optional p) B i) h.ended
        (λ (j, l, b, a). (j, l, b, inr a))
        (λ (j, l, b, a). elim a [ inl e ↦ absurd (omega arith) | inr y ↦ (j, l, b, y) ]);
  }

  empty_atom :
      (first last : Bool) (i : ℕ) → IsTestOf first (i ≡ 0) → IsTestOf last (i ≡ length text)
      → (a : Atom) → IsTestOf (holds_empty first last a) (AtomHolds text a i i)
  empty_atom first last i h k start = tells_as first (i ≡ 0) (AtomHolds text start i i) h (λ e. (e, e)) (λ e. e.0)
  empty_atom first last i h k end = tells_as last (i ≡ length text) (AtomHolds text end i i) k (λ e. (e, e)) (λ e. e.0)
  empty_atom first last i h k (exactly d) =
      tells_never false (OneTaken (exactly d) text i i) refl (λ e. let e' : i ≡ i + 1 = e.0 in omega arith)
  empty_atom first last i h k any =
      tells_never false (OneTaken any text i i) refl (λ e. let e' : i ≡ i + 1 = e.0 in omega arith)
  empty_atom first last i h k (range n xs) =
      tells_never false (OneTaken (range n xs) text i i) refl (λ e. let e' : i ≡ i + 1 = e.0 in omega arith)

  pub right_single :
      (first last : Bool) (i : ℕ) → IsTestOf first (i ≡ 0) → IsTestOf last (i ≡ length text)
      → (B : ℕ → Type 0) (a : Atom) (f : Flow) → IsTestOf f.ended (Ended (single a) B i)
      → Right (single a) B i (flow (holds_empty first last a) f.ended)
  right_single first last i h k B a f e = record { empty = empty_atom first last i h k a; ended = e }

  -- an atom that ends after its beginning takes one character
  one_taken : (a : Atom) (j i : ℕ) → j < i → AtomHolds text a j i → OneTaken a text j i
  one_taken start j i l h = let e : i ≡ 0 = h.1 in absurd (omega arith)
  one_taken end j i l h = let e : j ≡ length text = h.0 in let e' : i ≡ length text = h.1 in absurd (omega arith)
  one_taken (exactly d) j i l h = h
  one_taken any j i l h = h
  one_taken (range n xs) j i l h = h

  atom_holds : (a : Atom) (j i : ℕ) → OneTaken a text j i → AtomHolds text a j i
  atom_holds start j i (e, (c, g, t)) = absurd t
  atom_holds end j i (e, (c, g, t)) = absurd t
  atom_holds (exactly d) j i h = h
  atom_holds any j i h = h
  atom_holds (range n xs) j i h = h

  same_char : (i c d : ℕ) → slice_get text i ≡ Some c → slice_get text i ≡ Some d → c ≡ d
  same_char i c d e f = ap (λ (o : Option ℕ). elim o [ None ↦ c | Some x ↦ x ]) (sym e ∙ f)

  pub taken_ended :
      (B : ℕ → Type 0) (a : Atom) (i c : ℕ) (x : Bool) → slice_get text i ≡ Some c → IsTestOf x (B i)
      → IsTestOf (x && takes a c) (Ended (single a) B (i + 1))
  taken_ended B a i c x e h = tells_as (x && takes a c) (B i × Takes a c) (Ended (single a) B (i + 1))
      (tells_and x (takes a c) (B i) (Takes a c) h (takes_tells a c))
      (λ (b, t). (i, omega arith, b, atom_holds a i (i + 1) (refl, (c, e, t))))
      (λ (j, l, b, a').
      let (e', (d, g, t)) = one_taken a j (i + 1) l a' in
      let q : j ≡ i = omega arith in
      (subst B q b, subst (λ y. Takes a y) (sym (same_char i c d e (subst (λ y. slice_get text y ≡ Some d) q g))) t))
