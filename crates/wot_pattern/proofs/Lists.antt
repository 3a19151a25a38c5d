-- Facts on the rest of a text, and on the items of a range that were read so far.
use Rattle.std.specs.Prelude.{◌≡◌, ◌≢◌, ℕ, suc, ◌+◌, ◌-◌, ◌<◌, ◌≤◌, Bool, List, [], ◌∷◌, ◌++◌, length, Option, Some}
use Rattle.std.specs.Prelude.{None, Result, Ok, Err, IfErr}
use Rattle.std.proofs.Common.{refl, sym, subst, ap, ◌∙◌, arith, append_assoc, get_or, drop, take, add-one, length-drop}
use Rattle.std.proofs.Math.Seq.{drop-cons}
use Rattle.std.proofs.lemmas.List.{append-nil, drop_all, take_all, drop-drop}
use Rattle.wot_pattern.specs.declared.item.Item.{Item}
use Rattle.wot_pattern.specs.declared.mark.Mark.{Mark}
use Rattle.wot_pattern.specs.Marks.{mark_of}
use Rattle.wot_pattern.specs.Reading.{Atom, range, Reading}
use Rattle.wot_pattern.specs.Steps.{State, ParserStepBy, ParserStep, Runs}
use Rattle.wot_pattern.specs.Grammar as g
use Rattle.wot_pattern.specs.Grammar.{item, first_item, Items, Range, caret, closing_bracket}
use Rattle.wot_pattern.proofs.Complete.{some_same, head_same, Runs-stuck}

pub rest_at : (text : List ℕ) (at c : ℕ) → at < length text → c ≡ get_or text at c
    → drop at text ≡ c ∷ drop (at + 1) text
rest_at text at c l e =
    drop-cons text at c l ∙ ap (λ x. x ∷ drop (suc at) text) (sym e) ∙ ap (λ x. c ∷ drop x text) (sym (add-one at))

pub rest_slice : (text : List ℕ) (at : ℕ) → take (length text - at) (drop at text) ≡ drop at text
rest_slice text at =
    let h : length (drop at text) ≤ length text - at = simp length-drop (omega arith) in
    take_all (length text - at) (drop at text) h

-- what was read of a slice, as read of the text
pub item_here :
    (text : List ℕ) (at : ℕ) (f : List ℕ → Option (Item × List ℕ)) (x : Item) (k : ℕ)
    → f (take (length text - at) (drop at text)) ≡ Some (x, drop k (take (length text - at) (drop at text)))
    → f (drop at text) ≡ Some (x, drop (at + k) text)
item_here text at f x k e =
    ap f (sym (rest_slice text at)) ∙ e ∙ ap (λ z. Some (x, drop k z)) (rest_slice text at)
    ∙ ap (λ z. Some (x, z)) (drop-drop k at text)

pub length_slice : (text : List ℕ) (at k : ℕ) → at ≤ length text → k ≤ length (take (length text - at) (drop at text))
    → at + k ≤ length text
length_slice text at k l h =
    let e : length (take (length text - at) (drop at text)) ≡ length (drop at text) = ap length (rest_slice text at) in
    let f : length (drop at text) ≡ length text - at = simp length-drop in omega arith

-- these items were read between the two rests
pub record ItemsSoFar (from rest : List ℕ) (xs : List Item) : Type 0 where
  pub on : (ys : List Item) (r : List ℕ) → Items rest ys r → Items from (xs ++ ys) r
  pub back : (ys : List Item) (r : List ℕ) → Items from ys r → (zs : List Item) × (ys ≡ xs ++ zs) × Items rest zs r

pub items_none : (from : List ℕ) → ItemsSoFar from from []
items_none from = record { on = λ ys r h. h; back = λ ys r h. (ys, refl, h) }

one_more :
    {t r : List ℕ} {zs : List Item} → Items t zs r → (c : ℕ) (u v : List ℕ) (x : Item) → t ≡ c ∷ u → c ≢ closing_bracket
    → item t ≡ Some (x, v)
    → (ws : List Item) × (zs ≡ x ∷ ws) × Items v ws r
one_more (g.closed {c = d} {rest = r} e) c u v x q ne is =
    absurd (ne (ap (λ (l : List ℕ). elim l [ [] ↦ c | y ∷ ys ↦ y ]) (sym q) ∙ e))
one_more {r = r} (g.more {c = d} {t = t} {u = u'} {x = y} {xs = ys} ne' is' h) c u v x q ne is =
    let (ex, eu) = some_same {A = Item} {B = List ℕ} y x u' v (sym is' ∙ is) in
    (ys, ap (λ z. z ∷ ys) ex, subst (λ z. Items z ys r) eu h)

pub items_more :
    (from t v : List ℕ) (xs : List Item) (c : ℕ) (u : List ℕ) (x : Item)
    → ItemsSoFar from t xs → t ≡ c ∷ u → c ≢ closing_bracket → item t ≡ Some (x, v) → ItemsSoFar from v (xs ++ x ∷ [])
items_more from t v xs c u x h q ne is = record {
  on = λ ys r k.
      let m : Items t (x ∷ ys) r = subst (λ z. Items z (x ∷ ys) r) (sym q) (g.more ne (ap item (sym q) ∙ is) k) in
      subst (λ z. Items from z r) (sym (append_assoc xs (x ∷ []) ys)) (h.on (x ∷ ys) r m);
  back = λ ys r k.
      let (zs, e, m) = h.back ys r k in
      let (ws, f, n) = one_more m c u v x q ne is in
      (ws, e ∙ ap (λ z. xs ++ z) f ∙ sym (append_assoc xs (x ∷ []) ws), n);
}

pub items_closed :
    (from t : List ℕ) (xs : List Item) (c : ℕ) (u : List ℕ) → ItemsSoFar from t xs → t ≡ c ∷ u → c ≡ closing_bracket
    → Items from xs u
items_closed from t xs c u h q e =
    subst (λ z. Items from z u) (append-nil xs) (h.on [] u (subst (λ z. Items z [] u) (sym q) (g.closed e)))

no_items : {xs : List Item} {r : List ℕ} → Items [] xs r → ⊥
no_items h = elim h [ ]

pub items_end : (from t : List ℕ) (xs : List Item) → ItemsSoFar from t xs → t ≡ [] → (ys : List Item) (r : List ℕ)
    → Items from ys r → ⊥
items_end from t xs h q ys r k = let (zs, e, m) = h.back ys r k in no_items (subst (λ z. Items z zs r) q m)

stuck : {t r : List ℕ} {zs : List Item} → Items t zs r → (c : ℕ) (u : List ℕ) → t ≡ c ∷ u → c ≢ closing_bracket
    → item t ≡ None → ⊥
stuck (g.closed {c = d} {rest = r} e) c u q ne is = ne (ap (λ (l : List ℕ). elim l [ [] ↦ c | y ∷ ys ↦ y ]) (sym q) ∙ e)
stuck (g.more {u = v} {x = y} ne' is' h) c u q ne is =
    let e : ◌≡◌ {A = Option (Item × List ℕ)} (Some (y, v)) None = sym is' ∙ is in cc

pub items_stuck :
    (from t : List ℕ) (xs : List Item) (c : ℕ) (u : List ℕ) → ItemsSoFar from t xs → t ≡ c ∷ u → c ≢ closing_bracket
    → item t ≡ None
    → (ys : List Item) (r : List ℕ) → Items from ys r → ⊥
items_stuck from t xs c u h q ne is ys r k = let (zs, e, m) = h.back ys r k in stuck m c u q ne is

pub range_negated :
    (text : List ℕ) (start c : ℕ) (a : Atom) (x : Item) (u rest : List ℕ) (xs : List Item)
    → start < length text → c ≡ get_or text start c → c ≡ caret → first_item (drop (start + 1) text) ≡ Some (x, u)
    → Items u xs rest → a ≡ range Bool.true (x ∷ xs)
    → Range (drop start text) a rest
range_negated text start c a x u rest xs l at e f i is =
    subst (λ z. Range (drop start text) z rest) (sym is)
    (subst (λ z. Range z (range Bool.true (x ∷ xs)) rest) (sym (rest_at text start c l at)) (g.negated e f i))

-- the text doesn't begin with a caret
abbrev pub NoCaret : List ℕ → Type 0
NoCaret [] = Unit {0}
NoCaret (c ∷ t) = c ≢ caret

range_positive_at :
    (t : List ℕ) (x : Item) (u rest : List ℕ) (xs : List Item) → NoCaret t → first_item t ≡ Some (x, u)
    → Items u xs rest → Range t (range Bool.false (x ∷ xs)) rest
range_positive_at [] x u rest xs ne f i = let e : ◌≡◌ {A = Option (Item × List ℕ)} None (Some (x, u)) = f in cc
range_positive_at (c ∷ t) x u rest xs ne f i = g.positive ne f i

pub range_positive :
    (t : List ℕ) (a : Atom) (x : Item) (u rest : List ℕ) (xs : List Item)
    → NoCaret t → first_item t ≡ Some (x, u) → Items u xs rest → a ≡ range Bool.false (x ∷ xs) → Range t a rest
range_positive t a x u rest xs ne f i is = subst (λ z. Range t z rest) (sym is) (range_positive_at t x u rest xs ne f i)

pub no_caret_end : (text : List ℕ) (start : ℕ) → length text ≤ start → NoCaret (drop start text)
no_caret_end text start l = subst NoCaret (sym (drop_all start text l)) tt

pub no_caret_here : (text : List ℕ) (start c : ℕ) → start < length text → c ≡ get_or text start c → c ≢ caret
    → NoCaret (drop start text)
no_caret_here text start c l at ne = subst NoCaret (sym (rest_at text start c l at)) ne

pub no_positive : {t r : List ℕ} {a : Atom} → Range t a r → NoCaret t
    → ((x : Item) (u : List ℕ) (xs : List Item) (r : List ℕ) → first_item t ≡ Some (x, u) → Items u xs r → ⊥) → ⊥
no_positive (g.negated e f i) ne k = ne e
no_positive (g.positive {u = u} {rest = r} {x = x} {xs = xs} ne f i) ne' k = k x u xs r f i

pub no_negated :
    {t r : List ℕ} {a : Atom} → Range t a r → (c : ℕ) (v : List ℕ) → t ≡ c ∷ v → c ≡ caret
    → ((x : Item) (u : List ℕ) (xs : List Item) (r : List ℕ) → first_item v ≡ Some (x, u) → Items u xs r → ⊥) → ⊥
no_negated (g.negated {t = t} {u = u} {rest = r} {x = x} {xs = xs} e f i) c v q e' k =
    k x u xs r (ap first_item (sym (ap (λ (l : List ℕ). elim l [ [] ↦ t | y ∷ ys ↦ ys ]) q)) ∙ f) i
no_negated (g.positive {c = d} ne f i) c v q e' k = ne (ap (λ (l : List ℕ). elim l [ [] ↦ d | y ∷ ys ↦ y ]) q ∙ e')

pub if_err : {A E : Type 0} (r : Result A E) (P Q : E → Type 0) → ((e : E) → P e → Q e) → IfErr r P → IfErr r Q
if_err (Ok a) P Q f h = tt
if_err (Err e) P Q f h = f e h

here : (text : List ℕ) (at c : ℕ) → at < length text → c ≡ get_or text at c → c ≡ get_or text at 0
here text at c l e = e ∙ head_same (sym (drop-cons text at c l) ∙ drop-cons text at 0 l)

-- a step from a character is a step from the text there
pub step_here :
    (text : List ℕ) (at c : ℕ) (mark : Mark) → at < length text → c ≡ get_or text at c → mark ≡ mark_of c
    → (s s' : State) (t : List ℕ) → ParserStepBy mark s (get_or text at 0) (drop (at + 1) text) s' t
    → ParserStep s (drop at text) s' t
step_here text at c mark l e m s s' t h =
    subst (λ z. ParserStep s z s' t)
    (sym (drop-cons text at 0 l ∙ ap (λ z. get_or text at 0 ∷ drop z text) (sym (add-one at))))
    (subst (λ z. ParserStepBy z s (get_or text at 0) (drop (at + 1) text) s' t) (m ∙ ap mark_of (here text at c l e)) h)

-- the converse
pub no_step_here :
    (text : List ℕ) (at c : ℕ) (mark : Mark) → at < length text → c ≡ get_or text at c → mark ≡ mark_of c → (s : State)
    → ((s' : State) (t : List ℕ) → ParserStepBy mark s (get_or text at 0) (drop (at + 1) text) s' t → ⊥) → (p : Reading)
    → Runs s (drop at text) p → ⊥
no_step_here text at c mark l e m s f p h =
    Runs-stuck (subst (λ z. Runs s z p)
    (drop-cons text at 0 l ∙ ap (λ z. get_or text at 0 ∷ drop z text) (sym (add-one at))) h)
    (λ s' t k. f s' t
    (subst (λ z. ParserStepBy z s (get_or text at 0) (drop (at + 1) text) s' t)
    (sym (m ∙ ap mark_of (here text at c l e))) k))
