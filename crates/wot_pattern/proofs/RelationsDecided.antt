-- The functions agree with the relations.
use Rattle.std.specs.Prelude.{◌≡◌, ◌≢◌, ℕ, zero, suc, ◌≤◌, ◌==◌, Bool, true, false, not, ◌&&◌, List, [], ◌∷◌, length}
use Rattle.std.specs.Prelude.{Option, Some, None, nat_le}
use Rattle.std.proofs.Common.{refl, sym, subst, ap, ◌∙◌, arith, cond}
use Rattle.std.specs.Option.{option_map, option_and_then}
use Rattle.std.proofs.lemmas.Bool.{eqb-true, eq-eqb, ne_eqb, leb-true, le-leb, false≢true}
use Rattle.std.proofs.lemmas.Option.{none-some, option_and_then_some, some_pair_parts}
use Rattle.wot_pattern.specs.declared.item.Item.{Item}
use Rattle.wot_pattern.specs.declared.mark.Mark.{Mark}
use Rattle.wot_pattern.specs.declared.mark.Mark.TheVariants as m
use Rattle.wot_pattern.specs.Marks.{mark_of}
use Rattle.wot_pattern.specs.Reading.{Reading, exactly, any, start, end, range, single, star, plus, optional}
use Rattle.wot_pattern.specs.Reading as r
use Rattle.wot_pattern.specs.Grammar as g
use Rattle.wot_pattern.specs.Grammar.{item, first_item, closing_bracket, caret, dash, from_to, Items, Range, Reads}
use Rattle.wot_pattern.specs.Grammar.{Says}
use Rattle.wot_pattern.specs.Steps.{Level, Last, none, atom, piece, State, with_atom, entered, left, barred, with_piece}
use Rattle.wot_pattern.specs.Steps.{level_so_far, fresh, ParserStepBy, ParserStep, Runs, accepted, next}
use Rattle.wot_pattern.specs.Deciding.{behind_item, items_in, as_range, range_of_items, range_in, Far, escaped, ranged}
use Rattle.wot_pattern.specs.Deciding.{opened, closed, repeated, stepped, finished, run_from, pattern_of}
use Rattle.wot_pattern.proofs.Sound.{SoFar, SoFar-step, SoFar-fresh, SoFar-end}
use Rattle.wot_pattern.proofs.Complete.{runs_from_reads}

-- ---- ranges

behind_some : (x : Item) (o : Option (List Item × List ℕ)) (xs : List Item) (u : List ℕ)
    → behind_item x o ≡ Some (xs, u) → (ys : List Item) × (w : List ℕ) × (o ≡ Some (ys, w)) × (x ∷ ys ≡ xs) × (w ≡ u)
behind_some x None xs u e = absurd (none-some (xs, u) e)
behind_some x (Some y) xs u e = let (p, q) = some_pair_parts (x ∷ y.0) xs y.1 u e in (y.0, y.1, refl, p, q)

not_equal : (a b : ℕ) → (a == b) ≡ false → a ≢ b
not_equal a b f s = false≢true (sym f ∙ eq-eqb a b s)

items_case : (c : ℕ) (t : List ℕ) (xs : List Item) (u : List ℕ) (more : List ℕ → Option (List Item × List ℕ))
    → ((v : List ℕ) (ys : List Item) (w : List ℕ) → more v ≡ Some (ys, w) → Items v ys w)
    → cond (c == closing_bracket) (Some ([], t))
    (option_and_then (λ (x : Item × List ℕ). behind_item x.0 (more x.1)) (item (c ∷ t))) ≡ Some (xs, u)
    → Items (c ∷ t) xs u
items_case c t xs u more ih e = by (c == closing_bracket) refl e
  where
    by : (b : Bool) → (c == closing_bracket) ≡ b
        → cond b (Some ([], t))
        (option_and_then (λ (x : Item × List ℕ). behind_item x.0 (more x.1)) (item (c ∷ t))) ≡ Some (xs, u)
        → Items (c ∷ t) xs u
    by true f e =
        let (p, q) = some_pair_parts {A = List Item} {B = List ℕ} [] xs t u e in
        subst (λ (ys : List Item). Items (c ∷ t) ys u) p
        (subst (λ (w : List ℕ). Items (c ∷ t) [] w) q (g.closed (eqb-true c closing_bracket f)))
    by false f e =
        option_and_then_some (λ (x : Item × List ℕ). behind_item x.0 (more x.1)) (item (c ∷ t)) (xs, u) e (λ x i h.
        let (ys, w, k, p, q) = behind_some x.0 (more x.1) xs u h in
        subst (λ (z : List Item). Items (c ∷ t) z u) p
        (subst (λ (z : List ℕ). Items (c ∷ t) (x.0 ∷ ys) z) q
        (g.more (not_equal c closing_bracket f) i (ih x.1 ys w k))))

items_says : (n : ℕ) (t : List ℕ) (xs : List Item) (u : List ℕ) → items_in n t ≡ Some (xs, u) → Items t xs u
items_says zero t xs u e = absurd (none-some (xs, u) e)
items_says (suc n) [] xs u e = absurd (none-some (xs, u) e)
items_says (suc n) (c ∷ t) xs u e = items_case c t xs u (items_in n) (λ v ys w h. items_says n v ys w h) e

-- an item takes a character at least
item_le : (c : ℕ) (t u : List ℕ) (x : Item) → item (c ∷ t) ≡ Some (x, u) → length u ≤ length t
item_le c [] u x e =
    let (p, q) = some_pair_parts (from_to c c) x [] u e in subst (λ (z : List ℕ). length z ≤ 0) q (omega arith)
item_le c (h ∷ []) u x e =
    let (p, q) = some_pair_parts (from_to c c) x (h ∷ []) u e in subst (λ (z : List ℕ). length z ≤ 1) q (omega arith)
item_le c (h ∷ d ∷ t) u x e = by ((h == dash) && not (d == closing_bracket)) (nat_le c d) e
  where
    by : (a b : Bool)
        → cond {A = Option (Item × List ℕ)} a (cond {A = Option (Item × List ℕ)} b (Some (from_to c d, t)) None)
        (Some (from_to c c, h ∷ d ∷ t)) ≡ Some (x, u) → length u ≤ length (h ∷ d ∷ t)
    by true true e =
        let (p, q) = some_pair_parts (from_to c d) x t u e in
        subst (λ (z : List ℕ). length z ≤ length (h ∷ d ∷ t)) q (omega arith)
    by true false e = absurd (none-some (x, u) e)
    by false b e =
        let (p, q) = some_pair_parts (from_to c c) x (h ∷ d ∷ t) u e in
        subst (λ (z : List ℕ). length z ≤ length (h ∷ d ∷ t)) q (omega arith)

first_le : (t u : List ℕ) (x : Item) → first_item t ≡ Some (x, u) → length u ≤ length t
first_le [] u x e = absurd (none-some (x, u) e)
first_le (c ∷ t) u x e = by (c == dash) e
  where
    by : (b : Bool) → cond {A = Option (Item × List ℕ)} b (Some (from_to c c, t)) (item (c ∷ t)) ≡ Some (x, u)
        → length u ≤ length (c ∷ t)
    by true e = let (p, q) =
        some_pair_parts (from_to c c) x t u e in subst (λ (z : List ℕ). length z ≤ length (c ∷ t)) q (omega arith)
    by false e = let l = item_le c t u x e in omega arith

items_told : {t u : List ℕ} {xs : List Item} → Items t xs u → (n : ℕ) → length t ≤ n → items_in n t ≡ Some (xs, u)
items_told (g.closed {c = c} {rest = rest} e) zero l = absurd (omega (arith, l))
items_told (g.closed {c = c} {rest = rest} e) (suc n) l = rw (eq-eqb c closing_bracket e) refl
items_told (g.more {c = c} {t = t} {u = u} {rest = rest} {x = x} {xs = xs} ne is h) zero l = absurd (omega (arith, l))
items_told (g.more {c = c} {t = t} {u = u} {rest = rest} {x = x} {xs = xs} ne is h) (suc n) l =
    let few : length u ≤ n = (let k = item_le c t u x is in omega (arith, l, k)) in
    rw (ne_eqb c closing_bracket ne)
    (ap (option_and_then (λ (y : Item × List ℕ). behind_item y.0 (items_in n y.1))) is
    ∙ ap (behind_item x) (items_told h n few))

items_le : {t u : List ℕ} {xs : List Item} → Items t xs u → length u ≤ length t
items_le (g.closed {c = c} {rest = rest} e) = omega arith
items_le (g.more {c = c} {t = t} {u = u} {rest = rest} {x = x} {xs = xs} ne is h) =
    let k = item_le c t u x is in let l = items_le h in omega (arith, k, l)

range_le : {t u : List ℕ} {a : r.Atom} → Range t a u → length u ≤ length t
range_le (g.negated {t = t} {u = u} {x = x} e is h) =
    let k = first_le t u x is in let l = items_le h in omega (arith, k, l)
range_le (g.positive {c = c} {t = t} {u = u} {x = x} ne is h) =
    let k = first_le (c ∷ t) u x is in let l = items_le h in omega (arith, k, l)

range_items_says : (negated : Bool) (t : List ℕ) (a : r.Atom) (u : List ℕ) → range_of_items negated t ≡ Some (a, u)
    → (x : Item) × (v : List ℕ) × (xs : List Item) × (first_item t ≡ Some (x, v)) × Items v xs u
    × (range negated (x ∷ xs) ≡ a)
range_items_says negated t a u e =
    option_and_then_some
    (λ (x : Item × List ℕ). option_map (as_range negated) (behind_item x.0 (items_in (length x.1) x.1))) (first_item t)
    (a, u) e (λ x i h.
    by x i (items_in (length x.1) x.1) refl h)
  where
    by : (x : Item × List ℕ) → first_item t ≡ Some x → (o : Option (List Item × List ℕ)) → items_in (length x.1) x.1 ≡ o
        → option_map (as_range negated) (behind_item x.0 o) ≡ Some (a, u)
        → (x : Item) × (v : List ℕ) × (xs : List Item) × (first_item t ≡ Some (x, v)) × Items v xs u
        × (range negated (x ∷ xs) ≡ a)
    by x i None f h = absurd (none-some (a, u) h)
    by x i (Some y) f h =
        let (p, q) = some_pair_parts (range negated (x.0 ∷ y.0)) a y.1 u h in
        (x.0, x.1, y.0, i, subst (λ (z : List ℕ). Items x.1 y.0 z) q (items_says (length x.1) x.1 y.0 y.1 f), p)

range_items_told : (negated : Bool) (t u v : List ℕ) (x : Item) (xs : List Item) → first_item t ≡ Some (x, v)
    → Items v xs u → range_of_items negated t ≡ Some (range negated (x ∷ xs), u)
range_items_told negated t u v x xs is h =
    ap (option_and_then
    (λ (y : Item × List ℕ). option_map (as_range negated) (behind_item y.0 (items_in (length y.1) y.1)))) is
    ∙ ap (λ (o : Option (List Item × List ℕ)). option_map (as_range negated) (behind_item x o))
    (items_told h (length v) (omega arith))

range_says : (t : List ℕ) (a : r.Atom) (u : List ℕ) → range_in t ≡ Some (a, u) → Range t a u
range_says [] a u e = absurd (none-some (a, u) e)
range_says (c ∷ t) a u e = by (c == caret) refl e
  where
    by : (b : Bool) → (c == caret) ≡ b → cond b (range_of_items true t) (range_of_items false (c ∷ t)) ≡ Some (a, u)
        → Range (c ∷ t) a u
    by true f e =
        let (x, v, xs, is, h, p) = range_items_says true t a u e in
        subst (λ (z : r.Atom). Range (c ∷ t) z u) p (g.negated (eqb-true c caret f) is h)
    by false f e =
        let (x, v, xs, is, h, p) = range_items_says false (c ∷ t) a u e in
        subst (λ (z : r.Atom). Range (c ∷ t) z u) p (g.positive (not_equal c caret f) is h)

range_told : {t u : List ℕ} {a : r.Atom} → Range t a u → range_in t ≡ Some (a, u)
range_told (g.negated {c = c} {t = t} {u = v} {rest = u} {x = x} {xs = xs} e is h) =
    rw (eq-eqb c caret e) (range_items_told true t u v x xs is h)
range_told (g.positive {c = c} {t = t} {u = v} {rest = u} {x = x} {xs = xs} ne is h) =
    rw (ne_eqb c caret ne) (range_items_told false (c ∷ t) u v x xs is h)

-- ---- one step

far : (x s' : State) (t t' : List ℕ) → ◌≡◌ {A = Option Far} (Some (x, t)) (Some (s', t')) → (t' ≡ t) × (s' ≡ x)
far x s' t t' e = let (p, q) = some_pair_parts x s' t t' e in (sym q, sym p)

far_told : (x s' : State) (t t' : List ℕ) → t' ≡ t → s' ≡ x → ◌≡◌ {A = Option Far} (Some (x, t)) (Some (s', t'))
far_told x s' t t' e f = ap (λ (z : List ℕ). Some (x, z)) (sym e) ∙ ap (λ (z : State). Some (z, t')) (sym f)

escaped_says : (s : State) (t : List ℕ) (s' : State) (t' : List ℕ) → escaped s t ≡ Some (s', t')
    → (d : ℕ) × (t ≡ d ∷ t') × (s' ≡ with_atom s (single (exactly d)))
escaped_says s [] s' t' e = absurd (none-some (s', t') e)
escaped_says s (d ∷ t) s' t' e =
    let (p, q) = far (with_atom s (single (exactly d))) s' t t' e in (d, ap (λ (z : List ℕ). d ∷ z) (sym p), q)

ranged_says : (s : State) (t : List ℕ) (s' : State) (t' : List ℕ) → option_map (ranged s) (range_in t) ≡ Some (s', t')
    → (a : r.Atom) × Range t a t' × (s' ≡ with_atom s (single a))
ranged_says s t s' t' e = by (range_in t) refl e
  where
    by : (o : Option (r.Atom × List ℕ)) → range_in t ≡ o → option_map (ranged s) o ≡ Some (s', t')
        → (a : r.Atom) × Range t a t' × (s' ≡ with_atom s (single a))
    by None f e = absurd (none-some (s', t') e)
    by (Some x) f e =
        let (p, q) = far (with_atom s (single x.0)) s' x.1 t' e in
        (x.0, subst (λ (z : List ℕ). Range t x.0 z) (sym p) (range_says t x.0 x.1 f), q)

opened_says : (k : ℕ) (s : State) (t : List ℕ) (s' : State) (t' : List ℕ) → opened k s t ≡ Some (s', t')
    → (n : ℕ) × (k ≡ suc n) × (t' ≡ t) × (s' ≡ entered s n)
opened_says zero s t s' t' e = absurd (none-some (s', t') e)
opened_says (suc n) s t s' t' e = let (p, q) = far (entered s n) s' t t' e in (n, refl, p, q)

closed_says : (outer : List Level) (s : State) (t : List ℕ) (s' : State) (t' : List ℕ)
    → closed outer s t ≡ Some (s', t')
    → (f : Level) × (fs : List Level) × (outer ≡ f ∷ fs) × (t' ≡ t) × (s' ≡ left s f fs)
closed_says [] s t s' t' e = absurd (none-some (s', t') e)
closed_says (f ∷ fs) s t s' t' e = let (p, q) = far (left s f fs) s' t t' e in (f, fs, refl, p, q)

repeated_says : (operator : Reading → Reading) (last : Last) (s : State) (t : List ℕ) (s' : State) (t' : List ℕ)
    → repeated operator last s t ≡ Some (s', t')
    → (a : Reading) × (last ≡ atom a) × (t' ≡ t) × (s' ≡ with_piece s (operator a))
repeated_says operator none s t s' t' e = absurd (none-some (s', t') e)
repeated_says operator (atom a) s t s' t' e = let (p, q) = far (with_piece s (operator a)) s' t t' e in (a, refl, p, q)
repeated_says operator (piece a) s t s' t' e = absurd (none-some (s', t') e)

step_says : (k : Mark) (s : State) (c : ℕ) (t : List ℕ) (s' : State) (t' : List ℕ) → stepped k s c t ≡ Some (s', t')
    → ParserStepBy k s c t s' t'
step_says m.Escape s c t s' t' e = escaped_says s t s' t' e
step_says m.Bracket s c t s' t' e = ranged_says s t s' t' e
step_says m.Open s c t s' t' e = opened_says s.levels s t s' t' e
step_says m.Close s c t s' t' e = closed_says s.outer s t s' t' e
step_says m.Bar s c t s' t' e = far (barred s) s' t t' e
step_says m.Any s c t s' t' e = far (with_atom s (single any)) s' t t' e
step_says m.Start s c t s' t' e = far (with_atom s (single start)) s' t t' e
step_says m.End s c t s' t' e = far (with_atom s (single end)) s' t t' e
step_says m.Star s c t s' t' e = repeated_says star s.last s t s' t' e
step_says m.Plus s c t s' t' e = repeated_says plus s.last s t s' t' e
step_says m.Optional s c t s' t' e = repeated_says optional s.last s t s' t' e
step_says m.Plain s c t s' t' e = far (with_atom s (single (exactly c))) s' t t' e

step_told : (k : Mark) (s : State) (c : ℕ) (t : List ℕ) (s' : State) (t' : List ℕ) → ParserStepBy k s c t s' t'
    → stepped k s c t ≡ Some (s', t')
step_told m.Escape s c t s' t' (d, e, f) =
    ap (escaped s) e ∙ far_told (with_atom s (single (exactly d))) s' t' t' refl f
step_told m.Bracket s c t s' t' (a, h, f) =
    ap (option_map (ranged s)) (range_told h) ∙ far_told (with_atom s (single a)) s' t' t' refl f
step_told m.Open s c t s' t' (n, h, e, f) = ap (λ (k : ℕ). opened k s t) h ∙ far_told (entered s n) s' t t' e f
step_told m.Close s c t s' t' (x, xs, h, e, f) =
    ap (λ (l : List Level). closed l s t) h ∙ far_told (left s x xs) s' t t' e f
step_told m.Bar s c t s' t' (e, f) = far_told (barred s) s' t t' e f
step_told m.Any s c t s' t' (e, f) = far_told (with_atom s (single any)) s' t t' e f
step_told m.Start s c t s' t' (e, f) = far_told (with_atom s (single start)) s' t t' e f
step_told m.End s c t s' t' (e, f) = far_told (with_atom s (single end)) s' t t' e f
step_told m.Star s c t s' t' (a, h, e, f) =
    ap (λ (l : Last). repeated star l s t) h ∙ far_told (with_piece s (star a)) s' t t' e f
step_told m.Plus s c t s' t' (a, h, e, f) =
    ap (λ (l : Last). repeated plus l s t) h ∙ far_told (with_piece s (plus a)) s' t t' e f
step_told m.Optional s c t s' t' (a, h, e, f) =
    ap (λ (l : Last). repeated optional l s t) h ∙ far_told (with_piece s (optional a)) s' t t' e f
step_told m.Plain s c t s' t' (e, f) = far_told (with_atom s (single (exactly c))) s' t t' e f

same_le : (t t' : List ℕ) → t' ≡ t → length t' ≤ length t
same_le t t' e = subst (λ (z : List ℕ). length z ≤ length t) (sym e) (omega arith)

step_le : (k : Mark) (s : State) (c : ℕ) (t : List ℕ) (s' : State) (t' : List ℕ) → ParserStepBy k s c t s' t'
    → length t' ≤ length t
step_le m.Escape s c t s' t' (d, e, f) = subst (λ (z : List ℕ). length t' ≤ length z) (sym e) (omega arith)
step_le m.Bracket s c t s' t' (a, h, f) = range_le h
step_le m.Open s c t s' t' (n, h, e, f) = same_le t t' e
step_le m.Close s c t s' t' (x, xs, h, e, f) = same_le t t' e
step_le m.Bar s c t s' t' (e, f) = same_le t t' e
step_le m.Any s c t s' t' (e, f) = same_le t t' e
step_le m.Start s c t s' t' (e, f) = same_le t t' e
step_le m.End s c t s' t' (e, f) = same_le t t' e
step_le m.Star s c t s' t' (a, h, e, f) = same_le t t' e
step_le m.Plus s c t s' t' (a, h, e, f) = same_le t t' e
step_le m.Optional s c t s' t' (a, h, e, f) = same_le t t' e
step_le m.Plain s c t s' t' (e, f) = same_le t t' e

-- ---- the whole text

finished_says : (s : State) (outer : List Level) (p : Reading) → s.outer ≡ outer
    → finished outer (level_so_far s) ≡ Some p → Runs s [] p
finished_says s [] p e f = accepted e (let h : Some (level_so_far s) ≡ Some p = f in cc)
finished_says s (x ∷ xs) p e f = absurd (none-some p f)

run_says : (n : ℕ) (s : State) (t : List ℕ) (p : Reading) → run_from n s t ≡ Some p → Runs s t p
run_says zero s [] p e = finished_says s s.outer p refl e
run_says zero s (c ∷ t) p e = absurd (none-some p e)
run_says (suc n) s [] p e = finished_says s s.outer p refl e
run_says (suc n) s (c ∷ t) p e =
    option_and_then_some (λ (f : Far). run_from n f.0 f.1) (stepped (mark_of c) s c t) p e (λ f i h.
    next {s = s} {s' = f.0} {t = c ∷ t} {t' = f.1} {p = p} (step_says (mark_of c) s c t f.0 f.1 i)
    (run_says n f.0 f.1 p h))

end_told : (n : ℕ) (s : State) (p : Reading) → s.outer ≡ [] → level_so_far s ≡ p → run_from n s [] ≡ Some p
end_told zero s p e f = ap (λ (l : List Level). finished l (level_so_far s)) e ∙ ap (λ (z : Reading). Some z) f
end_told (suc n) s p e f = ap (λ (l : List Level). finished l (level_so_far s)) e ∙ ap (λ (z : Reading). Some z) f

next_told : (s : State) (t : List ℕ) (s' : State) (t' : List ℕ) (p : Reading) → ParserStep s t s' t'
    → ((n : ℕ) → length t' ≤ n → run_from n s' t' ≡ Some p)
    → (n : ℕ) → length t ≤ n → run_from n s t ≡ Some p
next_told s [] s' t' p h ih n l = absurd h
next_told s (c ∷ t) s' t' p h ih zero l = absurd (omega (arith, l))
next_told s (c ∷ t) s' t' p h ih (suc n) l =
    let k = step_le (mark_of c) s c t s' t' h in
    ap (option_and_then (λ (f : Far). run_from n f.0 f.1)) (step_told (mark_of c) s c t s' t' h)
    ∙ ih n (omega (arith, k, l))

run_told : {s : State} {t : List ℕ} {p : Reading} → Runs s t p → (n : ℕ) → length t ≤ n → run_from n s t ≡ Some p
run_told (accepted {s = s} {p = p} e f) n l = end_told n s p e f
run_told (next {s = s} {s' = s'} {t = t} {t' = t'} {p = p} h more) n l =
    next_told s t s' t' p h (λ k j. run_told more k j) n l

reads : (text : List ℕ) {s : State} {t : List ℕ} {p : Reading} → Runs s t p → SoFar text s t
    → Reads g.pattern 64 text p []
reads text (accepted {s = s} {p = p} e f) so =
    subst (λ (z : Reading). Reads g.pattern 64 text z []) f (SoFar-end text s so e)
reads text (next {s = s} {s' = s'} {t = t} {t' = t'} h more) so = reads text more (SoFar-step text s s' t t' so h)

pub reading_says : (text : List ℕ) (p : Reading) → pattern_of text ≡ Some p → Says text p
unfolding pattern_of
reading_says text p e = by (nat_le (length text) 1024) refl e
  where
    by : (b : Bool) → nat_le (length text) 1024 ≡ b → cond b (run_from (length text) (fresh 64 []) text) None ≡ Some p
        → Says text p
    by true f e =
        record {
          short = leb-true (length text) 1024 f;
          whole = reads text (run_says (length text) (fresh 64 []) text p e) (SoFar-fresh text);
        }
    by false f e = absurd (none-some p e)

pub reading_told : (text : List ℕ) (p : Reading) → Says text p → pattern_of text ≡ Some p
unfolding pattern_of
reading_told text p h =
    ap (λ (b : Bool). cond b (run_from (length text) (fresh 64 []) text) None) (le-leb (length text) 1024 h.short)
    ∙ run_told (runs_from_reads text p h.whole) (length text) (omega arith)
