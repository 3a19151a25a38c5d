-- What is in the grammar is read by the parser, and by its steps alone, so a text has one reading.
use Rattle.std.specs.Prelude.{◌≡◌, ℕ, suc, Bool, List, [], ◌∷◌, Option, Some, None}
use Rattle.std.proofs.Common.{sym, refl, subst, ◌∙◌, ap, pred}
use Rattle.wot_pattern.specs.declared.item.Item.{Item}
use Rattle.wot_pattern.specs.declared.mark.Mark.{Mark}
use Rattle.wot_pattern.specs.declared.mark.Mark.TheVariants as m
use Rattle.wot_pattern.specs.Marks.{mark_of}
use Rattle.wot_pattern.specs.Reading.{Atom, exactly, any, start, end, range, Reading, nothing, single, sequence, either}
use Rattle.wot_pattern.specs.Reading.{star, plus, optional}
use Rattle.wot_pattern.specs.Grammar as g
use Rattle.wot_pattern.specs.Grammar.{Part, Items, Range, Reads}
use Rattle.wot_pattern.specs.Steps.{Level, Last, none, atom, piece, State, at, flushed, joined, level_so_far, with_atom}
use Rattle.wot_pattern.specs.Steps.{entered, left, with_piece, ParserStepBy, ParserStep, Runs, accepted, next, fresh}

pub head_same : {A : Type 0} {c d : A} {t u : List A} → c ∷ t ≡ d ∷ u → c ≡ d
head_same {A} {c} e = ap (λ (l : List A). elim l [ [] ↦ c | x ∷ xs ↦ x ]) e

tail_same : {A : Type 0} {c d : A} {t u : List A} → c ∷ t ≡ d ∷ u → t ≡ u
tail_same {A} {c} {d} {t} {u} e = ap (λ (l : List A). elim l [ [] ↦ t | x ∷ xs ↦ xs ]) e

-- whoever goes on from the second state at u goes on from the first at t
abbrev Reaches : State → List ℕ → State → List ℕ → Type 0
Reaches s t s' u = (p : Reading) → Runs s' u p → Runs s t p

abbrev last_is : Last → Reading → Type 0
last_is none p = ⊥
last_is (atom a) p = a ≡ p
last_is (piece a) p = a ≡ p

-- how the parser goes over a part of the grammar
abbrev Claim : Part → ℕ → List ℕ → Reading → List ℕ → Type 0
Claim g.pattern n t p r =
    (e : Option Reading) × (b : Reading) × (l : Last) × (joined e (flushed l b) ≡ p)
    × ((fs : List Level) → Reaches (fresh n fs) t (at n fs e b l) r)
Claim g.branch n t p r =
    (b : Reading) × (l : Last) × (flushed l b ≡ p)
    × ((fs : List Level) (e : Option Reading) → Reaches (at n fs e nothing none) t (at n fs e b l) r)
Claim g.piece n t p r =
    (l : Last) × last_is l p
    × ((fs : List Level) (e : Option Reading) (b : Reading) (l₀ : Last)
    → Reaches (at n fs e b l₀) t (at n fs e (flushed l₀ b) l) r)
Claim g.atom n t p r =
    (fs : List Level) (e : Option Reading) (b : Reading) (l₀ : Last)
    → Reaches (at n fs e b l₀) t (at n fs e (flushed l₀ b) (atom p)) r

step_at : (k : Mark) (s s' : State) (c : ℕ) (t t' : List ℕ) → mark_of c ≡ k → ParserStepBy k s c t s' t'
    → ParserStep s (c ∷ t) s' t'
step_at k s s' c t t' e h = subst (λ x. ParserStepBy x s c t s' t') (sym e) h

flushed_is : (l : Last) (b p q : Reading) → last_is l p → b ≡ q → flushed l b ≡ sequence q p
flushed_is none b p q h e = absurd h
flushed_is (atom a) b p q h e = ap (λ x. sequence x a) e ∙ ap (λ x. sequence q x) h
flushed_is (piece a) b p q h e = ap (λ x. sequence x a) e ∙ ap (λ x. sequence q x) h

pub claim : {k : Part} {n : ℕ} {t : List ℕ} {p : Reading} {r : List ℕ} → Reads k n t p r → Claim k n t p r
claim (g.first_branch h) =
    let (b, l, e, go) = claim h in (None, b, l, e, λ fs. go fs None)
claim (g.next_branch {n = n} {c = c} {t = t} {u = u} {r = r} {p = p} {b = q} h o k) =
    let (e, b, l, is, go) = claim h in
    let (b', l', is', go') = claim k in (
      Some p,
      b',
      l',
      ap (λ x. either p x) is',
      λ fs x run. go fs x (next {s' = at n fs (Some p) nothing none} {t' = u}
          (step_at m.Bar (at n fs e b l) (at n fs (Some p) nothing none) c u u o
          (refl, ap (λ y. at n fs (Some y) nothing none) (sym is)))
          (go' fs (Some p) x run)),
    )
claim g.no_piece = (nothing, none, refl, λ fs e x run. run)
claim (g.next_piece {n = n} {t = t} {u = u} {r = r} {b = q} {p = p} h k) =
    let (b, l, is, go) = claim h in
    let (l', is', go') = claim k in
    (flushed l b, l', flushed_is l' (flushed l b) p q is' is, λ fs e x run. go fs e x (go' fs e b l x run))
claim (g.once {a = a} h) = (atom a, refl, claim h)
claim (g.starred {n = n} {c = c} {t = t} {r = r} {a = a} h o) = (
  piece (star a),
  refl,
  λ fs e b l x run.
      claim h fs e b l x (next {s' = at n fs e (flushed l b) (piece (star a))} {t' = r}
      (step_at m.Star (at n fs e (flushed l b) (atom a)) (at n fs e (flushed l b) (piece (star a))) c r r o
      (a, refl, refl, refl)) run),
)
claim (g.repeated {n = n} {c = c} {t = t} {r = r} {a = a} h o) = (
  piece (plus a),
  refl,
  λ fs e b l x run.
      claim h fs e b l x (next {s' = at n fs e (flushed l b) (piece (plus a))} {t' = r}
      (step_at m.Plus (at n fs e (flushed l b) (atom a)) (at n fs e (flushed l b) (piece (plus a))) c r r o
      (a, refl, refl, refl)) run),
)
claim (g.optioned {n = n} {c = c} {t = t} {r = r} {a = a} h o) = (
  piece (optional a),
  refl,
  λ fs e b l x run.
      claim h fs e b l x (next {s' = at n fs e (flushed l b) (piece (optional a))} {t' = r}
      (step_at m.Optional (at n fs e (flushed l b) (atom a)) (at n fs e (flushed l b) (piece (optional a))) c r r o
      (a, refl, refl, refl)) run),
)
claim (g.group {n = n} {c = c} {d = d} {t = t} {r = r} {p = p} o h o') =
    let (e', b', l', is, go) = claim h in
    λ fs e b l x run.
    let f : Level = record { earlier = e; branch = flushed l b } in
    next {s' = at n (f ∷ fs) None nothing none} {t' = t}
    (step_at m.Open (at (suc n) fs e b l) (at n (f ∷ fs) None nothing none) c t t o (n, refl, refl, refl))
    (go (f ∷ fs) x (next {s' = at (suc n) fs e (flushed l b) (atom p)} {t' = r}
    (step_at m.Close (at n (f ∷ fs) e' b' l') (at (suc n) fs e (flushed l b) (atom p)) d r r o'
    (f, fs, refl, refl, ap (λ y. at (suc n) fs e (flushed l b) (atom y)) (sym is)))
    run))
claim (g.ranged {n = n} {c = c} {t = t} {r = r} {a = a} o h) =
    λ fs e b l x run. next {s' = at n fs e (flushed l b) (atom (single a))} {t' = r}
    (step_at m.Bracket (at n fs e b l) (at n fs e (flushed l b) (atom (single a))) c t r o (a, h, refl)) run
claim (g.dotted {n = n} {c = c} {r = r} o) =
    λ fs e b l x run. next {s' = at n fs e (flushed l b) (atom (single any))} {t' = r}
    (step_at m.Any (at n fs e b l) (at n fs e (flushed l b) (atom (single any))) c r r o (refl, refl)) run
claim (g.started {n = n} {c = c} {r = r} o) =
    λ fs e b l x run. next {s' = at n fs e (flushed l b) (atom (single start))} {t' = r}
    (step_at m.Start (at n fs e b l) (at n fs e (flushed l b) (atom (single start))) c r r o (refl, refl)) run
claim (g.ended {n = n} {c = c} {r = r} o) =
    λ fs e b l x run. next {s' = at n fs e (flushed l b) (atom (single end))} {t' = r}
    (step_at m.End (at n fs e b l) (at n fs e (flushed l b) (atom (single end))) c r r o (refl, refl)) run
claim (g.escaped {n = n} {c = c} {d = d} {r = r} o) =
    λ fs e b l x run. next {s' = at n fs e (flushed l b) (atom (single (exactly d)))} {t' = r}
    (step_at m.Escape (at n fs e b l) (at n fs e (flushed l b) (atom (single (exactly d)))) c (d ∷ r) r o
    (d, refl, refl)) run
claim (g.plain {n = n} {c = c} {r = r} o) =
    λ fs e b l x run. next {s' = at n fs e (flushed l b) (atom (single (exactly c)))} {t' = r}
    (step_at m.Plain (at n fs e b l) (at n fs e (flushed l b) (atom (single (exactly c)))) c r r o (refl, refl)) run

pub runs_from_reads : (text : List ℕ) (p : Reading) → Reads g.pattern 64 text p [] → Runs (fresh 64 []) text p
runs_from_reads text p h = let (e, b, l, is, go) = claim h in go [] p (accepted refl is)

pub some_same : {A B : Type 0} (x y : A) (u v : B) → ◌≡◌ {A = Option (A × B)} (Some (x, u)) (Some (y, v))
    → (x ≡ y) × (u ≡ v)
some_same {A} {B} x y u v e = (
  ap (λ (o : Option (A × B)). elim o [ None ↦ x | Some p ↦ p.0 ]) e,
  ap (λ (o : Option (A × B)). elim o [ None ↦ u | Some p ↦ p.1 ]) e,
)

-- the rest of a range, and what it has read, are determined
Items-along :
    {t t' r r' : List ℕ} {xs ys : List Item} → Items t xs r → Items t' ys r' → t ≡ t' → (xs ≡ ys) × (r ≡ r')
Items-along (g.closed {rest = r} e) (g.closed {rest = r'} e') q = (refl, tail_same q)
Items-along (g.closed {c = c} e) (g.more {c = d} ne is k) q = absurd (ne (sym (head_same q) ∙ e))
Items-along (g.more {c = d} ne is h) (g.closed {c = c} e) q = absurd (ne (head_same q ∙ e))
Items-along (g.more {u = u} {x = x} {xs = xs} ne is h) (g.more {u = u'} {x = y} {xs = ys} ne' is' k) q =
    let (ex, eu) = some_same {A = Item} {B = List ℕ} x y u u' (sym is ∙ ap g.item q ∙ is') in
    let (a, b) = Items-along h k eu in
    (ap (λ z. z ∷ xs) ex ∙ ap (λ z. y ∷ z) a, b)

pub Items-same : {t r r' : List ℕ} {xs ys : List Item} → Items t xs r → Items t ys r' → (xs ≡ ys) × (r ≡ r')
Items-same h k = Items-along h k refl

Range-along : {t t' r r' : List ℕ} {a b : Atom} → Range t a r → Range t' b r' → t ≡ t' → (a ≡ b) × (r ≡ r')
Range-along (g.negated {u = u} {x = x} {xs = xs} e is h) (g.negated {u = u'} {x = y} {xs = ys} e' is' k) q =
    let (ex, eu) = some_same {A = Item} {B = List ℕ} x y u u' (sym is ∙ ap g.first_item (tail_same q) ∙ is') in
    let (a, b) = Items-along h k eu in
    (ap (λ z. range Bool.true (z ∷ xs)) ex ∙ ap (λ z. range Bool.true (y ∷ z)) a, b)
Range-along (g.negated {c = c} e is h) (g.positive {c = d} ne is' k) q = absurd (ne (sym (head_same q) ∙ e))
Range-along (g.positive {c = d} ne is h) (g.negated {c = c} e is' k) q = absurd (ne (head_same q ∙ e))
Range-along (g.positive {u = u} {x = x} {xs = xs} ne is h) (g.positive {u = u'} {x = y} {xs = ys} ne' is' k) q =
    let (ex, eu) = some_same {A = Item} {B = List ℕ} x y u u' (sym is ∙ ap g.first_item q ∙ is') in
    let (a, b) = Items-along h k eu in
    (ap (λ z. range Bool.false (z ∷ xs)) ex ∙ ap (λ z. range Bool.false (y ∷ z)) a, b)

pub Range-same : {t r r' : List ℕ} {a b : Atom} → Range t a r → Range t b r' → (a ≡ b) × (r ≡ r')
Range-same h k = Range-along h k refl

last_same : (l : Last) (a b : Reading) → l ≡ atom a → l ≡ atom b → a ≡ b
last_same l a b e e' = ap (λ (x : Last). elim x [ none ↦ a | atom z ↦ z | piece z ↦ z ]) (sym e ∙ e')

pred_same : (k n n' : ℕ) → k ≡ suc n → k ≡ suc n' → n ≡ n'
pred_same k n n' e e' = ap pred (sym e ∙ e')

-- both come to the same
meet : {s a b : State} {t u v : List ℕ} → s ≡ a → t ≡ u → (x : State) (w : List ℕ) → x ≡ b → w ≡ v → a ≡ b → u ≡ v
    → (s ≡ x) × (t ≡ w)
meet e f x w e' f' h k = (e ∙ h ∙ sym e', f ∙ k ∙ sym f')

ParserStepBy-same :
    (k : Mark) (s : State) (c : ℕ) (t : List ℕ) (a : State) (u : List ℕ) (b : State) (v : List ℕ)
    → ParserStepBy k s c t a u → ParserStepBy k s c t b v → (a ≡ b) × (u ≡ v)
ParserStepBy-same m.Escape s c t a u b v (d, e, f) (d', e', f') =
    (f ∙ ap (λ x. with_atom s (single (exactly x))) (head_same (sym e ∙ e')) ∙ sym f', tail_same (sym e ∙ e'))
ParserStepBy-same m.Bracket s c t a u b v (x, h, f) (x', h', f') =
    let (e, e') = Range-same h h' in (f ∙ ap (λ x. with_atom s (single x)) e ∙ sym f', e')
ParserStepBy-same m.Open s c t a u b v (n, h, e, f) (n', h', e', f') =
    meet f e b v f' e' (ap (entered s) (pred_same s.levels n n' h h')) refl
ParserStepBy-same m.Close s c t a u b v (x, xs, h, e, f) (y, ys, h', e', f') =
    let q = sym h ∙ h' in
    meet f e b v f' e' (ap (λ z. left s z xs) (head_same q) ∙ ap (λ z. left s y z) (tail_same q)) refl
ParserStepBy-same m.Bar s c t a u b v (e, f) (e', f') = meet f e b v f' e' refl refl
ParserStepBy-same m.Any s c t a u b v (e, f) (e', f') = meet f e b v f' e' refl refl
ParserStepBy-same m.Start s c t a u b v (e, f) (e', f') = meet f e b v f' e' refl refl
ParserStepBy-same m.End s c t a u b v (e, f) (e', f') = meet f e b v f' e' refl refl
ParserStepBy-same m.Star s c t a u b v (x, h, e, f) (y, h', e', f') =
    meet f e b v f' e' (ap (λ z. with_piece s (star z)) (last_same s.last x y h h')) refl
ParserStepBy-same m.Plus s c t a u b v (x, h, e, f) (y, h', e', f') =
    meet f e b v f' e' (ap (λ z. with_piece s (plus z)) (last_same s.last x y h h')) refl
ParserStepBy-same m.Optional s c t a u b v (x, h, e, f) (y, h', e', f') =
    meet f e b v f' e' (ap (λ z. with_piece s (optional z)) (last_same s.last x y h h')) refl
ParserStepBy-same m.Plain s c t a u b v (e, f) (e', f') = meet f e b v f' e' refl refl

ParserStep-same : (s : State) (t : List ℕ) (a : State) (u : List ℕ) (b : State) (v : List ℕ) → ParserStep s t a u
    → ParserStep s t b v → (a ≡ b) × (u ≡ v)
ParserStep-same s [] a u b v h k = absurd h
ParserStep-same s (c ∷ t) a u b v h k = ParserStepBy-same (mark_of c) s c t a u b v h k

-- a run goes on by the one step that there is
pub Runs-step : {s s' : State} {t t' : List ℕ} {p : Reading} → Runs s t p → ParserStep s t s' t' → Runs s' t' p
Runs-step (accepted e f) k = absurd k
Runs-step {s' = b} {t' = v} {p = p} (next {s = s} {s' = a} {t = t} {t' = u} h run) k =
    let (e, f) = ParserStep-same s t a u b v h k in subst (λ x. Runs b x p) f (subst (λ x. Runs x u p) e run)

pub Runs-stuck : {s : State} {c : ℕ} {t : List ℕ} {p : Reading} → Runs s (c ∷ t) p
    → ((s' : State) (t' : List ℕ) → ParserStep s (c ∷ t) s' t' → ⊥) → ⊥
Runs-stuck (next {s' = a} {t' = u} h run) k = k a u h

pub Runs-end : {s : State} {p : Reading} → Runs s [] p → (s.outer ≡ []) × (level_so_far s ≡ p)
Runs-end (accepted e f) = (e, f)
Runs-end (next h run) = absurd h

one_run : {s s' : State} {t t' : List ℕ} {p q : Reading} → Runs s t p → Runs s' t' q → s ≡ s' → t ≡ t' → p ≡ q
one_run {s' = s'} {q = q} (accepted {p = p} e f) run es et =
    let k = Runs-end (subst (λ x. Runs x [] q) (sym es) (subst (λ x. Runs s' x q) (sym et) run)) in sym f ∙ k.1
one_run {s' = s'} {t' = t'} {q = q} (next {s = s} {s' = a} {t = t} {t' = u} h more) run es et =
    one_run more (Runs-step run (subst (λ x. ParserStep x t' a u) es (subst (λ x. ParserStep s x a u) et h))) refl refl

pub one_reading : (text : List ℕ) (p q : Reading) → Reads g.pattern 64 text p [] → Reads g.pattern 64 text q [] → p ≡ q
one_reading text p q h k = one_run (runs_from_reads text p h) (runs_from_reads text q k) refl refl
