-- The slots of a tree's nodes: what they hold before the first pass at a position and after it.
use Rattle.std.specs.Prelude.{◌≡◌, ℕ, ◌+◌, Bool, true, false, ◌&&◌, ◌||◌, List, [], ◌∷◌, ◌++◌, length, Some, slice_get}
use Rattle.std.proofs.Common.{refl, sym, subst, ap, ◌∙◌, append_assoc}
use Rattle.wot_pattern.specs.declared.flow.Flow.{Flow}
use Rattle.wot_pattern.specs.Reading.{Reading, nothing, single, sequence, either, star, plus, optional}
use Rattle.wot_pattern.specs.Tokens as t
use Rattle.wot_pattern.specs.Tokens.{Token, tokens}
use Rattle.wot_pattern.specs.MeaningTest.{takes}
use Rattle.wot_pattern.specs.Passes.{flow, holds_empty, settled_one, settled, advanced_one, advanced, behind}
use Rattle.wot_pattern.proofs.Flows.{Ended, After, Right, right_nothing, right_single, right_sequence, right_either}
use Rattle.wot_pattern.proofs.Flows.{right_star, right_plus, right_optional, second_begins, loop_begins, taken_ended}
use Rattle.wot_pattern.proofs.Tests.{IsTestOf}

last_of_two : {A : Type 0} (xs ys zs : List A) (a : A) → (xs ++ (ys ++ a ∷ [])) ++ zs ≡ xs ++ (ys ++ a ∷ zs)
last_of_two xs ys zs a = append_assoc xs (ys ++ a ∷ []) zs ∙ ap (λ l. xs ++ l) (append_assoc ys (a ∷ []) zs)

-- the first pass goes over these nodes, changes their slots from the first list to the second, and leaves one flow more
abbrev pub Settles : Bool → Bool → List Token → List Flow → List Flow → Flow → Type 0
Settles first last ts fs gs f =
    (us : List Token) (ss : List Flow) (st : List Flow)
    → settled first last (ts ++ us) (fs ++ ss) st ≡ behind gs (settled first last us ss (f ∷ st))

settles_two :
    (first last : Bool) (t : Token) (ps qs : List Token) (gs hs gs' hs' : List Flow) (f f' p q g : Flow)
    → Settles first last ps gs gs' p → Settles first last qs hs hs' q
    → ((st : List Flow) → settled_one first last t f (q ∷ p ∷ st) ≡ (f', g ∷ st))
    → Settles first last (ps ++ (qs ++ t ∷ [])) (gs ++ (hs ++ f ∷ [])) (gs' ++ (hs' ++ f' ∷ [])) g
settles_two first last t ps qs gs hs gs' hs' f f' p q g h k e us ss st =
    let one = ap (λ l. settled first last l ((gs ++ (hs ++ f ∷ [])) ++ ss) st) (last_of_two ps qs us t) in
    let two = ap (λ l. settled first last (ps ++ (qs ++ t ∷ us)) l st) (last_of_two gs hs ss f) in
    let three = h (qs ++ t ∷ us) (hs ++ f ∷ ss) st in
    let four = ap (behind gs') (k (t ∷ us) (f ∷ ss) (p ∷ st)) in
    let five = ap (λ (r : Flow × List Flow). behind gs' (behind hs' (behind (r.0 ∷ []) (settled first last us ss r.1))))
    (e st) in
    let six = ap (λ l. (l, (settled first last us ss (g ∷ st)).1))
    (sym (last_of_two gs' hs' (settled first last us ss (g ∷ st)).0 f')) in
    one ∙ two ∙ three ∙ four ∙ five ∙ six

settles_one :
    (first last : Bool) (t : Token) (ps : List Token) (gs gs' : List Flow) (f f' p g : Flow)
    → Settles first last ps gs gs' p
    → ((st : List Flow) → settled_one first last t f (p ∷ st) ≡ (f', g ∷ st))
    → Settles first last (ps ++ t ∷ []) (gs ++ f ∷ []) (gs' ++ f' ∷ []) g
settles_one first last t ps gs gs' f f' p g h e us ss st =
    let one = ap (λ l. settled first last l ((gs ++ f ∷ []) ++ ss) st) (append_assoc ps (t ∷ []) us) in
    let two = ap (λ l. settled first last (ps ++ t ∷ us) l st) (append_assoc gs (f ∷ []) ss) in
    let three = h (t ∷ us) (f ∷ ss) st in
    let five = ap (λ (r : Flow × List Flow). behind gs' (behind (r.0 ∷ []) (settled first last us ss r.1))) (e st) in
    let six = ap (λ l. (l, (settled first last us ss (g ∷ st)).1))
    (sym (append_assoc gs' (f' ∷ []) (settled first last us ss (g ∷ st)).0)) in
    one ∙ two ∙ three ∙ five ∙ six

-- the second pass goes over these nodes, where their tree may begin as x says, and changes their slots
abbrev pub Advances : ℕ → List Token → List Flow → List Flow → Bool → Type 0
Advances c ts fs gs x =
    (us : List Token) (ss : List Flow) (st : List Bool) (ss' : List Flow) (st' : List Bool)
    → advanced c us ss st ≡ (ss', x ∷ st') → advanced c (ts ++ us) (fs ++ ss) st ≡ (gs ++ ss', st')

advances_two :
    (c : ℕ) (t : Token) (ps qs : List Token) (gs hs gs' hs' : List Flow) (f : Flow) (x p q : Bool)
    → Advances c ps gs gs' p → Advances c qs hs hs' q
    → ((st : List Bool) → advanced_one c t f (x ∷ st) ≡ (f, q ∷ p ∷ st))
    → Advances c (ps ++ (qs ++ t ∷ [])) (gs ++ (hs ++ f ∷ [])) (gs' ++ (hs' ++ f ∷ [])) x
advances_two c t ps qs gs hs gs' hs' f x p q h k e us ss st ss' st' run =
    let one = ap (λ l. advanced c l ((gs ++ (hs ++ f ∷ [])) ++ ss) st) (last_of_two ps qs us t) in
    let two = ap (λ l. advanced c (ps ++ (qs ++ t ∷ us)) l st) (last_of_two gs hs ss f) in
    let here : advanced c (t ∷ us) (f ∷ ss) st ≡ (f ∷ ss', q ∷ p ∷ st') =
    ap (λ (r : List Flow × List Bool). ((advanced_one c t f r.1).0 ∷ r.0, (advanced_one c t f r.1).1)) run
    ∙ ap (λ (r : Flow × List Bool). (r.0 ∷ ss', r.1)) (e st') in
    let three = h (qs ++ t ∷ us) (hs ++ f ∷ ss) st (hs' ++ f ∷ ss') st'
    (k (t ∷ us) (f ∷ ss) st (f ∷ ss') (p ∷ st') here) in
    let four = ap (λ l. (l, st')) (sym (last_of_two gs' hs' ss' f)) in
    one ∙ two ∙ three ∙ four

advances_one :
    (c : ℕ) (t : Token) (ps : List Token) (gs gs' : List Flow) (f : Flow) (x p : Bool)
    → Advances c ps gs gs' p
    → ((st : List Bool) → advanced_one c t f (x ∷ st) ≡ (f, p ∷ st))
    → Advances c (ps ++ t ∷ []) (gs ++ f ∷ []) (gs' ++ f ∷ []) x
advances_one c t ps gs gs' f x p h e us ss st ss' st' run =
    let one = ap (λ l. advanced c l ((gs ++ f ∷ []) ++ ss) st) (append_assoc ps (t ∷ []) us) in
    let two = ap (λ l. advanced c (ps ++ t ∷ us) l st) (append_assoc gs (f ∷ []) ss) in
    let here : advanced c (t ∷ us) (f ∷ ss) st ≡ (f ∷ ss', p ∷ st') =
    ap (λ (r : List Flow × List Bool). ((advanced_one c t f r.1).0 ∷ r.0, (advanced_one c t f r.1).1)) run
    ∙ ap (λ (r : Flow × List Bool). (r.0 ∷ ss', r.1)) (e st') in
    let three = h (t ∷ us) (f ∷ ss) st (f ∷ ss') st' here in
    let four = ap (λ l. (l, st')) (sym (append_assoc gs' (f ∷ []) ss')) in
    one ∙ two ∙ three ∙ four

module _ (text : List ℕ) where
  -- before the first pass at position i: of each atom the slot tells whether it ended there, where its tree may begin
  -- at B
  abbrev pub Marked : Reading → (ℕ → Type 0) → ℕ → List Flow → Type 0
  Marked nothing B i fs = (f : Flow) × (fs ≡ f ∷ [])
  Marked (single a) B i fs = (f : Flow) × (fs ≡ f ∷ []) × IsTestOf f.ended (Ended text (single a) B i)
  Marked (sequence p q) B i fs =
      (gs : List Flow) × (hs : List Flow) × (f : Flow) × (fs ≡ gs ++ (hs ++ f ∷ [])) × Marked p B i gs
      × Marked q (After text B p) i hs
  Marked (either p q) B i fs =
      (gs : List Flow) × (hs : List Flow) × (f : Flow) × (fs ≡ gs ++ (hs ++ f ∷ [])) × Marked p B i gs × Marked q B i hs
  Marked (star p) B i fs = (gs : List Flow) × (f : Flow) × (fs ≡ gs ++ f ∷ []) × Marked p (After text B (star p)) i gs
  Marked (plus p) B i fs = (gs : List Flow) × (f : Flow) × (fs ≡ gs ++ f ∷ []) × Marked p (After text B (star p)) i gs
  Marked (optional p) B i fs = (gs : List Flow) × (f : Flow) × (fs ≡ gs ++ f ∷ []) × Marked p B i gs

  -- after it: of a sequence and of a loop the slot has the flow of the first tree in it
  abbrev pub Ready : Reading → (ℕ → Type 0) → ℕ → List Flow → Type 0
  Ready nothing B i fs = (f : Flow) × (fs ≡ f ∷ [])
  Ready (single a) B i fs = (f : Flow) × (fs ≡ f ∷ [])
  Ready (sequence p q) B i fs =
      (gs : List Flow) × (hs : List Flow) × (f : Flow) × (fs ≡ gs ++ (hs ++ f ∷ [])) × Right text p B i f
      × Ready p B i gs × Ready q (After text B p) i hs
  Ready (either p q) B i fs =
      (gs : List Flow) × (hs : List Flow) × (f : Flow) × (fs ≡ gs ++ (hs ++ f ∷ [])) × Ready p B i gs × Ready q B i hs
  Ready (star p) B i fs =
      (gs : List Flow) × (f : Flow) × (fs ≡ gs ++ f ∷ []) × Right text p (After text B (star p)) i f
      × Ready p (After text B (star p)) i gs
  Ready (plus p) B i fs =
      (gs : List Flow) × (f : Flow) × (fs ≡ gs ++ f ∷ []) × Right text p (After text B (star p)) i f
      × Ready p (After text B (star p)) i gs
  Ready (optional p) B i fs = (gs : List Flow) × (f : Flow) × (fs ≡ gs ++ f ∷ []) × Ready p B i gs

  -- what the first pass makes of a tree's slots
  pub record Settling (first last : Bool) (r : Reading) (B : ℕ → Type 0) (i : ℕ) (fs : List Flow) : Type 0 where
    pub slots : List Flow
    pub through : Flow
    pub ready : Ready r B i slots
    pub right : Right text r B i through
    pub goes : Settles first last (tokens r) fs slots through

  module _ (first last : Bool) (i : ℕ) (is_first : IsTestOf first (i ≡ 0)) (is_last : IsTestOf last (i ≡ length text)) where
    pub settling : (r : Reading) (B : ℕ → Type 0) (fs : List Flow) → Marked r B i fs → Settling first last r B i fs
    settling nothing B fs (f, e) = record {
      slots = f ∷ [];
      through = flow true false;
      ready = (f, refl);
      right = right_nothing text B i;
      goes = λ us ss st. ap (λ l. settled first last (t.nothing ∷ us) (l ++ ss) st) e;
    }
    settling (single a) B fs (f, e, h) = record {
      slots = f ∷ [];
      through = flow (holds_empty first last a) f.ended;
      ready = (f, refl);
      right = right_single text first last i is_first is_last B a f h;
      goes = λ us ss st. ap (λ l. settled first last (t.single a ∷ us) (l ++ ss) st) e;
    }
    settling (sequence p q) B fs (gs, hs, f, e, h, k) =
        let a = settling p B gs h in
        let b = settling q (After text B p) hs k in
        record {
          slots = a.slots ++ (b.slots ++ a.through ∷ []);
          through = flow (a.through.empty && b.through.empty) (b.through.ended || (a.through.ended && b.through.empty));
          ready = (a.slots, b.slots, a.through, refl, a.right, a.ready, b.ready);
          right = right_sequence text B p q i a.through b.through a.right b.right;
          goes = subst (λ l. Settles first last (tokens (sequence p q)) l (a.slots ++ (b.slots ++ a.through ∷ []))
              (flow (a.through.empty && b.through.empty) (b.through.ended || (a.through.ended && b.through.empty))))
              (sym e)
              (settles_two first last t.sequence (tokens p) (tokens q) gs hs a.slots b.slots f a.through a.through
              b.through (flow (a.through.empty && b.through.empty)
              (b.through.ended || (a.through.ended && b.through.empty))) a.goes b.goes (λ st. refl));
        }
    settling (either p q) B fs (gs, hs, f, e, h, k) =
        let a = settling p B gs h in
        let b = settling q B hs k in
        record {
          slots = a.slots ++ (b.slots ++ f ∷ []);
          through = flow (a.through.empty || b.through.empty) (a.through.ended || b.through.ended);
          ready = (a.slots, b.slots, f, refl, a.ready, b.ready);
          right = right_either text B p q i a.through b.through a.right b.right;
          goes = subst (λ l. Settles first last (tokens (either p q)) l (a.slots ++ (b.slots ++ f ∷ []))
              (flow (a.through.empty || b.through.empty) (a.through.ended || b.through.ended))) (sym e)
              (settles_two first last t.either (tokens p) (tokens q) gs hs a.slots b.slots f f a.through b.through
              (flow (a.through.empty || b.through.empty) (a.through.ended || b.through.ended)) a.goes b.goes
              (λ st. refl));
        }
    settling (star p) B fs (gs, f, e, h) =
        let a = settling p (After text B (star p)) gs h in
        record {
          slots = a.slots ++ a.through ∷ [];
          through = flow true a.through.ended;
          ready = (a.slots, a.through, refl, a.right, a.ready);
          right = right_star text B p i a.through a.right;
          goes = subst (λ l. Settles first last (tokens (star p)) l (a.slots ++ a.through ∷ [])
              (flow true a.through.ended)) (sym e)
              (settles_one first last t.star (tokens p) gs a.slots f a.through a.through (flow true a.through.ended)
              a.goes (λ st. refl));
        }
    settling (plus p) B fs (gs, f, e, h) =
        let a = settling p (After text B (star p)) gs h in
        record {
          slots = a.slots ++ a.through ∷ [];
          through = a.through;
          ready = (a.slots, a.through, refl, a.right, a.ready);
          right = right_plus text B p i a.through a.right;
          goes = subst (λ l. Settles first last (tokens (plus p)) l (a.slots ++ a.through ∷ []) a.through) (sym e)
              (settles_one first last t.plus (tokens p) gs a.slots f a.through a.through a.through a.goes (λ st. refl));
        }
    settling (optional p) B fs (gs, f, e, h) =
        let a = settling p B gs h in
        record {
          slots = a.slots ++ f ∷ [];
          through = flow true a.through.ended;
          ready = (a.slots, f, refl, a.ready);
          right = right_optional text B p i a.through a.right;
          goes = subst (λ l. Settles first last (tokens (optional p)) l (a.slots ++ f ∷ []) (flow true a.through.ended))
              (sym e)
              (settles_one first last t.optional (tokens p) gs a.slots f f a.through (flow true a.through.ended) a.goes
              (λ st. refl));
        }

  -- what the second pass makes of them, for the next position
  pub record Advancing (c : ℕ) (r : Reading) (B : ℕ → Type 0) (i : ℕ) (fs : List Flow) (x : Bool) : Type 0 where
    pub slots : List Flow
    pub marked : Marked r B (i + 1) slots
    pub goes : Advances c (tokens r) fs slots x

  module _ (c i : ℕ) (is_char : slice_get text i ≡ Some c) where
    pub advancing : (r : Reading) (B : ℕ → Type 0) (fs : List Flow) (x : Bool) → Ready r B i fs → IsTestOf x (B i)
        → Advancing c r B i fs x
    advancing nothing B fs x (f, e) h = record {
      slots = f ∷ [];
      marked = (f, refl);
      goes = λ us ss st ss' st' run.
          ap (λ l. advanced c (t.nothing ∷ us) (l ++ ss) st) e
          ∙ ap (λ (r : List Flow × List Bool).
          ((advanced_one c t.nothing f r.1).0 ∷ r.0, (advanced_one c t.nothing f r.1).1)) run;
    }
    advancing (single a) B fs x (f, e) h = record {
      slots = flow false (x && takes a c) ∷ [];
      marked = (flow false (x && takes a c), refl, taken_ended text B a i c x is_char h);
      goes = λ us ss st ss' st' run.
          ap (λ l. advanced c (t.single a ∷ us) (l ++ ss) st) e
          ∙ ap (λ (r : List Flow × List Bool).
          ((advanced_one c (t.single a) f r.1).0 ∷ r.0, (advanced_one c (t.single a) f r.1).1)) run;
    }
    advancing (sequence p q) B fs x (gs, hs, f, e, w, h, k) hx =
        let y : Bool = f.ended || (x && f.empty) in
        let a = advancing p B gs x h hx in
        let b = advancing q (After text B p) hs y k (second_begins text B p i x f hx w) in
        record {
          slots = a.slots ++ (b.slots ++ f ∷ []);
          marked = (a.slots, b.slots, f, refl, a.marked, b.marked);
          goes = subst (λ l. Advances c (tokens (sequence p q)) l (a.slots ++ (b.slots ++ f ∷ [])) x) (sym e)
              (advances_two c t.sequence (tokens p) (tokens q) gs hs a.slots b.slots f x x y a.goes b.goes
              (λ st. refl));
        }
    advancing (either p q) B fs x (gs, hs, f, e, h, k) hx =
        let a = advancing p B gs x h hx in
        let b = advancing q B hs x k hx in
        record {
          slots = a.slots ++ (b.slots ++ f ∷ []);
          marked = (a.slots, b.slots, f, refl, a.marked, b.marked);
          goes = subst (λ l. Advances c (tokens (either p q)) l (a.slots ++ (b.slots ++ f ∷ [])) x) (sym e)
              (advances_two c t.either (tokens p) (tokens q) gs hs a.slots b.slots f x x x a.goes b.goes (λ st. refl));
        }
    advancing (star p) B fs x (gs, f, e, w, h) hx =
        let a = advancing p (After text B (star p)) gs (x || f.ended) h (loop_begins text B p i x f.ended hx w.ended) in
        record {
          slots = a.slots ++ f ∷ [];
          marked = (a.slots, f, refl, a.marked);
          goes = subst (λ l. Advances c (tokens (star p)) l (a.slots ++ f ∷ []) x) (sym e)
              (advances_one c t.star (tokens p) gs a.slots f x (x || f.ended) a.goes (λ st. refl));
        }
    advancing (plus p) B fs x (gs, f, e, w, h) hx =
        let a = advancing p (After text B (star p)) gs (x || f.ended) h (loop_begins text B p i x f.ended hx w.ended) in
        record {
          slots = a.slots ++ f ∷ [];
          marked = (a.slots, f, refl, a.marked);
          goes = subst (λ l. Advances c (tokens (plus p)) l (a.slots ++ f ∷ []) x) (sym e)
              (advances_one c t.plus (tokens p) gs a.slots f x (x || f.ended) a.goes (λ st. refl));
        }
    advancing (optional p) B fs x (gs, f, e, h) hx =
        let a = advancing p B gs x h hx in
        record {
          slots = a.slots ++ f ∷ [];
          marked = (a.slots, f, refl, a.marked);
          goes = subst (λ l. Advances c (tokens (optional p)) l (a.slots ++ f ∷ []) x) (sym e)
              (advances_one c t.optional (tokens p) gs a.slots f x x a.goes (λ st. refl));
        }
