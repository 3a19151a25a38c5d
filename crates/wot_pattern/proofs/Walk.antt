-- The matcher's way along the text, from position to position.
use Rattle.std.specs.Prelude.{◌≡◌, ℕ, zero, ◌+◌, ◌<◌, ◌≤◌, ◌⊎◌, Bool, true, false, List, [], ◌∷◌, ◌++◌, length, Option}
use Rattle.std.specs.Prelude.{Some, None, slice_get, replicate, not, is_some}
use Rattle.std.proofs.Common.{refl, sym, subst, ap, ◌∙◌, inl, inr, arith, append_assoc, length-append}
use Rattle.std.proofs.lemmas.List.{append-nil, replicate-append-replicate}
use Rattle.std.proofs.lemmas.Bool.{cases_lt, false≢true}
use Rattle.wot_pattern.specs.declared.flow.Flow.{Flow}
use Rattle.wot_pattern.specs.Reading.{Reading, nothing, single, sequence, either, star, plus, optional}
use Rattle.wot_pattern.specs.Tokens as t
use Rattle.wot_pattern.specs.Tokens.{Token, tokens}
use Rattle.wot_pattern.specs.Meaning.{Holds, Matches}
use Rattle.wot_pattern.specs.Passes.{no_flow, top, settled, advanced}
use Rattle.wot_pattern.proofs.Tests.{IsTestOf, tells_never, tells_always}
use Rattle.wot_pattern.proofs.Flows.{Holds-le, Ended, After, Right}
use Rattle.wot_pattern.proofs.SlotMarks.{Marked, Ready, Settling, settling, Advancing, advancing}

-- a match may begin at each position
abbrev pub Everywhere : ℕ → Type 0
Everywhere i = Unit {0}

abbrev blank : ℕ → List Flow
blank n = replicate n no_flow

blank_two : (ps qs : List Token) (t : Token)
    → blank (length (ps ++ (qs ++ t ∷ []))) ≡ blank (length ps) ++ (blank (length qs) ++ no_flow ∷ [])
blank_two ps qs t =
    let e : length (ps ++ (qs ++ t ∷ [])) ≡ length ps + (length qs + 1) = simp length-append in
    ap blank e ∙ sym (replicate-append-replicate (length ps) (length qs + 1) no_flow)
    ∙ ap (λ l. blank (length ps) ++ l) (sym (replicate-append-replicate (length qs) 1 no_flow))

blank_one : (ps : List Token) (t : Token) → blank (length (ps ++ t ∷ [])) ≡ blank (length ps) ++ no_flow ∷ []
blank_one ps t =
    let e : length (ps ++ t ∷ []) ≡ length ps + 1 = simp length-append in
    ap blank e ∙ sym (replicate-append-replicate (length ps) 1 no_flow)

module _ (text : List ℕ) where
  -- nothing ended before the text began
  pub blank_marked : (r : Reading) (B : ℕ → Type 0) → Marked text r B 0 (blank (length (tokens r)))
  blank_marked nothing B = (no_flow, refl)
  blank_marked (single a) B =
      (no_flow, refl, tells_never false (Ended text (single a) B 0) refl (λ (j, l, b, h). omega arith))
  blank_marked (sequence p q) B = (
    blank (length (tokens p)),
    blank (length (tokens q)),
    no_flow,
    blank_two (tokens p) (tokens q) t.sequence,
    blank_marked p B,
    blank_marked q (After text B p),
  )
  blank_marked (either p q) B = (
    blank (length (tokens p)),
    blank (length (tokens q)),
    no_flow,
    blank_two (tokens p) (tokens q) t.either,
    blank_marked p B,
    blank_marked q B,
  )
  blank_marked (star p) B =
      (blank (length (tokens p)), no_flow, blank_one (tokens p) t.star, blank_marked p (After text B (star p)))
  blank_marked (plus p) B =
      (blank (length (tokens p)), no_flow, blank_one (tokens p) t.plus, blank_marked p (After text B (star p)))
  blank_marked (optional p) B = (blank (length (tokens p)), no_flow, blank_one (tokens p) t.optional, blank_marked p B)

  module _ (r : Reading) where
    -- The characters of the text up to this position were read, and no match ends before it.
    pub record Walking (rest : List ℕ) (first : Bool) (slots : List Flow) : Type 0 where
      pub before : List ℕ
      pub splits : text ≡ before ++ rest
      pub is_first : IsTestOf first (length before ≡ 0)
      pub marked : Marked text r Everywhere (length before) slots
      pub none : (j i : ℕ) → i < length before → Holds text r j i → ⊥

    pub walk_begins : (first : Bool) → first ≡ true → Walking text first (blank (length (tokens r)))
    walk_begins first e = record {
      before = [];
      splits = refl;
      is_first = record { says = λ _. refl; said = λ _. e };
      marked = blank_marked r Everywhere;
      none = λ j i l h. absurd (omega arith);
    }

    settled_all :
        (first last : Bool) (i : ℕ) (fs : List Flow) (s : Settling text first last r Everywhere i fs)
        → settled first last (tokens r) fs [] ≡ (s.slots, s.through ∷ [])
    settled_all first last i fs s =
        ap (λ l. settled first last l fs []) (sym (append-nil (tokens r)))
        ∙ ap (λ l. settled first last (tokens r ++ []) l []) (sym (append-nil fs))
        ∙ s.goes [] [] [] ∙ ap (λ l. (l, s.through ∷ [])) (append-nil s.slots)

    -- the position after the first pass there
    pub record Looked (rest : List ℕ) (first : Bool) (slots : List Flow) (through : Flow) : Type 0 where
      pub before : List ℕ
      pub splits : text ≡ before ++ rest
      pub ready : Ready text r Everywhere (length before) slots
      pub right : Right text r Everywhere (length before) through
      pub none : (j i : ℕ) → i < length before → Holds text r j i → ⊥

    at_end : (before rest : List ℕ) (last : Bool) → text ≡ before ++ rest → IsTestOf last (length rest ≡ 0)
        → IsTestOf last (length before ≡ length text)
    at_end before rest last e h =
        let k : length text ≡ length before + length rest = ap length e ∙ length-append before rest in
        record { says = λ x. let y : length rest ≡ 0 = h.says x in omega arith; said = λ x. h.said (omega arith) }

    pub look :
        (rest : List ℕ) (first last : Bool) (slots slots' : List Flow) (through : Flow) → Walking rest first slots
        → IsTestOf last (length rest ≡ 0)
        → slots' ≡ (settled first last (tokens r) slots []).0 → through ≡ top (settled first last (tokens r) slots []).1
        → Looked rest first slots' through
    look rest first last slots slots' through w h e f =
        let s = settling text first last (length w.before) w.is_first (at_end w.before rest last w.splits h) r
        Everywhere slots w.marked in
        let a = settled_all first last (length w.before) slots s in
        record {
          before = w.before;
          splits = w.splits;
          none = w.none;
          ready = subst (λ x. Ready text r Everywhere (length w.before) x)
              (sym (e ∙ ap (λ (x : List Flow × List Flow). x.0) a)) s.ready;
          right = subst (λ x. Right text r Everywhere (length w.before) x)
              (sym (f ∙ ap (λ (x : List Flow × List Flow). top x.1) a)) s.right;
        }

    pub found : (rest : List ℕ) (first : Bool) (slots : List Flow) (through : Flow) → Looked rest first slots through
        → (through.empty ≡ true) ⊎ (through.ended ≡ true) → Matches text r
    found rest first slots through w h =
        let l : length text ≡ length w.before + length rest = ap length w.splits ∙ length-append w.before rest in
        elim h [
          | inl e ↦ (length w.before, length w.before, omega arith, omega arith, w.right.empty.says e)
          | inr e ↦ let (j, k, u, x) = w.right.ended.says e in (j, length w.before, omega arith, omega arith, x)
        ]

    none_here :
        (rest : List ℕ) (first : Bool) (slots : List Flow) (through : Flow) (w : Looked rest first slots through)
        → through.empty ≡ false → through.ended ≡ false → (j i : ℕ) → i ≤ length w.before → Holds text r j i → ⊥
    none_here rest first slots through w e f j i l h =
        elim (cases_lt i (length w.before)) [
          | inl k ↦ w.none j i k h
          | inr k ↦
              let q : i ≡ length w.before = omega arith in
              let x : Holds text r j (length w.before) = subst (λ y. Holds text r j y) q h in
              elim (cases_lt j (length w.before)) [
                | inl m ↦ false≢true (sym f ∙ w.right.ended.said (j, m, tt, x))
                | inr m ↦
                    let n : j ≤ length w.before = Holds-le text r j (length w.before) x in
                    let p : j ≡ length w.before = omega arith in
                    false≢true (sym e ∙ w.right.empty.said (subst (λ y. Holds text r y (length w.before)) p x))
              ]
        ]

    pub not_found :
        (first : Bool) (slots : List Flow) (through : Flow) → Looked [] first slots through
        → through.empty ≡ false → through.ended ≡ false → Matches text r → ⊥
    not_found first slots through w e f (j, i, a, b, h) =
        let l : length text ≡ length w.before + 0 = ap length w.splits ∙ length-append w.before [] in
        none_here [] first slots through w e f j i (omega arith) h

    advanced_all :
        (c i : ℕ) (fs : List Flow) (s : Advancing text c r Everywhere i fs true)
        → (advanced c (tokens r) fs (true ∷ [])).0 ≡ s.slots
    advanced_all c i fs s =
        ap (λ (x : List Flow × List Bool). x.0) (
        ap (λ l. advanced c l fs (true ∷ [])) (sym (append-nil (tokens r)))
        ∙ ap (λ l. advanced c (tokens r ++ []) l (true ∷ [])) (sym (append-nil fs))
        ∙ s.goes [] [] (true ∷ []) [] [] refl ∙ ap (λ l. (l, [])) (append-nil s.slots))

    char_here : (before rest : List ℕ) (c : ℕ) → slice_get (before ++ c ∷ rest) (length before) ≡ Some c
    char_here [] rest c = refl
    char_here (x ∷ before) rest c = char_here before rest c

    pub walk_on :
        (c : ℕ) (rest : List ℕ) (first first' : Bool) (slots slots' : List Flow) (through : Flow)
        → Looked (c ∷ rest) first slots through
        → through.empty ≡ false → through.ended ≡ false
        → slots' ≡ (advanced c (tokens r) slots (true ∷ [])).0 → first' ≡ false → Walking rest first' slots'
    walk_on c rest first first' slots slots' through w e f is n =
        let at : slice_get text (length w.before) ≡ Some c =
        ap (λ l. slice_get l (length w.before)) w.splits ∙ char_here w.before rest c in
        let s = advancing text c (length w.before) at r Everywhere slots true w.ready (tells_always (Unit {0}) tt) in
        let k : length (w.before ++ c ∷ []) ≡ length w.before + 1 = length-append w.before (c ∷ []) in
        record {
          before = w.before ++ c ∷ [];
          splits = w.splits ∙ sym (append_assoc w.before (c ∷ []) rest);
          is_first = tells_never first' (length (w.before ++ c ∷ []) ≡ 0) n (λ x. omega arith);
          marked = subst (λ x. Marked text r Everywhere x slots') (sym k)
              (subst (λ x. Marked text r Everywhere (length w.before + 1) x)
              (sym (is ∙ advanced_all c (length w.before) slots s)) s.marked);
          none = λ j i l h. none_here (c ∷ rest) first slots through w e f j i (omega arith) h;
        }

none_tells : (cs : List ℕ) (next : Option ℕ) (last : Bool) → next ≡ slice_get cs 0 → is_some next ≡ not last
    → IsTestOf last (length cs ≡ 0)
none_tells [] next true e f = tells_always (zero ≡ zero) refl
none_tells [] next false e f = absurd (false≢true (ap (λ (o : Option ℕ). is_some o) (sym e) ∙ f))
none_tells (x ∷ cs) next true e f = absurd (false≢true (sym f ∙ ap (λ (o : Option ℕ). is_some o) e))
none_tells (x ∷ cs) next false e f = tells_never false (length (x ∷ cs) ≡ 0) refl (λ h. omega arith)

pub none_left : (cs : List ℕ) (next : Option ℕ) → next ≡ slice_get cs 0 → next ≡ None → cs ≡ []
none_left [] next e f = refl
none_left (x ∷ cs) next e f =
    let h : is_some {T = ℕ} None ≡ true = ap (λ (o : Option ℕ). is_some o) (sym f ∙ e) in absurd (false≢true h)

pub look_here :
    (text : List ℕ) (ts : List Token) (r : Reading) → ts ≡ tokens r
    → (cs : List ℕ) (next : Option ℕ) (first last : Bool) (slots slots' : List Flow) (through : Flow)
    → Walking text r cs first slots → next ≡ slice_get cs 0 → is_some next ≡ not last
    → slots' ≡ (settled first last ts slots []).0 → through ≡ top (settled first last ts slots []).1
    → Looked text r cs first slots' through
look_here text ts r e cs next first last slots slots' through w n l f g =
    look text r cs first last slots slots' through w (none_tells cs next last n l)
    (f ∙ ap (λ x. (settled first last x slots []).0) e) (g ∙ ap (λ x. top (settled first last x slots []).1) e)

pub start_here :
    (text : List ℕ) (ts : List Token) (r : Reading) → ts ≡ tokens r → (cs : List ℕ) (n : ℕ) (slots : List Flow)
    → cs ≡ text → n ≡ length ts → slots ≡ replicate n no_flow → Walking text r cs true slots
start_here text ts r e cs n slots f l g =
    subst (λ x. Walking text r x true slots) (sym f)
    (subst (λ x. Walking text r text true x) (sym (g ∙ ap blank (l ∙ ap length e))) (walk_begins text r true refl))

pub on_from_here :
    (text : List ℕ) (ts : List Token) (r : Reading) → ts ≡ tokens r
    → (cs rest : List ℕ) (c : ℕ) (first : Bool) (slots slots' : List Flow) (through : Flow)
    → Looked text r cs first slots through → cs ≡ c ∷ rest → through.empty ≡ false → through.ended ≡ false
    → slots' ≡ (advanced c ts slots (true ∷ [])).0 → Walking text r rest false slots'
on_from_here text ts r e cs rest c first slots slots' through w f g h s =
    walk_on text r c rest first false slots slots' through (subst (λ x. Looked text r x first slots through) f w) g h
    (s ∙ ap (λ x. (advanced c x slots (true ∷ [])).0) e) refl
