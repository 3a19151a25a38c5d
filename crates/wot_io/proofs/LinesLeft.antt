-- What a result says about the lines that are left, and about the limit on octets.
use Rattle.std.proofs.Common.{◌≡◌, inl, inr, ℕ, ◌^◌, ◌<◌, ◌≤◌, Bool, true, false, cond, ltb, List, [], ◌∷◌, ◌++◌}
use Rattle.std.proofs.Common.{length, Option, Some, None, Ok, refl, sym, ap, ◌∙◌, append_assoc, arith, length-append}
use Rattle.std.specs.Prelude.{IfSome}
use Rattle.std.proofs.lemmas.Bool.{le-ltb, lt-ltb}
use Rattle.std.proofs.lemmas.List.{append_cancel_right}
use Rattle.wot_io.specs.Input.{lines_of, HasNoFeed}
use Rattle.wot_io.specs.ReaderState.{ReaderState, Holding, Taking, reader_state}
use Rattle.wot_io.specs.declared.fault.LinesFault.{LinesFault}
use Rattle.wot_io.specs.declared.lines.Line.{Line}
use Rattle.wot_io.specs.declared.lines.Line.TheVariants.{Text, Long, End}
use Rattle.wot_io.specs.Given.{ReturnsNext, answer_of, AnswersLines, FirstFault, HasNotTooMuch}
use Rattle.wot_io.specs.Fill.{Took, Cuts, TakesLineOf, Stops, IsTooMuch}
use Rattle.wot_io.proofs.Cut.{lines_of-feed, lines_of-last}

-- the line that was cut is the first of the lines
cut_lines : (seen : Type 0) (octets line rest : List ℕ) → Cuts seen octets line rest
    → lines_of octets ≡ line ∷ lines_of rest
cut_lines seen octets line rest c =
    elim c.parts [
      | inl p ↦ ap lines_of p ∙ lines_of-feed line rest c.no_feed
      | inr p ↦ ap lines_of p.1 ∙ lines_of-last line p.3 c.no_feed ∙ ap (λ (x : List ℕ). line ∷ lines_of x) (sym p.2)
    ]

answer-text : (lines rest : List (List ℕ)) (line : List ℕ) → lines ≡ line ∷ rest → length line ≤ 16777216
    → Text ≡ answer_of lines
answer-text lines rest line e le =
    let b : ltb 16777216 (length line) ≡ false = le-ltb _ _ le in
    rw e (ap (λ (b : Bool). cond b Long Text) (sym b))

answer-long : (lines rest : List (List ℕ)) (line : List ℕ) → lines ≡ line ∷ rest → 16777216 < length line
    → Long ≡ answer_of lines
answer-long lines rest line e lt =
    let b : ltb 16777216 (length line) ≡ true = lt-ltb _ _ lt in
    rw e (ap (λ (b : Bool). cond b Long Text) (sym b))

pub AnswersLines-given : (line : Line) (old : ReaderState) (before : Option (List ℕ)) (new : ReaderState)
    (after : Option (List ℕ)) → ReturnsNext line old before new after → AnswersLines line old before new after
AnswersLines-given Text old None new after a = tt
AnswersLines-given Long old None new after a = tt
AnswersLines-given End old None new after a = tt
AnswersLines-given Text old (Some octets) new after a =
    let e = cut_lines (new.taken < 2 ^ 30) (old.held ++ octets) new.text (new.held ++ a.0.rest) a.0.cuts in
    record {
      rest = a.0.rest;
      left_is = a.0.left_is;
      answer = answer-text (lines_of (old.held ++ octets)) (lines_of (new.held ++ a.0.rest)) new.text e a.1;
      next =
          e;
    }
AnswersLines-given Long old (Some octets) new after a =
    let e = cut_lines (new.taken < 2 ^ 30) (old.held ++ octets) a.0 (new.held ++ a.2.rest) a.2.cuts in
    record {
      rest = a.2.rest;
      left_is = a.2.left_is;
      answer = answer-long (lines_of (old.held ++ octets)) (lines_of (new.held ++ a.2.rest)) a.0 e a.1;
      next =
          (a.0, e);
    }
AnswersLines-given End old (Some octets) new after a =
    let none : lines_of (old.held ++ octets) ≡ [] = rw (a.0.0, a.0.1) refl in
    let now : lines_of (new.held ++ []) ≡ [] = rw a.0.2 refl in
    record { rest = []; left_is = a.0.3; answer = ap answer_of (sym none); next = (none, now) }

-- a line feed that stands before the rest is in what is before it
feed_in : (xs ys line zs : List ℕ) → xs ++ ys ≡ line ++ 10 ∷ zs → length ys ≤ length zs → HasNoFeed xs → ⊥
feed_in [] ys line zs e le h = omega (arith, le, ap length e, length-append line (10 ∷ zs))
feed_in (x ∷ xs) ys [] zs e le h = h.0 (cc)
feed_in (x ∷ xs) ys (l ∷ line) zs e le h = let e' : xs ++ ys ≡ line ++ 10 ∷ zs = cc in feed_in xs ys line zs e' le h.1

gives_before : (held octets : List ℕ) (taken : ℕ) (now : List ℕ) (left : Option (List ℕ)) (number : ℕ) (line : List ℕ)
    → number ≤ 2 ^ 30 → TakesLineOf held octets taken now left number line → IsTooMuch held octets taken → ⊥
gives_before held octets taken now left number line le g m =
    elim g.cuts.parts [
      | inl p ↦ feed_in (held ++ m.prefix) m.rest line (now ++ g.rest)
          (append_assoc held m.prefix m.rest ∙ ap (λ (x : List ℕ). held ++ x) (sym m.parts) ∙ p)
          (omega (
            arith,
            g.count,
            m.most,
            le,
            ap length m.parts,
            length-append m.prefix m.rest,
            length-append now g.rest,
          )) m.no_feed
      | inr p ↦ absurd
          (omega (
            arith,
            g.count,
            m.most,
            p.0,
            ap length m.parts,
            length-append m.prefix m.rest,
            ap length p.2,
            length-append now g.rest,
          ))
    ]

pub IsTooMuch-given : (line : Line) (old : ReaderState) (before : Option (List ℕ)) (new : ReaderState)
    (after : Option (List ℕ)) → new.taken ≤ 2 ^ 30 → ReturnsNext line old before new after
    → IfSome before (λ octets. IsTooMuch old.held octets old.taken → ⊥)
IsTooMuch-given Text old None new after le a = tt
IsTooMuch-given Long old None new after le a = tt
IsTooMuch-given End old None new after le a = tt
IsTooMuch-given Text old (Some octets) new after le a =
    gives_before old.held octets old.taken new.held after new.taken new.text le a.0
IsTooMuch-given Long old (Some octets) new after le a =
    gives_before old.held octets old.taken new.held after new.taken a.0 le a.2
IsTooMuch-given End old (Some octets) new after le a =
    λ m. omega (arith, m.most, a.1, a.2, ap length m.parts, ap length a.0.1, length-append m.prefix m.rest)

-- a call that returns a line says no more of faults than that there isn't too much
pub none_first : (line : Line) (old : ReaderState) (before : Option (List ℕ)) (new : ReaderState)
    (after : Option (List ℕ)) → HasNotTooMuch old before → old.fault ≡ None → FirstFault (Ok line) old before new after
none_first line old before new after few none = record {
  stops = tt;
  no_feed = tt;
  too_much = λ e. absurd (cc e);
  too_much_only = λ e. absurd (cc e);
  too_much_where = few;
  low = λ e. absurd (cc e);
}

some-is : (x y : List ℕ) → Some x ≡ Some y → x ≡ y
some-is x y e = cc

pub IsTooMuch-stopped : (held : List ℕ) (before : Option (List ℕ)) (taken : ℕ) (after : Option (List ℕ)) (number : ℕ)
    → Took before taken after number → Stops held before taken after number → number ≡ 2 ^ 30
    → IfSome before (λ octets. IsTooMuch held octets taken)
IsTooMuch-stopped held None taken after number t s n = tt
IsTooMuch-stopped held (Some octets) taken after number t s n =
    let same : t.loses.rest ≡ s.rest = some-is t.loses.rest s.rest (sym t.loses.left_is ∙ s.left_is) in
    let parts : s.passed ++ s.rest ≡ (held ++ t.gone) ++ s.rest =
    sym s.parts ∙ ap (λ (x : List ℕ). held ++ x) t.loses.parts ∙ sym (append_assoc held t.gone t.loses.rest)
    ∙ ap (λ (x : List ℕ). (held ++ t.gone) ++ x) same in
    let passed : s.passed ≡ held ++ t.gone = append_cancel_right s.passed (held ++ t.gone) s.rest parts in
    record {
      prefix = t.gone;
      rest = t.loses.rest;
      parts = t.loses.parts;
      most = omega (arith, t.count, n);
      no_feed = rw passed at s.no_feed;
    }

-- a result doesn't depend on the fault
pub Answers-at : (line : Line) (old new : Holding) (taking taking_new : Taking)
    (f f_new fault fault_new : Option LinesFault) (before after : Option (List ℕ))
    → ReturnsNext line (reader_state old taking f) before (reader_state new taking_new f_new) after
    → ReturnsNext line (reader_state old taking fault) before (reader_state new taking_new fault_new) after
Answers-at Text old new taking taking_new f f_new fault fault_new before after a = a
Answers-at Long old new taking taking_new f f_new fault fault_new before after a = a
Answers-at End old new taking taking_new f f_new fault fault_new before after a = a
