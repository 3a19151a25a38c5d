use Rattle.std.proofs.Common.{rules, arith, sym, subst, ap, ◌∙◌, inl, inr, ◌≡◌, length}
use Rattle.std.proofs.lemmas.List.{length-map}
use Rattle.std.specs.Str.{chars, IsUtf8}
use Rattle.std.specs.Str.Iter.{chars_rest}
use Rattle.std.proofs.lemmas.Str.{chars_past_char, IsUtf8-past_char}
use Rattle.std.proofs.lemmas.Bool.{false≢true}
use Rattle.wot_pattern.specs.Nodes.{tokens_of}
use Rattle.wot_pattern.proofs.Walk.{Looked, look_here, start_here, on_from_here, found, not_found, none_left}
use Rattle.wot_pattern.proofs.matcher.finds.Goals as goal

pub places-init : goal.places-init
places-init c = record {
  can = tt;
  ends = tt;
  utf8 = subst IsUtf8 (sym c.chars-rest.ensures.rest) c.utf8.text;
  slots = omega arith;
  ready = omega arith;
  begins = omega arith;
  walks = λ r e. start_here (chars c.args.text.now) (tokens_of c.args.nodes.now) r e
      (chars (chars_rest c.chars-rest.result)) (length c.args.slots.now) c.fill.new.self
      (ap chars c.chars-rest.ensures.rest)
      (c.requires.slots
      ∙ (let h : length (tokens_of c.args.nodes.now) ≡ length c.args.nodes.now = simp length-map in sym h))
      (c.fill.ensures.after (λ y h. h));
}

pub returns-then-through-clause-exactly : goal.returns-then-through-clause-exactly
returns-then-through-clause-exactly c = λ r e.
    let cs = chars (chars_rest c.places.rest) in
    let w = look_here (chars c.args.text.now) (tokens_of c.args.nodes.now) r e cs c.next-next.result c.places.first
    c.is_none.result c.places.slots c.closure-through.new.slots c.closure-through.result
    (c.places.invariant.walks r e) c.next-next.ensures.steps.2 c.is_none.ensures c.closure-through.ensures.slots
    c.closure-through.ensures.through in (
      λ _. found (chars c.args.text.now) r cs c.places.first c.closure-through.new.slots c.closure-through.result w
          (elim c.then-through.branch [
            | goal.then-through-via-then-through x ↦ inl x.if-through.true
            | goal.then-through-via-else-through+then-through-2 x ↦ inr x.if-through-2.true
          ]),
      λ _. search rules,
    )

pub returns-in_default-clause-exactly : goal.returns-in_default-clause-exactly
returns-in_default-clause-exactly c = λ r e.
    let cs = chars (chars_rest c.places.rest) in
    let w = look_here (chars c.args.text.now) (tokens_of c.args.nodes.now) r e cs c.next-next.result c.places.first
    c.is_none.result c.places.slots c.closure-through.new.slots c.closure-through.result
    (c.places.invariant.walks r e) c.next-next.ensures.steps.2 c.is_none.ensures c.closure-through.ensures.slots
    c.closure-through.ensures.through in (
      λ h. absurd (false≢true h),
      λ m. absurd (not_found (chars c.args.text.now) r c.places.first c.closure-through.new.slots c.closure-through.result
          (subst (λ x. Looked (chars c.args.text.now) r x c.places.first c.closure-through.new.slots
          c.closure-through.result) (none_left cs c.next-next.result c.next-next.ensures.steps.2 c.in_default.is) w)
          c.if-through.false c.if-through-2.false m),
    )

pub places-preserved : goal.places-preserved
places-preserved c =
    let bytes = (rw c.in-Some.is at c.next-next.ensures.steps.0) in
    let cs = chars (chars_rest c.places.rest) in
    record {
      can = tt;
      ends = tt;
      utf8 = IsUtf8-past_char (chars_rest c.places.rest) (chars_rest c.next-next.new.self) c.in-Some.character
          c.places.invariant.utf8 bytes;
      slots = search rules;
      ready = omega arith;
      begins = omega arith;
      walks = λ r e.
          let w = look_here (chars c.args.text.now) (tokens_of c.args.nodes.now) r e cs c.next-next.result
          c.places.first c.is_none.result c.places.slots c.closure-through.new.slots c.closure-through.result
          (c.places.invariant.walks r e) c.next-next.ensures.steps.2 c.is_none.ensures c.closure-through.ensures.slots
          c.closure-through.ensures.through in
          on_from_here (chars c.args.text.now) (tokens_of c.args.nodes.now) r e cs
          (chars (chars_rest c.next-next.new.self)) c.in-Some.character c.places.first
          c.closure-through.new.slots c.advance.new.slots c.closure-through.result w
          (chars_past_char (chars_rest c.places.rest) (chars_rest c.next-next.new.self) c.in-Some.character
          c.places.invariant.utf8 bytes)
          c.if-through.false c.if-through-2.false c.advance.ensures.slots;
    }
