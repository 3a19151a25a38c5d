use Rattle.std.proofs.Common.{arith, sym, ap, ◌∙◌, ◌≡◌, [], ◌∷◌, ◌++◌, length, ◌+◌, append_assoc, length-append}
use Rattle.std.specs.Str.{chars}
use Rattle.std.specs.Str.Iter.{chars_rest}
use Rattle.std.proofs.lemmas.List.{append-nil}
use Rattle.std.proofs.lemmas.Str.{chars_past_char, IsUtf8-past_char}
use Rattle.wot_pattern.proofs.Walk.{none_left}
use Rattle.wot_pattern.proofs.parser.characters_of.Goals as goal

pub characters-preserved : goal.characters-preserved
characters-preserved c =
    let old = c.characters.characters.items in
    let step = chars_past_char (chars_rest c.characters.rest) (chars_rest c.next.new.self) c.in-Some.character
    c.characters.invariant.0 c.in-Some.ensures.steps.0 in
    let pushed = c.in_ok-push.ensures.items in
    let long : length c.push.new.self.items ≡ length old + 1 =
    ap length pushed ∙ length-append old (c.in-Some.character ∷ []) in (
      IsUtf8-past_char (chars_rest c.characters.rest) (chars_rest c.next.new.self) c.in-Some.character
          c.characters.invariant.0 c.in-Some.ensures.steps.0,
      c.characters.invariant.1 ∙ ap (λ x. old ++ x) step
          ∙ sym (append_assoc old (c.in-Some.character ∷ []) (chars (chars_rest c.next.new.self)))
          ∙ ap (λ x. x ++ chars (chars_rest c.next.new.self)) (sym pushed),
      omega arith,
    )

pub returns-clause-all : goal.returns-clause-all
returns-clause-all c =
    sym (c.characters.invariant.1
    ∙ ap (λ x. c.characters.characters.items ++ x)
    (none_left (chars (chars_rest c.characters.rest)) c.next.result c.next.ensures.steps.2 c.in_default.is)
    ∙ append-nil c.characters.characters.items)
