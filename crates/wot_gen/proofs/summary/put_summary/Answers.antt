use Rattle.std.proofs.Common.{◌≡◌, ◌++◌, ◌∷◌, [], ap, ◌∙◌}
use Rattle.std.specs.String.{string_bytes}
use Rattle.hex.specs.Hex.{encode_lower}
use Rattle.wot_gen.proofs.ThreeLines.{numbers, summary_spelled}
use Rattle.wot_gen.proofs.summary.put_summary.Goals as goal

pub returns-clause-put : goal.returns-clause-put
returns-clause-put c =
    let text = numbers c.args.summary.now in
    let formatted : string_bytes c.in_ok-numbers.numbers ≡ text = c.in_ok-numbers.ensures.ok in
    let first : c.in_ok-text.text.items ≡ text = c.in_ok-text.ensures.items ∙ c.as_bytes.ensures.value ∙ formatted in
    let second : c.put_digits.new.text.items ≡ text ++ encode_lower c.args.summary.now.digest =
    c.in_ok-put_digits.ensures ∙ ap (λ front. front ++ encode_lower c.args.summary.now.digest) first in
    let third : c.push.new.self.items ≡ (text ++ encode_lower c.args.summary.now.digest) ++ 10 ∷ [] =
    c.in_ok-push.ensures.items ∙ ap (λ front. front ++ 10 ∷ []) second in
    let spelled = summary_spelled c.args.summary.now in
    c.in_ok-extend_from_slice.ensures.items
    ∙ ap (λ more. c.args.out.now.items ++ more) (c.deref.ensures.value ∙ third ∙ spelled)
