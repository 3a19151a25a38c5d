use Rattle.std.proofs.Common.{◌≡◌, List, ℕ, length, get_or, ap, ◌∙◌, arith}
use Rattle.wot_fields.specs.Decimal.{decimal_up_to}
use Rattle.wot_engine.proofs.Forms.{parsed}
use Rattle.wot_engine.proofs.form.number_in.Goals as goal

pub returns : goal.returns
returns c =
    let same : c.as_bytes.result.now ≡ c.as_str-digits.result.now = c.as_bytes.ensures.value in
    let first = ap (λ (x : List ℕ). get_or x 0 0) same in
    record {
      number = c.ok.ensures.value
          ∙ parsed c.as_str-digits.result.now c.parse.result c.parse.ensures.value.0
          (λ e. c.begins_wrongly.ensures.sign c.if-begins_wrongly.false (first ∙ e))
          (λ two e. c.begins_wrongly.ensures.zero c.if-begins_wrongly.false (omega (arith, two, ap length same))
          (first ∙ e))
          ∙ ap (decimal_up_to 18446744073709551615) c.as_str-digits.ensures.value;
    }
