use Rattle.std.proofs.Common.{◌≡◌, ◌≤◌, None, sym, ◌∙◌, arith}
use Rattle.std.specs.String.{string_bytes}
use Rattle.wot_fields.specs.Decimal.{positive_up_to}
use Rattle.wot_engine.proofs.Forms.{count_none, count_other, count_some}
use Rattle.wot_engine.proofs.form.count_in.Goals as goal
use Rattle.wot_engine.proofs.form.count_in.Goals.{then-number-eq0-via-then-number-eq0}
use Rattle.wot_engine.proofs.form.count_in.Goals.{then-number-eq0-via-else-number-eq0+then-number-gt-MOST_KEYS}

pub returns-in_err-number : goal.returns-in_err-number
returns-in_err-number c =
    record {
      count = c.from_residual.ensures
          ∙ sym (count_none (string_bytes c.args.word.now) (sym c.in_err-number.ensures.number));
    }

pub returns-then-number-eq0 : goal.returns-then-number-eq0
returns-then-number-eq0 c =
    let n = c.in_ok-number.number in
    let other : (1 ≤ n → n ≤ 2000 → ⊥) → positive_up_to 2000 (string_bytes c.args.word.now) ≡ None =
    count_other (string_bytes c.args.word.now) n (sym c.in_ok-number.ensures.number) in
    elim c.then-number-eq0.branch [
      | then-number-eq0-via-then-number-eq0 w ↦
          record { count = sym (other (λ some few. omega (arith, w.if-number-eq0.true))) }
      | then-number-eq0-via-else-number-eq0+then-number-gt-MOST_KEYS w ↦
          record { count = sym (other (λ some few. omega (arith, w.if-number-gt-MOST_KEYS.true))) }
    ]

pub returns : goal.returns
returns c = record {
  count =
      sym (count_some (string_bytes c.args.word.now) c.in_ok-number.number (sym c.in_ok-number.ensures.number)
      (omega arith) (omega arith));
}
