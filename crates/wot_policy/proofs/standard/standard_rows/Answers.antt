use Rattle.std.proofs.Common.{◌≡◌, true, false, if◌then◌else◌, slice_index_or}
use Rattle.wot_policy.specs.declared.rows.Row.TheVariants.{Never, Before, Always}
use Rattle.wot_policy.specs.Admits.{is_revoking}
use Rattle.wot_policy.specs.Standard.{standard_row, found_in, table_with, february_2013}
use Rattle.wot_policy.proofs.standard.standard_rows.Goals as goal

pub returns : goal.returns
unfolding standard_row
returns c =
    let plain = c.rows_with.result in
    let revoking = c.rows_with-2.result in
    record {
      standard = λ ask h.
          elim (is_revoking ask.kind) as
          (λ b. slice_index_or (if b then revoking else plain) ask.hash Never ≡ found_in
          (table_with (if b then Always else Before february_2013)) ask.hash) [
            | true ↦ c.rows_with-2.ensures ask.hash h
            | false ↦ c.rows_with.ensures ask.hash h
          ];
    }
