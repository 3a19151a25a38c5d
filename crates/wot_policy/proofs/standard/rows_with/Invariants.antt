use Rattle.std.proofs.Common.{◌≡◌, ℕ, ◌<◌, length, slice_index_or}
use Rattle.wot_policy.specs.declared.rows.Row.TheVariants.{Never}
use Rattle.wot_policy.specs.Standard.{found_in, table_with}
use Rattle.wot_policy.proofs.standard.rows_with.Given as goal

abbrev pub invariant-loop-hash : goal.invariant-loop-hash
invariant-loop-hash l = record {
  whole : length l.rows ≡ 256;
  filled : (k : ℕ) → k < l.hash → slice_index_or l.rows k Never ≡ found_in (table_with l.old) k;
}
