use Rattle.std.proofs.Common.{◌<◌, ◌≡◌, ◌≢◌, length, arith, rules, get_or-set_other, get_or-set_same, below_more}
use Rattle.wot_policy.proofs.standard.rows_with.Goals as goal

pub loop-hash-preserved : goal.loop-hash-preserved
loop-hash-preserved c =
    let all : length c.loop-hash.rows ≡ 256 = c.loop-hash.invariant.whole in
    let lt : c.loop-hash.hash < length c.loop-hash.rows = omega (arith, all) in
    record {
      whole = search rules;
      filled =
          below_more _ _
          (λ k h. let ne : k ≢ c.loop-hash.hash = omega arith in rw get_or-set_other (c.loop-hash.invariant.filled k h))
          (rw get_or-set_same c.row_with.ensures);
    }
