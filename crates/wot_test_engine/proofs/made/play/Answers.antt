use Rattle.std.proofs.Common.{◌≤◌, ◌+◌, inl, inr, ap, subst, sym, arith}
use Rattle.wot_policy.specs.declared.rows.PolicyRows.{PolicyRows}
use Rattle.wot_keyring_spec.specs.Import.{IsOneChange}
use Rattle.wot_keyring_spec.specs.Keyring.{Keyring}
use Rattle.wot_keyring_spec.specs.Kept.{IsJudgedBy}
use Rattle.wot_test_engine.proofs.made.play.Goals as goal

one_more : (old new : Keyring) → IsOneChange old new → new.changes ≤ old.changes + 1
one_more old new (inl same) = let e = ap (λ (k : Keyring). k.changes) same in omega (arith, e)
one_more old new (inr changed) = let e = changed.counted in omega (arith, e)

pub line-requires : goal.line-requires
line-requires g c = record {
  countable = record {
    changes = omega (arith, c.loop-number.invariant.few);
    revisions = omega (arith, c.loop-number.invariant.revisions);
  };
  judging = record { judged = c.loop-number.invariant.judged; faithful = c.loop-number.invariant.faithful };
}

pub loop-number-preserved : goal.loop-number-preserved
loop-number-preserved g c = record {
  few = omega (
    arith,
    one_more c.loop-number.machine.engine.keyring c.line.new.self.engine.keyring c.line.ensures.counted,
    c.loop-number.invariant.few,
  );
  revisions = omega (arith, c.line.ensures.turned, c.loop-number.invariant.revisions);
  judged = subst (λ (r : PolicyRows). IsJudgedBy r c.line.new.self.engine.keyring) (sym c.line.ensures.judging.rows)
      c.line.ensures.judging.judged;
  faithful = c.line.ensures.judging.faithful;
}
