use Rattle.std.proofs.Common.{◌≡◌, ◌+◌, suc, ℕ, inl, inr, subst, sym, ◌∙◌, arith}
use Rattle.std.proofs.lemmas.Bool.{eqb-true}
use Rattle.std.specs.Prelude.{vec_len}
use Rattle.wot_check.specs.Asked.{question_of, used_in}
use Rattle.wot_check.specs.Growth.{IsAfter}
use Rattle.wot_check.proofs.AfterALayer.{begun, settled}
use Rattle.wot_check.proofs.making.table_at_rest.Goals as goal

pub layers-init : goal.layers-init
layers-init g c =
    begun (question_of (g.R.Roads.network c.args.roads.now) c.args.asked.now) (used_in c.args.asked.now)
    c.in_ok-growth.growth c.in_ok-growth.ensures.table c.in_ok-growth.ensures.layer

pub layers-preserved : goal.layers-preserved
layers-preserved g c =
    let q = question_of (g.R.Roads.network c.args.roads.now) c.args.asked.now in
    let n : suc c.layers.size ≡ c.layers.size + 1 = omega arith in
    subst (λ (m : ℕ). IsAfter q (used_in c.args.asked.now) m c.advance.new.growth) n
    (c.in_ok-advance.ensures.after c.layers.invariant)

pub returns-then-is_empty : goal.returns-then-is_empty
returns-then-is_empty g c =
    let q = question_of (g.R.Roads.network c.args.roads.now) c.args.asked.now in
    let lt = c.layers-test.true in
    let empty = sym c.advance.new.growth.layer.ok.0
    ∙ eqb-true (vec_len c.advance.new.growth.layer) 0 (sym c.is_empty.ensures ∙ c.if-is_empty.true) in
    record {
      settled = settled q (used_in c.args.asked.now) (suc c.layers.size) c.advance.new.growth (omega arith)
          (omega (arith, lt)) (inl empty) (c.in_ok-advance.ensures.after c.layers.invariant);
    }

pub returns : goal.returns
returns g c =
    let q = question_of (g.R.Roads.network c.args.roads.now) c.args.asked.now in
    let most = c.layers.auto.size-end in
    let past = c.layers-test.false in
    let all : c.layers.size ≡ 255 = omega (arith, most, past) in
    record {
      settled = settled q (used_in c.args.asked.now) c.layers.size c.layers.growth (omega (arith, all))
          (omega (arith, all)) (inr all) c.layers.invariant;
    }
