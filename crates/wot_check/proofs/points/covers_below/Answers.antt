use Rattle.std.specs.Prelude.{◌↔◌}
use Rattle.std.proofs.Common.{◌≡◌, Bool, true, refl, arith}
use Rattle.std.proofs.lemmas.Result.{IfOk-weaker}
use Rattle.wot_check.specs.Asked.{question_of, used_in}
use Rattle.wot_check.specs.Demand.{Covers, CoversBelow}
use Rattle.wot_check.proofs.points.covers_below.Goals as goal

pub returns-then-label-eq255 : goal.returns-then-label-eq255
returns-then-label-eq255 g c = (λ e lt. let n = c.if-label-eq255.true in absurd (omega (arith, lt, n)), λ covers. refl)

pub returns : goal.returns
returns g c =
    let q = question_of (g.R.Roads.network c.args.roads.now) c.args.asked.now in
    let used = used_in c.args.asked.now in
    let small = c.ranges.label in
    let n = c.if-label-eq255.false in
    let P : Bool → Type 0 = λ covered. (covered ≡ true) ↔ Covers q used c.args.label c.args.table.now c.args.at.now in
    let Q : Bool → Type 0 =
    λ covered. (covered ≡ true) ↔ CoversBelow c.args.label c.args.table.now c.args.at.now q used in
    IfOk-weaker c.covers.result P Q (λ covered h. (λ e lt. h.0 e, λ covers. h.1 (covers (omega (arith, n)))))
    c.covers.ensures
