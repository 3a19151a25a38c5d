use Rattle.std.specs.Prelude.{◌↔◌}
use Rattle.std.proofs.Common.{◌≡◌, ◌∙◌, Bool, true, sym}
use Rattle.std.proofs.lemmas.Bool.{false≢true}
use Rattle.std.proofs.lemmas.Result.{IfOk-weaker}
use Rattle.wot_check.specs.Absence.{Excludes, OthersLabelled}
use Rattle.wot_check.specs.Asked.{question_of, used_in}
use Rattle.wot_check.proofs.ThreePoints.{rooted_unspent, three_points, last_covered}
use Rattle.wot_check.proofs.points.excludes.Goals as goal

pub returns-then-not-roots_spent : goal.returns-then-not-roots_spent
returns-then-not-roots_spent g c =
    let network = g.R.Roads.network c.args.roads.now in
    let q = question_of network c.args.asked.now in
    let used = used_in c.args.asked.now in (
      λ e. absurd (false≢true e),
      λ x. absurd (rooted_unspent q used c.args.table.now (c.if-not-roots_spent.ensures network) x.roots),
    )

pub returns-then-not-branch : goal.returns-then-not-branch
returns-then-not-branch g c =
    let q = question_of (g.R.Roads.network c.args.roads.now) c.args.asked.now in
    let used = used_in c.args.asked.now in (
      λ e. absurd (false≢true e),
      λ x. absurd (false≢true
          (sym c.if-not-branch.true ∙ c.in_ok-covers.ensures.1 (last_covered q used c.args.table.now x))),
    )

pub returns : goal.returns
returns g c =
    let network = g.R.Roads.network c.args.roads.now in
    let q = question_of network c.args.asked.now in
    let used = used_in c.args.asked.now in
    let table = c.args.table.now in
    let P : Bool → Type 0 = λ meets. (meets ≡ true) ↔ OthersLabelled q used table in
    let Q : Bool → Type 0 = λ meets. (meets ≡ true) ↔ Excludes q used table in
    IfOk-weaker c.covers_all.result P Q
    (λ meets h. (
      λ e. three_points q used table c.iter-labels.ensures.table (c.if-not-roots_spent.ensures network)
          (c.in_ok-covers.ensures.0 c.if-not-branch.false) (h.0 e),
      λ x. h.1 x.closes.others,
    ))
    c.covers_all.ensures
