use Rattle.std.proofs.Common.{◌≡◌, ◌+◌, IsSome, Ordering, subst, cond, sym, ap, ◌∙◌}
use Rattle.std.specs.BTreeMap.{is_at}
use Rattle.std.specs.Map.{lookup}
use Rattle.std.specs.Ordering.{is_eq}
use Rattle.wot_edge.specs.declared.used.Pair.{Pair}
use Rattle.wot_edge.specs.Sums.{sum_at, pair_cmp, pair_of}
use Rattle.wot_edge.proofs.PairSums.{derived_pair_cmp, same_pair_cmp, at_pair, step_raised, step_kept}
use Rattle.wot_edge.proofs.pairs.raise_step.Goals as goal

pub returns-then-not-any_of-clause-raised : goal.returns-then-not-any_of-clause-raised
returns-then-not-any_of-clause-raised c q =
    let step = c.args.step.now in
    let old = c.args.pairs.now.entries in
    let new = c.raise.new.sums.entries in
    let P : (Pair → Pair → Ordering) → Type 0 =
    λ cmp. (q : Pair) → sum_at cmp new q ≡ sum_at cmp old q + cond (is_eq (cmp (pair_of step) q)) c.args.amount 0 in
    let R : Pair → Type 0 =
    λ key. (q : Pair)
    → sum_at derived_pair_cmp new q ≡ sum_at derived_pair_cmp old q + cond (is_eq (derived_pair_cmp key q))
    c.args.amount 0 in
    let raised = subst P same_pair_cmp (subst R c.pair_of_step.ensures.pair c.raise.ensures.raised) q in
    step_raised q step c.args.later.now c.args.amount (sum_at pair_cmp old q) (sum_at pair_cmp new q)
    (sym c.if-not-any_of.ensures.any)
    (raised ∙ ap (λ b. sum_at pair_cmp old q + cond b c.args.amount 0) (at_pair q step))

pub returns-then-not-any_of-clause-others : goal.returns-then-not-any_of-clause-others
returns-then-not-any_of-clause-others c =
    let P : (Pair → Pair → Ordering) → Type 0 =
    λ cmp. (q : Pair) → IsSome (lookup (is_at (cmp q)) c.args.pairs.now.entries)
    → IsSome (lookup (is_at (cmp q)) c.raise.new.sums.entries) in
    subst P same_pair_cmp c.raise.ensures.others

pub returns-else-not-any_of-clause-raised : goal.returns-else-not-any_of-clause-raised
returns-else-not-any_of-clause-raised c q =
    step_kept q c.args.step.now c.args.later.now c.args.amount (sum_at pair_cmp c.args.pairs.now.entries q)
    (sym c.if-not-any_of.ensures.any)
