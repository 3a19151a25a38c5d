use Rattle.std.proofs.Common.{◌+◌, ◌<◌, ◌^◌, ℕ, Bool, cond, sym, ap, subst, ◌∙◌}
use Rattle.wot_types.specs.Fpr.{same_fpr}
use Rattle.wot_types.specs.FprLaws.{same_fpr-refl}
use Rattle.wot_edge.specs.Sums.{Sums, root_sum}
use Rattle.wot_edge.proofs.used.Used.add.Goals as goal

pub raise_root-requires-clause-fits : goal.raise_root-requires-clause-fits
raise_root-requires-clause-fits c =
    let root = c.args.path.now.root in
    let amount = c.args.path.now.amount in
    let fits : root_sum c.args.self.now root + cond (same_fpr root root) amount 0 < 2 ^ 32 =
    c.requires.roots_fit root in
    let fits' = subst (λ (b : Bool). root_sum c.args.self.now root + cond b amount 0 < 2 ^ 32) (same_fpr-refl root)
    fits in
    subst (λ (sum : ℕ). sum + amount < 2 ^ 32)
    (ap (λ (sums : Sums). root_sum sums root) (sym c.self.view_is) ∙ sym (c.in_ok-make_root_room.ensures.same root))
    fits'
