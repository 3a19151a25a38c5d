use Rattle.std.proofs.Common.{sym}
use Rattle.wot_answers.specs.RightLaws.{right_found}
use Rattle.wot_cache.proofs.basis.kept_sum.Goals as goal

pub sum_of-requires : goal.sum_of-requires
sum_of-requires c = record {
  right = c.in-Some-kept.ensures.right c.args.keyring.now
      (right_found c.args.keyring.now c.args.answers.now.entries c.args.view.now c.in-Some.of_view.now c.requires.right
      (sym c.in-Some.ensures.value));
}
