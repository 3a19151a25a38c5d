use Rattle.std.proofs.Common.{subst, ◌≡◌, true}
use Rattle.wot_types.specs.Fpr.{same_fpr}
use Rattle.wot_types.specs.FprLaws.{fpr_total, same_fpr-true, same_fpr-refl}
use Rattle.wot_types.proofs.laws.fingerprints_tie_where_equal.Goals as goal

pub returns : goal.returns
returns c = record {
  total = fpr_total;
  tied = λ a b. (same_fpr-true a b, λ e. subst (λ x. same_fpr a x ≡ true) e (same_fpr-refl a));
}
