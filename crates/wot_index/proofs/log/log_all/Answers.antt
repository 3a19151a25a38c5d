use Rattle.std.proofs.Common.{subst}
use Rattle.wot_types.specs.declared.fpr.Fpr.{Fpr}
use Rattle.wot_keyring_spec.specs.Keyring.{is_fpr}
use Rattle.wot_index.specs.Log.{LogsAt}
use Rattle.wot_index.proofs.Logged.{none_logged, one_logged}
use Rattle.wot_index.proofs.log.log_all.Goals as goal

pub left-init : goal.left-init
left-init c = record { logged = none_logged c.args.stamp c.args.certs.now c.args.log.now c.requires.from }

pub left-preserved : goal.left-preserved
left-preserved c = record {
  logged =
      one_logged c.args.stamp c.left.left.now c.in-Some.rest.now c.args.certs.now c.in-Some.cert.now c.args.log.now
      c.left.log c.log_at.new.log c.in-Some.ensures.cases.0 c.left.invariant.logged
      (subst (λ (f : Fpr). LogsAt c.args.stamp (is_fpr f) c.left.log c.log_at.new.log) c.fpr.ensures.fpr
      c.log_at.ensures.logged);
}
