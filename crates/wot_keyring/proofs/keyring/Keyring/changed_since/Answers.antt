use Rattle.std.proofs.Common.{◌≡◌, ◌<◌, ℕ, true, subst}
use Rattle.wot_types.specs.declared.fpr.Fpr.{Fpr}
use Rattle.wot_keyring_spec.specs.Keyring.{Keyring}
use Rattle.wot_index.specs.Log.{Logged, HasChangedSince, is_listed, is_logged_at}
use Rattle.wot_index.proofs.Since.{has_changed}
use Rattle.wot_keyring.proofs.keyring.Keyring.changed_since.Goals as goal

pub returns : goal.returns
returns c = record {
  since =
      subst (λ (k : Keyring). HasChangedSince k c.args.count c.since.result.now) c.self.view_is
      (has_changed (record {
        limits = c.self.inside.limits;
        certs = c.self.inside.certs.entries;
        verdicts = c.self.inside.index.verdicts.entries;
        changes = c.self.inside.changes;
      }) c.self.inside.log c.args.count c.since.result.now
      c.self.invariant.3 c.if-count-self.false
      (subst (λ (es : Logged). (s : ℕ) (fpr : Fpr) → c.args.count < s → is_logged_at s fpr es ≡ true →
      is_listed fpr c.since.result.now ≡ true) c.as_slice.ensures.value c.since.ensures.since));
}
