use Rattle.std.proofs.Common.{rules, sym, subst}
use Rattle.std.proofs.lemmas.Map.Made.{filter_same_pairs}
use Rattle.wot_types.specs.declared.fpr.Fpr.{Fpr}
use Rattle.wot_keyring_spec.specs.Keyring.{cert_at}
use Rattle.wot_network.specs.Net.{Line, Lines}
use Rattle.wot_network.specs.Refreshing.{KeepsPresent}
use Rattle.std.specs.Prelude.{is_some}
use Rattle.wot_network.proofs.Settled.{kept_alone, is_kept_some}
use Rattle.wot_network.proofs.table.forget_absent.Goals as goal

pub returns : goal.returns
returns c = record {
  present =
      subst (λ (ls : Lines). KeepsPresent c.args.keyring.now c.args.lines.now.entries ls)
      (sym (filter_same_pairs _ (λ (e : Fpr × Line). is_some (cert_at c.args.keyring.now e.0)) _
      (λ k v b w f' t. search rules) _ _ c.retain.ensures.filtered))
      (kept_alone c.args.keyring.now c.args.lines.now.entries (λ q. is_some (cert_at c.args.keyring.now q))
      (λ q. is_kept_some _));
}
