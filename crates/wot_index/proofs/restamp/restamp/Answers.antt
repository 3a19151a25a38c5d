use Rattle.std.proofs.Common.{rules}
use Rattle.std.proofs.lemmas.Map.Made.{map_same_pairs}
use Rattle.wot_keyring_spec.specs.Verdict.{restamped}
use Rattle.wot_index.proofs.restamp.restamp.Goals as goal

pub returns : goal.returns
returns c = record {
  restamped = map_same_pairs _ (restamped c.args.number.now c.args.stamp) _
      (λ k v b w f' t. search rules) _ _ c.retain.ensures.filtered;
}
