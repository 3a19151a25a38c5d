use Rattle.std.proofs.Common.{rules, of_calls, ap, ◌∙◌}
use Rattle.std.proofs.lemmas.Fn.{always_returns_same}
use Rattle.wot_index.specs.Log.{is_listed}
use Rattle.wot_index.proofs.Since.{is_up_to, partitioned, since}
use Rattle.wot_index.proofs.log.since.Goals as goal

pub returns : goal.returns
returns c = record {
  since = λ s fpr above logged.
      let point = c.partition_point-start.ensures.partitioned (is_up_to c.args.count)
      (always_returns_same _ _ _ (λ a r f k. search (rules, of_calls)))
      (partitioned c.args.count c.args.entries.now c.requires.rising) in
      ap (is_listed fpr) c.split_at.ensures.back ∙ since s c.args.count fpr c.args.entries.now
      c.partition_point-start.result (λ k d a b. point.0 k d a b) above logged;
}
