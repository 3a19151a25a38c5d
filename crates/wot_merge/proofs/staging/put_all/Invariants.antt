use Rattle.std.proofs.Common.{◌≡◌, ◌+◌, ℕ, length}
use Rattle.wot_policy.specs.Kept.{IsFaithful, rows_of, asked_more}
use Rattle.wot_component.specs.Judged.{sound_of}
use Rattle.wot_merge.specs.Staging.{weigh_kept}
use Rattle.wot_merge.proofs.ImportSteps.{Run}
use Rattle.wot_merge.proofs.staging.put_all.Given as goal

abbrev pub invariant-left : goal.invariant-left
invariant-left g l = record {
  run : Run (rows_of l.initial.policy) l.terms.stamp l.terms.limit l.list l.initial.certs.entries
      l.initial.progress.log.items l.initial.progress.tally l.left l.certs.entries l.progress.log.items
      l.progress.tally;
  asked : (k : ℕ) × (l.policy ≡ asked_more k l.initial.policy) × (k + weigh_kept sound_of
      l.initial.certs.entries ≡ weigh_kept sound_of l.certs.entries);
  faithful : IsFaithful g.F.Fn l.policy;
}

abbrev pub decreases-left : goal.decreases-left
decreases-left g l = length l.left
