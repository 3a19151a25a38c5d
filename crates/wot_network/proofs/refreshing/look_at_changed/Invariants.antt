use Rattle.std.proofs.Common.{length}
use Rattle.wot_types.specs.declared.fpr.Fpr.{Fpr}
use Rattle.wot_index.specs.Log.{is_listed}
use Rattle.wot_network.specs.Refreshing.{Advances, AreDoneBut, AreKept, IsProgress}
use Rattle.wot_network.proofs.refreshing.look_at_changed.Given as goal

abbrev pub invariant-left : goal.invariant-left
invariant-left l = record {
  kept : AreKept l.at.keyring.now l.window l.lines.entries;
  progress : IsProgress l.at.keyring.now l.at.t l.initial.lines.entries l.lines.entries l.initial.steps.made
      l.steps.made;
  advances : Advances l.at.keyring.now l.at.t l.initial.lines.entries l.lines.entries l.initial.steps.made l.steps.made;
  others : AreDoneBut l.at.keyring.now l.at.t l.lines.entries (λ (q : Fpr). is_listed q l.left);
}

abbrev pub decreases-left : goal.decreases-left
decreases-left l = length l.left
