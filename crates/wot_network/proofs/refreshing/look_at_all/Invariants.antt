use Rattle.wot_index.specs.Log.{is_named_in}
use Rattle.wot_network.specs.Refreshing.{Advances, AreDoneBut, AreKept, IsProgress}
use Rattle.wot_network.proofs.refreshing.look_at_all.Given as goal

abbrev pub invariant-certs : goal.invariant-certs
invariant-certs l = record {
  kept : AreKept l.at.keyring.now l.window l.lines.entries;
  progress : IsProgress l.at.keyring.now l.at.t l.fn.lines.entries l.lines.entries l.fn.steps.made l.steps.made;
  advances : Advances l.at.keyring.now l.at.t l.fn.lines.entries l.lines.entries l.fn.steps.made l.steps.made;
  others : AreDoneBut l.at.keyring.now l.at.t l.lines.entries (is_named_in l.cert-iterator);
}
