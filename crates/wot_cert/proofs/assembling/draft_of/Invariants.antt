use Rattle.std.proofs.Common.{◌≡◌, ◌≤◌, drop, length}
use Rattle.wot_packet.specs.Spelling.{spelled_all}
use Rattle.wot_cert.specs.Drafting.{seen, sketched}
use Rattle.wot_cert.proofs.assembling.draft_of.Given as goal

abbrev pub invariant-back : goal.invariant-back
invariant-back l = record {
  within : l.left ≤ length l.packets;
  drafted : seen l.draft ≡ sketched (spelled_all (drop l.left l.packets));
}

abbrev pub decreases-back : goal.decreases-back
decreases-back l = l.left
