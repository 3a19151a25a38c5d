use Rattle.std.proofs.Common.{◌≡◌, ◌≤◌, ◌+◌, ◌++◌, length}
use Rattle.wot_packet.specs.Spelling.{AreShort, spelled_all}
use Rattle.wot_cert.specs.Assembly.{certificates_of, skipped_in}
use Rattle.wot_cert.specs.Drafting.{BeginsWithKey}
use Rattle.wot_cert.proofs.assembling.certificates.Given as goal

abbrev pub invariant-keys : goal.invariant-keys
invariant-keys l = record {
  certs : l.certs.items ++ certificates_of (spelled_all l.rest) ≡ certificates_of (spelled_all l.packets);
  skipped : l.skipped + skipped_in (spelled_all l.rest) ≡ skipped_in (spelled_all l.packets);
  few : l.skipped + length l.rest ≤ length l.packets;
  short : AreShort (spelled_all l.rest);
  begins : BeginsWithKey (spelled_all l.rest);
}

abbrev pub decreases-keys : goal.decreases-keys
decreases-keys l = length l.rest
