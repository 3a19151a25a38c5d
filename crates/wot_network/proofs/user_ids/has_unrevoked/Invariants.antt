use Rattle.std.proofs.Common.{◌≡◌, ◌+◌, length}
use Rattle.wot_network.proofs.Places.{FoundSo}
use Rattle.wot_network.proofs.user_ids.has_unrevoked.Given as goal

abbrev pub invariant-rest : goal.invariant-rest
invariant-rest l = record {
  count : l.place + length l.rest ≡ length l.user_ids;
  found : FoundSo l.u l.user_ids l.revoked l.place l.left l.rest;
}

abbrev pub decreases-rest : goal.decreases-rest
decreases-rest l = length l.rest
