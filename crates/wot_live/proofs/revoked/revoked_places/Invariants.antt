use Rattle.std.proofs.Common.{◌≡◌, ◌+◌, ◌++◌, length}
use Rattle.wot_standing.specs.Own.{is_own_revoked}
use Rattle.wot_standing.specs.Standing.{own}
use Rattle.wot_live.specs.Rows.{places_where, revoked_of}
use Rattle.wot_live.proofs.revoked.revoked_places.Given as goal

abbrev pub invariant-rest : goal.invariant-rest
invariant-rest l = record {
  places : l.places.items ++ places_where (is_own_revoked l.verdicts.entries (own l.cert) l.t) l.place l.rest
      ≡ revoked_of l.verdicts.entries l.cert l.t;
  place : l.place + length l.rest ≡ length l.cert.user_ids;
}

abbrev pub decreases-rest : goal.decreases-rest
decreases-rest l = length l.rest
