use Rattle.std.proofs.Common.{◌≡◌, ◌+◌, length, ℕ}
use Rattle.std.specs.Option.{option_map}
use Rattle.wot_network.specs.Records.{user_id_place}
use Rattle.wot_network.proofs.user_ids.place_of.Given as goal

-- What is found among the rest is that much further on.
abbrev pub invariant-rest : goal.invariant-rest
invariant-rest l = record {
  count : l.place + length l.rest ≡ length l.user_ids;
  found : user_id_place l.u l.user_ids ≡ option_map (λ (k : ℕ). l.place + k) (user_id_place l.u l.rest);
}

abbrev pub decreases-rest : goal.decreases-rest
decreases-rest l = length l.rest
