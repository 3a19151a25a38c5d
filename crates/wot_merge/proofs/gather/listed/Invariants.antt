use Rattle.std.proofs.Common.{◌≡◌, ◌++◌, length}
use Rattle.std.specs.Map.{values_of}
use Rattle.wot_merge.proofs.gather.listed.Given as goal

abbrev pub invariant-certs : goal.invariant-certs
invariant-certs l = l.list.items ++ values_of l.certs.entries ≡ values_of l.initial.certs.entries

abbrev pub decreases-certs : goal.decreases-certs
decreases-certs l = length l.certs.entries
