use Rattle.std.proofs.Common.{◌≡◌, take}
use Rattle.wot_edge.proofs.lists.copy_paths.Given as goal

abbrev pub invariant-paths : goal.invariant-paths
invariant-paths l = l.made.items ≡ take l.path-index l.paths
