use Rattle.std.proofs.Common.{[]}
use Rattle.wot_edge.proofs.PathsFit.{each_fit, roots_fit, sum_fits}
use Rattle.wot_edge.proofs.laws.paths_fit.Goals as goal

pub returns : goal.returns
returns c = record { pairs = λ q paths n. each_fit q [] paths n; roots = roots_fit; sum = sum_fits }
