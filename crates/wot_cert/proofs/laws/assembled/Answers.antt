use Rattle.wot_cert.proofs.Assemblies.{all-whole, all-plain}
use Rattle.wot_cert.proofs.laws.assembled.Goals as goal

pub returns : goal.returns
returns c = record { whole = all-whole; unmarked = all-plain }
