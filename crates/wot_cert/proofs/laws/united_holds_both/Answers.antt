use Rattle.wot_cert.proofs.Unchanged.{items-both, signatures-both, size-both}
use Rattle.wot_cert.proofs.laws.united_holds_both.Goals as goal

pub returns : goal.returns
returns c = record { items = items-both; signatures = signatures-both; sizes = size-both }
