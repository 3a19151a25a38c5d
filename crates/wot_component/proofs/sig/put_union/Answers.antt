use Rattle.wot_component.proofs.Walk.{kept_same, sigs_total}
use Rattle.wot_component.proofs.sig.put_union.Goals as goal

pub put_merged-requires-clause-total : goal.put_merged-requires-clause-total
put_merged-requires-clause-total c = sigs_total

pub put_merged-requires-clause-keeps : goal.put_merged-requires-clause-keeps
put_merged-requires-clause-keeps c = kept_same
