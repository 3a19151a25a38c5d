use Rattle.wot_component.proofs.Walk.{parts_same, parts_total}
use Rattle.wot_component.proofs.part.put_union.Goals as goal

pub put_merged-requires-clause-total : goal.put_merged-requires-clause-total
put_merged-requires-clause-total c = parts_total

pub put_merged-requires-clause-keeps : goal.put_merged-requires-clause-keeps
put_merged-requires-clause-keeps c = parts_same
