use Rattle.std.proofs.Common.{rules}
use Rattle.std.proofs.lemmas.Map.Steps.{set_value_same}
use Rattle.wot_cache.proofs.views.set_amount.Goals as goal

pub returns-clause-kept : goal.returns-clause-kept
returns-clause-kept c = search (rules, set_value_same)
