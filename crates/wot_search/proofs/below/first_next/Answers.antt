use Rattle.std.proofs.Common.{sym, ap, ◌∙◌}
use Rattle.wot_search.specs.Below.{next_of}
use Rattle.wot_search.proofs.below.first_next.Goals as goal

pub returns-in-None : goal.returns-in-None
returns-in-None c = ap next_of (sym c.in-None.is ∙ c.in_ok-first_of.ensures)

pub returns-in-Some : goal.returns-in-Some
returns-in-Some c = ap next_of (sym c.in-Some.is ∙ c.in_ok-first_of.ensures)
