use Rattle.std.proofs.Common.{rules, of_calls, ap}
use Rattle.std.specs.Ordering.{nat_cmp}
use Rattle.std.specs.Cmp.Lexicographic.{slice_cmp}
use Rattle.std.proofs.lemmas.Fn.{always_returns_same}
use Rattle.wot_component.specs.Certificate.{Component, part_cmp, unite_part}
use Rattle.wot_component.proofs.Spots.{spot}
use Rattle.wot_component.proofs.Walk.{parts_total}
use Rattle.wot_component.proofs.growing.find_part.Goals as goal

pub returns : goal.returns
returns c = λ like e.
    spot part_cmp parts_total unite_part c.args.part.now like (λ (y : Component). ap (slice_cmp nat_cmp y.body) e)
    c.args.parts.now _ c.requires c.binary_search_by.ensures.bound
    (c.binary_search_by.ensures.position (λ (y : Component). part_cmp y c.args.part.now)
    (always_returns_same _ _ _ (λ a r f k. search (rules, of_calls))))
