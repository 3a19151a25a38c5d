use Rattle.wot_cache.proofs.Lines.{ViewsPut}
use Rattle.wot_cache.proofs.dump.put_views.Given as goal

abbrev pub invariant-views : goal.invariant-views
invariant-views l =
    (goal.iterator-views).can_next l.name-iterator
    × (goal.iterator-views).is_finite l.name-iterator
    × ViewsPut l.fn.out.items l.out.items l.fn.views.entries l.name-iterator l.count
