use Rattle.wot_search.proofs.next.next_path.Goals as goal

pub returns-clause-local : goal.returns-clause-local
returns-clause-local g c other a =
    c.in_ok-found.ensures.local c.everywhere-reach.ensures.all c.next_path_within.new.notes (λ fpr h. h) other a

pub next_path_within-requires : goal.next_path_within-requires
next_path_within-requires g c =
    record { reach = c.everywhere-reach.ensures.reach (g.R.Roads.network c.args.roads.now) c.args.roots.now }
