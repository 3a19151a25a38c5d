use Rattle.wot_auth.proofs.ask.authenticate_metered.Goals as goal

pub returns-in-Ok-clause-local : goal.returns-in-Ok-clause-local
returns-in-Ok-clause-local g c other agree =
    c.in-Ok.ensures.local c.everywhere-reach.ensures.all c.take.new.notes.consulted (λ fpr h. h) other agree

pub take-requires-clause-reach : goal.take-requires-clause-reach
take-requires-clause-reach g c = c.everywhere-reach.ensures.reach (g.R.Roads.network c.args.roads.now) c.args.roots.now
