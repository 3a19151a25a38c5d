use Rattle.wot_cache.specs.Basis.{Basis}
use Rattle.wot_watch_commands.specs.Settled.{AllSettled}
use Rattle.wot_watch_commands.proofs.WatchesSettled.{all_carried, nothing_told}
use Rattle.wot_watch_commands.proofs.watching.are_settled.Goals as goal

pub returns-then-still_current-clause-quiet : goal.returns-then-still_current-clause-quiet
returns-then-still_current-clause-quiet c = λ seen.
    let engine = c.args.engine.now in
    let basis : Basis = c.in-Some.basis in
    let all : AllSettled engine basis c.args.watches.now = rw c.in-Some.is at c.requires.settled in
    nothing_told engine basis c.args.watches.now (c.kept_on_is_order.ensures.itself engine)
    (c.still_current.ensures.current c.if-still_current.true) all (c.all_open.ensures.open seen)

pub returns-then-still_current-clause-settled : goal.returns-then-still_current-clause-settled
returns-then-still_current-clause-settled c =
    let engine = c.args.engine.now in
    let basis : Basis = c.in-Some.basis in
    let all : AllSettled engine basis c.args.watches.now = rw c.in-Some.is at c.requires.settled in
    all_carried engine basis c.still_current.new.basis c.args.watches.now c.still_current.ensures.carries_on all
