use Rattle.std.proofs.Common.{refl}
use Rattle.wot_slots.proofs.Moved.{says_on}
use Rattle.wot_slots.proofs.moving.bring_all.Goals as goal

pub numbers-init : goal.numbers-init
numbers-init g c = λ n. refl

pub numbers-preserved : goal.numbers-preserved
numbers-preserved g c = says_on c.args.longer.now.items c.numbers.longer.items c.bring.new.longer.items
    c.args.rest.now.entries c.numbers.rest.entries c.bring.new.rest.entries c.numbers.invariant c.bring.ensures.same
