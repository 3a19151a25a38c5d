use Rattle.std.proofs.Common.{None, is_some, ap, subst}
use Rattle.std.specs.Option.{IfSome}
use Rattle.wot_slots.specs.Near.{DiffersAt}
use Rattle.wot_slots.proofs.Rows.{held_is, stays_without}
use Rattle.wot_slots.proofs.near.forget_near.Goals as goal

pub returns-in_default : goal.returns-in_default
returns-in_default g c = record {
  forgotten = stays_without c.args.row.now.items c.args.number.now c.in_default.ensures.none;
}

pub empty-requires : goal.empty-requires
empty-requires g c = record {
  within = c.in-Some.ensures.first.within;
  there = ap is_some (held_is c.args.number.now _ _ c.in-Some.ensures.value);
}

pub returns : goal.returns
returns g c = record {
  forgotten =
      subst (λ s. IfSome s (λ e. DiffersAt e.0 None c.args.row.now.items c.empty.new.self.items))
      (held_is c.args.number.now _ _ c.in-Some.ensures.value) c.empty.ensures.emptied;
}
