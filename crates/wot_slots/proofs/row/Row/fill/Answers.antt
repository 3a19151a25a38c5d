use Rattle.std.proofs.Common.{◌≡◌, Some, None, slice_index_or, slice_set, subst, sym, arith}
use Rattle.std.proofs.lemmas.Bool.Decides.{nat_tests}
use Rattle.wot_slots.specs.Found.{DiffersAt, IsSlotOf, near_in}
use Rattle.wot_slots.specs.Row.{slots_by}
use Rattle.wot_slots.proofs.Live.{kept_put, put}
use Rattle.wot_slots.proofs.row.Row.fill.Goals as goal

pub invariant_of-self : goal.invariant_of-self
invariant_of-self g c =
    kept_put c.self.inside.places.items c.self.inside.entries.items c.push.new.self.items c.args.number c.args.value
    c.args.at c.len-count.result c.self.invariant
    (grind (arith, nat_tests, c.len-count.ensures, c.if-count.false)) c.in-Ok.ensures.items
    (omega (arith, c.len-count.ensures))
    (subst (λ r. IsSlotOf c.args.number c.args.at r.items) (sym c.self.view_is) c.requires.here)
    (subst (λ r. slice_index_or r.items c.args.at None ≡ None) (sym c.self.view_is) c.requires.vacant)
    (subst (λ r. near_in r.items c.args.number ≡ None) (sym c.self.view_is) c.requires.absent)

pub returns-in-Ok : goal.returns-in-Ok
returns-in-Ok g c =
    let places = c.self.inside.places.items in
    record {
      filled =
          subst (λ r. DiffersAt c.args.number (Some c.args.value) r.items
          (slots_by (slice_set places c.args.at c.len-count.result) c.push.new.self.items)) c.self.view_is
          (put places c.self.inside.entries.items c.push.new.self.items c.args.number c.args.value
          c.args.at c.len-count.result c.self.invariant
          (grind (arith, nat_tests, c.len-count.ensures, c.if-count.false)) c.in-Ok.ensures.items
          (omega (arith, c.len-count.ensures))
          (subst (λ r. IsSlotOf c.args.number c.args.at r.items) (sym c.self.view_is) c.requires.here)
          (subst (λ r. slice_index_or r.items c.args.at None ≡ None) (sym c.self.view_is) c.requires.vacant)
          (subst (λ r. near_in r.items c.args.number ≡ None) (sym c.self.view_is) c.requires.absent));
    }
