use Rattle.std.proofs.Common.{◌≡◌, ◌<◌, true, Some, None, is_some, length, slice_index_or, slice_set, subst, sym}
use Rattle.wot_slots.specs.Found.{DiffersAt, held_for}
use Rattle.wot_slots.specs.Row.{slots_by}
use Rattle.wot_slots.proofs.Live.{kept_replaced, replaced}
use Rattle.wot_slots.proofs.row.Row.replace.Goals as goal

pub invariant_of-self : goal.invariant_of-self
invariant_of-self g c =
    kept_replaced c.self.inside.places.items c.self.inside.entries.items c.args.at c.index.result.now c.self.invariant
    (subst (λ r. c.args.at < length r.items) (sym c.self.view_is) c.requires.within) c.index.ensures
    c.args.number c.args.value
    (subst (λ r. is_some (held_for c.args.number (slice_index_or r.items c.args.at None)) ≡ true)
    (sym c.self.view_is) c.requires.held)

pub returns : goal.returns
returns g c =
    let places = c.self.inside.places.items in
    let entries = c.self.inside.entries.items in
    let place = c.index.result.now in
    record {
      replaced =
          subst (λ r. DiffersAt c.args.number (Some c.args.value) r.items
          (slots_by places (slice_set entries place (Some (c.args.number, c.args.value))))) c.self.view_is
          (replaced places entries c.args.at place c.self.invariant
          (subst (λ r. c.args.at < length r.items) (sym c.self.view_is) c.requires.within) c.index.ensures
          c.args.number c.args.value
          (subst (λ r. is_some (held_for c.args.number (slice_index_or r.items c.args.at None)) ≡ true)
          (sym c.self.view_is) c.requires.held));
    }
