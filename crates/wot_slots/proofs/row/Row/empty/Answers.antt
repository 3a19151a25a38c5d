use Rattle.std.proofs.Common.{◌≡◌, ◌<◌, true, None, is_some, length, slice_index_or, slice_set, subst, sym}
use Rattle.std.specs.Option.{IfSome}
use Rattle.wot_slots.specs.Found.{DiffersAt}
use Rattle.wot_slots.specs.Row.{nowhere, slots_by}
use Rattle.wot_slots.proofs.Live.{emptied, kept_emptied}
use Rattle.wot_slots.proofs.row.Row.empty.Goals as goal

pub invariant_of-self : goal.invariant_of-self
invariant_of-self g c =
    kept_emptied c.self.inside.places.items c.self.inside.entries.items c.args.at c.index.result.now c.self.invariant
    (subst (λ r. c.args.at < length r.items) (sym c.self.view_is) c.requires.within) c.index.ensures
    (subst (λ r. is_some (slice_index_or r.items c.args.at None) ≡ true) (sym c.self.view_is) c.requires.there)

pub returns : goal.returns
returns g c =
    let places = c.self.inside.places.items in
    let entries = c.self.inside.entries.items in
    let place = c.index.result.now in
    record {
      emptied =
          subst (λ r. IfSome (slice_index_or r.items c.args.at None) (λ e. DiffersAt e.0 None r.items
          (slots_by (slice_set places c.args.at nowhere) (slice_set entries place None)))) c.self.view_is
          (emptied places entries c.args.at place c.self.invariant
          (subst (λ r. c.args.at < length r.items) (sym c.self.view_is) c.requires.within) c.index.ensures);
    }
