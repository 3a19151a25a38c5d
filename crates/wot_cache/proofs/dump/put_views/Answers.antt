use Rattle.std.proofs.Common.{◌≡◌, ◌∷◌, ◌+◌, List, ℕ, subst, sym}
use Rattle.wot_cache.specs.declared.view.View.{View}
use Rattle.wot_cache.specs.Views.{Views}
use Rattle.wot_cache.proofs.Lines.{ViewsPut, view_put}
use Rattle.wot_cache.proofs.dump.put_views.Goals as goal

pub views-preserved : goal.views-preserved
views-preserved c =
    let Left : Views → Type 0 = λ rest. ViewsPut c.args.out.now.items c.views.out.items c.args.views.now.entries rest
    c.views.count in
    let e : List ℕ × View = (c.in-Some.name.now, c.in-Some.view.now) in
    let next : c.views.name-iterator ≡ e ∷ c.next.new.self = c.in-Some.ensures.steps in
    let Counted : ℕ → Type 0 = λ roots. ViewsPut c.args.out.now.items c.put_view.new.out.items c.args.views.now.entries
    c.next.new.self (c.views.count + (1 + roots)) in (
      tt,
      tt,
      subst Counted (sym c.len.ensures.count)
          (view_put c.args.out.now.items c.views.out.items c.put_view.new.out.items c.args.views.now.entries e
          c.next.new.self c.views.count
          (subst Left next c.views.invariant.2) c.in_default.ensures.appended c.in_default.ensures.lines
          c.in_default.ensures.roots),
    )
