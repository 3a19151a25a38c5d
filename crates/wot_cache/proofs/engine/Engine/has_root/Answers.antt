use Rattle.std.proofs.Common.{◌≡◌, None, sym, ap, subst, ◌∙◌}
use Rattle.std.specs.Option.{option_copied}
use Rattle.std.proofs.lemmas.Bool.{eqb-true}
use Rattle.wot_cache.specs.State.{Engine}
use Rattle.wot_cache.specs.Views.{root_fault, view_at, with_root}
use Rattle.wot_cache.proofs.RevisionsOfViews.{roots_kept}
use Rattle.wot_cache.proofs.engine.Engine.has_root.Goals as goal

pub returns-in-Some-clause-same : goal.returns-in-Some-clause-same
returns-in-Some-clause-same c equal =
    let name = c.args.view.now in
    subst (λ (e : Engine). with_root e.views name c.args.fpr.now c.args.amount ≡ e.views) c.self.view_is
    (roots_kept c.self.inside.networked.keyring.limits c.self.inside.networked.views.entries name c.args.fpr.now
    c.args.amount c.in-Some.open.now
    (sym c.find.ensures.found ∙ ap option_copied c.in-Some.is) c.len-count.ensures.roots
    (subst (λ (e : Engine). root_fault e.keyring.limits (view_at e.views name) c.args.fpr.now c.args.amount ≡ None)
    (sym c.self.view_is) c.requires.allowed)
    (sym c.get.ensures.amount ∙ eqb-true c.get.result c.args.amount equal))
