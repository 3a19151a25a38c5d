use Rattle.std.proofs.Common.{◌*◌, ◌++◌, ◌∷◌, [], length, Option, subst}
use Rattle.wot_edge.specs.declared.path.Path.{Path}
use Rattle.wot_edge.specs.Path.{asks}
use Rattle.wot_edge.specs.Sums.{use_in}
use Rattle.wot_check.specs.Trace.{IsShown}
use Rattle.wot_check.proofs.ShownPaths.{shown_none, shown_more, shown_stop, shown_end}
use Rattle.wot_check.proofs.show.show_all.Goals as goal

pub rest-init : goal.rest-init
rest-init g c =
    let q = asks (g.R.Roads.network c.args.roads.now c.args.uid.now) c.args.roots.now c.args.target.now in
    record {
      paths = [];
      shown = shown_none q c.requires.lawful c.unused-used.result c.args.claims.now c.unused-used.ensures.none
          c.unused-used.ensures.below;
    }

pub rest-preserved : goal.rest-preserved
rest-preserved g c =
    let q = asks (g.R.Roads.network c.args.roads.now c.args.uid.now) c.args.roots.now c.args.target.now in
    let s = c.rest.invariant.shown in
    let paths = c.rest.invariant.paths in
    let claim = c.in-Some.claim.now in
    let shows = subst (λ (found : Option Path). IsShown q (use_in c.rest.used) claim found) c.in-Some-2.is
    c.in_ok-show.ensures.shown in
    record {
      paths = paths ++ c.in-Some-2.path ∷ [];
      shown = shown_more q c.requires.lawful c.rest.used c.add.new.used c.args.claims.now paths c.rest.rest.now
          c.in-Some.later.now claim c.in-Some-2.path c.in-Some.ensures.cases.0 s shows
          (c.in_ok-add-in-Some-2.ensures.used paths s.used)
          (c.in_ok-add-in-Some-2.ensures.below (255 * length paths) s.below);
    }

pub returns-in-None : goal.returns-in-None
returns-in-None g c =
    let q = asks (g.R.Roads.network c.args.roads.now c.args.uid.now) c.args.roots.now c.args.target.now in
    let none = subst (λ (found : Option Path). IsShown q (use_in c.rest.used) c.in-Some.claim.now found) c.in-None.is
    c.in_ok-show.ensures.shown in
    record {
      used = shown_stop q c.requires.lawful c.rest.used c.args.claims.now c.rest.invariant.paths c.rest.rest.now
          c.in-Some.later.now c.in-Some.claim.now c.in-Some.ensures.cases.0 c.rest.invariant.shown none;
    }

pub returns : goal.returns
returns g c =
    let q = asks (g.R.Roads.network c.args.roads.now c.args.uid.now) c.args.roots.now c.args.target.now in
    record {
      used = (
        c.rest.invariant.paths,
        shown_end q c.requires.lawful c.rest.used c.args.claims.now c.rest.invariant.paths c.rest.rest.now
            c.in_default.ensures.cases c.rest.invariant.shown,
        c.rest.invariant.shown.used,
      );
    }
