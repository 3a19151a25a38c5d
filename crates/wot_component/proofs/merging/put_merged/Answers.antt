use Rattle.std.proofs.Common.{sym}
use Rattle.wot_component.proofs.Walk.{begun, step_less, step_equal, step_greater, end_left, end_right, rises}
use Rattle.wot_component.proofs.merging.put_merged.Goals as goal

pub walk-init : goal.walk-init
walk-init g c =
    begun g.T.Ranked.rank g.T.Ranked.join c.requires.total c.requires.keeps _ _ _ c.requires.a c.requires.b
    c.requires.empty

pub walk-preserved-in-Less : goal.walk-preserved-in-Less
walk-preserved-in-Less g c =
    step_less g.T.Ranked.rank g.T.Ranked.join c.requires.total c.requires.keeps _ _ _ _ _ _ _ _ _ _ c.walk.invariant
    c.in-Some.ensures.cases.0 c.in-Some-split_first.ensures.cases.0 (sym c.in-Less.ensures)
    c.in_ok-push_again-in-Less.ensures

pub walk-preserved-in-Equal : goal.walk-preserved-in-Equal
walk-preserved-in-Equal g c =
    step_equal g.T.Ranked.rank g.T.Ranked.join c.requires.total c.requires.keeps _ _ _ _ _ _ _ _ _ _ c.walk.invariant
    c.in-Some.ensures.cases.0 c.in-Some-split_first.ensures.cases.0 (sym c.in-Equal.ensures)
    c.in_ok-push_joined-in-Equal.ensures

pub walk-preserved : goal.walk-preserved
walk-preserved g c =
    step_greater g.T.Ranked.rank g.T.Ranked.join c.requires.total c.requires.keeps _ _ _ _ _ _ _ _ _ _
    c.walk.invariant c.in-Some.ensures.cases.0 c.in-Some-split_first.ensures.cases.0 (sym c.in-Greater.ensures)
    c.in_ok-push_again-in-Greater.ensures

pub returns-clause-union : goal.returns-clause-union
returns-clause-union g c =
    end_right g.T.Ranked.rank g.T.Ranked.join c.requires.total c.requires.keeps _ _ _ _ _ _ c.walk.invariant
    c.in_default.ensures.cases c.in_ok-push_all-2.ensures

pub returns-clause-rises : goal.returns-clause-rises
returns-clause-rises g c =
    rises g.T.Ranked.rank g.T.Ranked.join c.requires.total c.requires.keeps c.args.a.now c.args.b.now _
    (end_right g.T.Ranked.rank g.T.Ranked.join c.requires.total c.requires.keeps _ _ _ _ _ _ c.walk.invariant
    c.in_default.ensures.cases c.in_ok-push_all-2.ensures) c.requires.a

pub returns-in_default-split_first-clause-union : goal.returns-in_default-split_first-clause-union
returns-in_default-split_first-clause-union g c =
    end_left g.T.Ranked.rank g.T.Ranked.join c.requires.total c.requires.keeps _ _ _ _ _ _ c.walk.invariant
    c.in_default-split_first.ensures.cases c.in_ok-push_all.ensures

pub returns-in_default-split_first-clause-rises : goal.returns-in_default-split_first-clause-rises
returns-in_default-split_first-clause-rises g c =
    rises g.T.Ranked.rank g.T.Ranked.join c.requires.total c.requires.keeps c.args.a.now c.args.b.now _
    (end_left g.T.Ranked.rank g.T.Ranked.join c.requires.total c.requires.keeps _ _ _ _ _ _ c.walk.invariant
    c.in_default-split_first.ensures.cases c.in_ok-push_all.ensures) c.requires.a
