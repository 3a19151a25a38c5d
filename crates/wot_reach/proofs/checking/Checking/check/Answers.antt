use Rattle.std.proofs.Common.{◌<◌, ℕ, List, length, drop, sym, subst, arith}
use Rattle.wot_types.specs.declared.fpr.Fpr.{Fpr}
use Rattle.wot_reach.specs.Making.{HaveEnoughBut}
use Rattle.wot_reach.specs.Reach.{number_at, number_of}
use Rattle.wot_reach.proofs.Checked.{all_checked, one_checked}
use Rattle.wot_reach.proofs.checking.Checking.check.Goals as goal

pub returns-then-self-len : goal.returns-then-self-len
returns-then-self-len g c =
    let checking = c.requires.checking in
    record {
      making = record {
        enough = all_checked (g.R.Roads.network c.args.roads.now) c.args.roots.now (number_at c.args.self.reach)
            c.args.self.fprs.items c.args.self.next (omega (arith, c.if-self-len.true)) checking.enough;
        onward = checking.onward;
      };
    }

pub returns-then-not-branch : goal.returns-then-not-branch
returns-then-not-branch g c =
    record { making = c.everywhere.ensures.reach (g.R.Roads.network c.args.roads.now) c.args.roots.now }

pub returns : goal.returns
returns g c =
    let network = g.R.Roads.network c.args.roads.now in
    let roots = c.args.roots.now in
    let fprs = c.args.self.fprs.items in
    let next = c.args.self.next in
    let lt : next < length fprs = omega (arith, c.if-self-len.false) in
    let before = subst (λ (numbers : List (Fpr × ℕ)). HaveEnoughBut network roots (number_of numbers) (drop next fprs))
    (sym c.add.ensures.numbers) c.requires.checking.enough in
    record {
      making = record {
        onward = c.in_ok-add.ensures.onward;
        enough = one_checked network roots (number_at c.add.new.self) fprs next c.index.result.now lt c.index.ensures
            before (c.in_ok-add.ensures.enough c.if-not-branch.false);
      };
    }
