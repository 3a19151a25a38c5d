use Rattle.std.proofs.Common.{sym, ◌∙◌, ◌+◌, drop}
use Rattle.std.proofs.lemmas.Result.{err_from_is_err_and}
use Rattle.wot_pattern.specs.Nodes.{atom_of}
use Rattle.wot_pattern.proofs.Lists.{rest_at, range_negated, range_positive, no_caret_end, no_caret_here, NoCaret}
use Rattle.wot_pattern.proofs.Lists.{no_positive, no_negated}
use Rattle.wot_pattern.proofs.range.read_range.Goals as goal

pub returns-in_err-leaf-clause-unreadable : goal.returns-in_err-leaf-clause-unreadable
returns-in_err-leaf-clause-unreadable c =
    let p = err_from_is_err_and c.from_residual.result c.from_residual.ensures.1 in
    rw p.1 (λ e a r h. no_negated h c.index-text-start.result (drop (c.args.start + 1) c.args.text.now)
    (rest_at c.args.text.now c.args.start c.index-text-start.result c.if-start-text.true c.index-text-start.is)
    c.if-text-start-eq94.true (c.in_err-leaf.ensures.unreadable (sym p.2 ∙ e)))

pub returns-then-text-start-eq94-clause-read : goal.returns-then-text-start-eq94-clause-read
returns-then-text-start-eq94-clause-read c =
    let (x, u, xs, f, i, e) = c.in_ok-leaf.ensures.read in
    range_negated c.args.text.now c.args.start c.index-text-start.result (atom_of c.in_ok-leaf.leaf) x u
    (drop c.in_ok-leaf.end c.args.text.now) xs
    c.if-start-text.true c.index-text-start.is c.if-text-start-eq94.true f i e

pub returns-in_err-leaf-2-clause-unreadable : goal.returns-in_err-leaf-2-clause-unreadable
returns-in_err-leaf-2-clause-unreadable c =
    let p = err_from_is_err_and c.from_residual-in_err-leaf-2.result c.from_residual-in_err-leaf-2.ensures.1 in
    let none : NoCaret (drop c.args.start c.args.text.now) = elim c.else-start-text.branch [
      | goal.else-start-text-via-then-start-text+else-text-start-eq94 w ↦
          no_caret_here c.args.text.now c.args.start w.index-text-start.result w.if-start-text.true
          w.index-text-start.is w.if-text-start-eq94.false
      | goal.else-start-text-via-else-start-text w ↦ no_caret_end c.args.text.now c.args.start w.if-start-text.false
    ] in
    rw p.1 (λ e a r h. no_positive h none (c.in_err-leaf-2.ensures.unreadable (sym p.2 ∙ e)))

pub returns-clause-read : goal.returns-clause-read
returns-clause-read c =
    let (x, u, xs, f, i, e) = c.in_ok-leaf-2.ensures.read in
    let none : NoCaret (drop c.args.start c.args.text.now) = elim c.else-start-text.branch [
      | goal.else-start-text-via-then-start-text+else-text-start-eq94 w ↦
          no_caret_here c.args.text.now c.args.start w.index-text-start.result w.if-start-text.true
          w.index-text-start.is w.if-text-start-eq94.false
      | goal.else-start-text-via-else-start-text w ↦ no_caret_end c.args.text.now c.args.start w.if-start-text.false
    ] in
    range_positive (drop c.args.start c.args.text.now) (atom_of c.in_ok-leaf-2.leaf) x u
    (drop c.in_ok-leaf-2.end c.args.text.now) xs none f i e
