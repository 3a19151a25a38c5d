use Rattle.std.proofs.Common.{rules, arith, sym, ◌∙◌, ap, [], ◌∷◌, ◌++◌, ◌+◌, drop, append_assoc}
use Rattle.std.proofs.lemmas.List.{drop_all}
use Rattle.wot_pattern.specs.Grammar.{item}
use Rattle.wot_pattern.proofs.Lists.{rest_at, rest_slice, item_here, length_slice, items_more, items_closed, items_end}
use Rattle.wot_pattern.proofs.Lists.{items_stuck}
use Rattle.wot_pattern.proofs.range.read_items.Goals as goal

pub returns-then-text-at-eq93-clause-read : goal.returns-then-text-at-eq93-clause-read
returns-then-text-at-eq93-clause-read c =
    let (xs, is, so_far) = c.items.invariant.2 in (
      xs,
      is,
      items_closed (drop c.args.start c.args.text.now) (drop c.items.at c.args.text.now) xs c.index-text-at.result
          (drop (c.items.at + 1) c.args.text.now) so_far
          (rest_at c.args.text.now c.items.at c.index-text-at.result c.items-test.true c.index-text-at.is)
          c.if-text-at-eq93.true,
    )

pub returns-in_default-clause-unreadable : goal.returns-in_default-clause-unreadable
returns-in_default-clause-unreadable c = λ e ys r.
    let (xs, is, so_far) = c.items.invariant.2 in
    items_stuck (drop c.args.start c.args.text.now) (drop c.items.at c.args.text.now) xs c.index-text-at.result
    (drop (c.items.at + 1) c.args.text.now) so_far
    (rest_at c.args.text.now c.items.at c.index-text-at.result c.items-test.true c.index-text-at.is)
    c.if-text-at-eq93.false
    (ap item (sym (rest_slice c.args.text.now c.items.at)) ∙ c.in_default.ensures.none (search rules)) ys r

pub items-preserved : goal.items-preserved
items-preserved c =
    let (xs, is, so_far) = c.items.invariant.2 in (
      length_slice c.args.text.now c.items.at c.in-Some.taken c.items.invariant.0 c.in-Some.ensures.within.1,
      omega arith,
      (
        xs ++ c.in-Some.item ∷ [],
        c.in_ok-push.ensures.items ∙ ap (λ x. x ++ c.in-Some.item ∷ []) is
            ∙ append_assoc c.args.items.now.items xs (c.in-Some.item ∷ []),
        items_more (drop c.args.start c.args.text.now) (drop c.items.at c.args.text.now)
            (drop (c.items.at + c.in-Some.taken) c.args.text.now) xs c.index-text-at.result
            (drop (c.items.at + 1) c.args.text.now) c.in-Some.item
            so_far (rest_at c.args.text.now c.items.at c.index-text-at.result c.items-test.true c.index-text-at.is)
            c.if-text-at-eq93.false
            (item_here c.args.text.now c.items.at item c.in-Some.item c.in-Some.taken c.in-Some.ensures.some),
      ),
    )

pub returns-clause-unreadable : goal.returns-clause-unreadable
returns-clause-unreadable c = λ e ys r.
    let (xs, is, so_far) = c.items.invariant.2 in
    items_end (drop c.args.start c.args.text.now) (drop c.items.at c.args.text.now) xs so_far
    (drop_all c.items.at c.args.text.now c.items-test.false) ys r
