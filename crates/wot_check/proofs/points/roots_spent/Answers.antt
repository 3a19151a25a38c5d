use Rattle.std.proofs.Common.{◌≡◌, inl, inr, ap, subst, arith, ℕ}
use Rattle.wot_types.specs.declared.fpr.Fpr.{Fpr}
use Rattle.wot_edge.specs.Path.{root_left}
use Rattle.wot_edge.specs.Record.{Has}
use Rattle.wot_check.specs.Asked.{question_of, used_in}
use Rattle.wot_check.specs.Table.{Labels}
use Rattle.wot_check.proofs.Entries.{has_lookup, lookup_has}
use Rattle.wot_check.proofs.Rows.{within_first, within_later, first_or_later}
use Rattle.wot_check.proofs.points.roots_spent.Goals as goal

pub returns-then-left_of_root-gt0 : goal.returns-then-left_of_root-gt0
returns-then-left_of_root-gt0 c network =
    let t = c.if-left_of_root-gt0.true in
    let e = c.left_of_root.ensures network in
    let h = within_first c.rest.rest c.args.table.now c.next.new.self (c.in-Some.fpr, c.in-Some.field-0-1)
    c.in-Some.ensures.steps c.rest.invariant.2.within in
    record {
      fpr = c.in-Some.fpr;
      label = c.in-Some.field-0-1;
      labelled = has_lookup c.args.table.now c.iter-rest.ensures.table.order c.in-Some.fpr c.in-Some.field-0-1 h;
      left = omega (arith, t, e);
    }

pub rest-preserved : goal.rest-preserved
rest-preserved c = (
  tt,
  tt,
  record {
    within = within_later c.rest.rest c.args.table.now c.next.new.self (c.in-Some.fpr, c.in-Some.field-0-1)
        c.in-Some.ensures.steps c.rest.invariant.2.within;
    spent = λ network fpr label h. elim (c.rest.invariant.2.spent network fpr label h) [
      | inl e ↦ inl e
      | inr k ↦ elim (first_or_later c.rest.rest c.next.new.self (c.in-Some.fpr, c.in-Some.field-0-1) (fpr, label)
          c.in-Some.ensures.steps k) [
            | inl same ↦
                let left : root_left (question_of network c.args.asked.now) (used_in c.args.asked.now) fpr ≡ root_left
                (question_of network c.args.asked.now) (used_in c.args.asked.now) c.in-Some.fpr
                = ap (λ (entry : Fpr × ℕ). root_left (question_of network c.args.asked.now) (used_in c.args.asked.now)
                entry.0)
                same in
                let f = c.if-left_of_root-gt0.false in
                let e = c.left_of_root.ensures network in
                inl (omega (arith, left, f, e))
            | inr k' ↦ inr k'
          ]
    ];
  },
)

pub returns : goal.returns
returns c network fpr label e = elim (c.rest.invariant.2.spent network fpr label (lookup_has c.args.table.now fpr label e)) [
  | inl z ↦ z
  | inr k ↦ absurd (subst (λ (xs : Labels). Has xs (fpr, label)) c.in_default.ensures.steps.0 k)
]
