use Rattle.std.proofs.Common.{◌≡◌, ◌≤◌, ◌⊎◌, ◌+◌, length, sym, subst, List, Ordering}
use Rattle.std.specs.BTreeSet.{insert_key}
use Rattle.wot_types.specs.declared.fpr.Fpr.{Fpr}
use Rattle.wot_types.specs.FprLaws.{same_cmp}
use Rattle.wot_edge.specs.Record.{Has}
use Rattle.wot_first_path.proofs.Members.{insert_has, insert_grows, insert_one, insert_only}
use Rattle.wot_first_path.proofs.consulted.Consulted.add.Goals as goal

pub returns-clause-has : goal.returns-clause-has
returns-clause-has c =
    let P : (Fpr → Fpr → Ordering) → Type 0 =
    λ cmp. c.insert.new.self.keys ≡ insert_key cmp c.self.inside.fprs.keys c.args.fpr.now in
    subst (λ (xs : List Fpr). Has xs c.args.fpr.now) (sym (subst P same_cmp c.in_ok-insert.ensures.keys))
    (insert_has c.self.inside.fprs.keys c.args.fpr.now)

pub returns-clause-grows : goal.returns-clause-grows
returns-clause-grows c fpr h =
    let P : (Fpr → Fpr → Ordering) → Type 0 =
    λ cmp. c.insert.new.self.keys ≡ insert_key cmp c.self.inside.fprs.keys c.args.fpr.now in
    subst (λ (xs : List Fpr). Has xs fpr) (sym (subst P same_cmp c.in_ok-insert.ensures.keys))
    (insert_grows c.self.inside.fprs.keys c.args.fpr.now fpr
    (subst (λ (xs : List Fpr). Has xs fpr) (sym c.self.view_is) h))

pub returns-clause-one : goal.returns-clause-one
returns-clause-one c =
    let P : (Fpr → Fpr → Ordering) → Type 0 =
    λ cmp. c.insert.new.self.keys ≡ insert_key cmp c.self.inside.fprs.keys c.args.fpr.now in
    subst (λ (xs : List Fpr). length c.insert.new.self.keys ≤ length xs + 1) c.self.view_is
    (subst (λ (xs : List Fpr). length xs ≤ length c.self.inside.fprs.keys + 1)
    (sym (subst P same_cmp c.in_ok-insert.ensures.keys)) (insert_one c.self.inside.fprs.keys c.args.fpr.now))

pub returns-clause-only : goal.returns-clause-only
returns-clause-only c other h =
    let P : (Fpr → Fpr → Ordering) → Type 0 =
    λ cmp. c.insert.new.self.keys ≡ insert_key cmp c.self.inside.fprs.keys c.args.fpr.now in
    subst (λ (xs : List Fpr). Has xs other ⊎ (other ≡ c.args.fpr.now)) c.self.view_is
    (insert_only c.self.inside.fprs.keys c.args.fpr.now other
    (subst (λ (xs : List Fpr). Has xs other) (subst P same_cmp c.in_ok-insert.ensures.keys) h))
