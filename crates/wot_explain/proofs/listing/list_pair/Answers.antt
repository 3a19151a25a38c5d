use Rattle.std.proofs.Common.{◌≡◌, ◌∷◌, ◌++◌, ◌∙◌, ◌<◌, ◌≤◌, ℕ, Bool, true, false, cond, List, [], sym, ap, arith}
use Rattle.std.proofs.Common.{append-nil}
use Rattle.std.specs.Prelude.{nat_le}
use Rattle.std.proofs.lemmas.Bool.Decides.{nat_tests}
use Rattle.wot_edge.specs.Answer.{amount_of}
use Rattle.wot_explain.specs.declared.bind.Bind.{Bind}
use Rattle.wot_explain.specs.Listing.{Pair}
use Rattle.wot_explain.proofs.Listed.{one_added, with_bind}
use Rattle.wot_explain.proofs.listing.list_pair.Goals as goal

reached : (wanted sum : ℕ) → wanted ≤ sum → nat_le wanted sum ≡ true
reached wanted sum h = grind (arith, nat_tests)

missed : (wanted sum : ℕ) → sum < wanted → nat_le wanted sum ≡ false
missed wanted sum h = grind (arith, nat_tests)

with_it : (wanted : ℕ) (pair : Pair) (sum other : ℕ) (old new : List Bind) (bind : Bind) → sum ≡ other → wanted ≤ sum →
    bind ≡ record { sum = sum; fpr = pair.0; uid = pair.1 } → new ≡ old ++ bind ∷ []
    → new ≡ old ++ with_bind wanted pair other []
with_it wanted pair sum other old new bind e h b n =
    n ∙ ap (λ (x : Bind). old ++ x ∷ []) b
    ∙ ap (λ (t : Bool). old ++ cond t (record { sum = sum; fpr = pair.0; uid = pair.1 } ∷ []) [])
    (sym (reached wanted sum h))
    ∙ ap (λ (s : ℕ). old ++ with_bind wanted pair s []) e

without : (wanted : ℕ) (pair : Pair) (sum other : ℕ) (old : List Bind) → sum ≡ other → sum < wanted →
    old ≡ old ++ with_bind wanted pair other []
without wanted pair sum other old e h =
    sym (append-nil old)
    ∙ ap (λ (t : Bool). old ++ cond t (record { sum = sum; fpr = pair.0; uid = pair.1 } ∷ []) [])
    (sym (missed wanted sum h))
    ∙ ap (λ (s : ℕ). old ++ with_bind wanted pair s []) e

pub returns-then-sum-sought : goal.returns-then-sum-sought
returns-then-sum-sought g c =
    let pair : Pair = (c.args.fpr.now, c.args.uid.now) in
    let a = c.in_ok-sum.ensures.sum in
    one_added (g.R.Roads.network c.args.roads.now) c.args.sought.now.roots.now c.args.sought.now.wanted pair a.paths
    c.args.out.now.items c.args.out.now.items a.answer a.one
    (without c.args.sought.now.wanted pair c.in_ok-sum.sum (amount_of a.paths) c.args.out.now.items a.sum
    c.if-sum-sought.true)

pub returns : goal.returns
returns g c =
    let pair : Pair = (c.args.fpr.now, c.args.uid.now) in
    let a = c.in_ok-sum.ensures.sum in
    let sum = c.in_ok-sum.sum in
    let old = c.args.out.now.items in
    let new = c.push.new.self.items in
    let bind : Bind = record { sum = sum; fpr = c.args.fpr.now; uid = c.in_ok-uid.uid } in
    let same : bind ≡ record { sum = sum; fpr = pair.0; uid = pair.1 } =
    ap (λ (u : List ℕ). (let b : Bind = record { sum = sum; fpr = c.args.fpr.now; uid = u } in b))
    c.in_ok-uid.ensures.copied in
    one_added (g.R.Roads.network c.args.roads.now) c.args.sought.now.roots.now c.args.sought.now.wanted pair a.paths old
    new a.answer a.one
    (with_it c.args.sought.now.wanted pair sum (amount_of a.paths) old new bind a.sum c.if-sum-sought.false same
    c.in_ok-push.ensures.items)
