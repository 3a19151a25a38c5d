use Rattle.std.proofs.Common.{inl, inr, ◌+◌, ◌<◌, [], sym, ap, subst, ◌∙◌, arith, List, ℕ}
use Rattle.wot_edge.specs.declared.path.Path.{Path}
use Rattle.wot_edge.specs.Path.{asks, use_of, IsSpent, Use}
use Rattle.wot_edge.specs.Answer.{EachNext, amount_of, but_last}
use Rattle.wot_edge.specs.Sums.{use_in}
use Rattle.wot_search.specs.Below.{IsNextBelow, IsNextAmount}
use Rattle.wot_search.specs.Offers.{AreOffers}
use Rattle.wot_auth.proofs.OnePathMore.{each_more, short_more, use_none, use_more, pair_fits, root_fits, amount_more}
use Rattle.wot_auth.proofs.OnePathMore.{more_small, later_more, offers_later, root_small}
use Rattle.wot_auth.proofs.SumWithOneMore.{next_here, sum_of, enough_sum}
use Rattle.wot_auth.proofs.sum.sum_within.Goals as goal

pub paths-init : goal.paths-init
paths-init g c =
    let network = g.R.Roads.network c.args.roads.now c.args.asked.now.uid.now in
    let q = asks network c.args.asked.now.roots.now c.args.asked.now.target.now in
    let none = sym c.new-paths.ensures.items in
    record {
      each = subst (EachNext q []) none tt;
      short = subst (λ (paths : List Path). amount_of (but_last paths) < c.args.wanted) none
          (omega (arith, c.requires.wanted));
      used = use_none c.new-used.result c.new-used.ensures.pairs c.new-used.ensures.roots ∙ ap use_of none;
      sum = ap amount_of none;
      offers = subst (AreOffers c.args.asked.now.roots.now q (use_in c.new-used.result)) (sym c.new-offers.ensures.items) tt;
    }

pub returns-in-Spent : goal.returns-in-Spent
returns-in-Spent g c =
    let q = asks (g.R.Roads.network c.args.roads.now c.args.asked.now.uid.now) c.args.asked.now.roots.now c.args.asked.now.target.now in
    let inv = c.paths.invariant in
    let next = subst (IsNextBelow q (use_in c.paths.used) _) c.in-Spent.is c.in_ok-next.ensures.next in
    let spent = subst (λ (u : Use). IsSpent q u) inv.used next in
    record {
      sum =
          sum_of q c.args.wanted
          (λ a b m n. c.answer_is_one.ensures.one q c.args.wanted a b (c.rows-rows.ensures.lawful c.args.asked.now.uid.now) m n)
          c.paths.paths.items c.paths.sum
          (record { each = inv.each; short = inv.short; ends = inr spent }) inv.sum;
    }

pub returns-in-Enough : goal.returns-in-Enough
returns-in-Enough g c =
    let q = asks (g.R.Roads.network c.args.roads.now c.args.asked.now.uid.now) c.args.asked.now.roots.now c.args.asked.now.target.now in
    let good = c.rows-rows.ensures.lawful c.args.asked.now.uid.now in
    let inv = c.paths.invariant in
    let amount = c.in-Enough.amount in
    let next = subst (IsNextBelow q (use_in c.paths.used) _) c.in-Enough.is c.in_ok-next.ensures.next in
    let le = next.0 in
    let lt = c.paths-test.true in
    let some = c.answer_is_one.ensures.some q c.args.wanted c.requires.wanted in
    let total = enough_sum q (λ used a b m n. c.next_path_is_one.ensures.one q used a b good m n) c.args.wanted
    c.paths.paths.items c.paths.sum amount inv.each inv.sum lt
    (subst (λ (u : Use). IsNextAmount q u amount) inv.used next.1) (omega (arith, le, lt)) some.0 some.1 in
    record {
      sum = sum_of q c.args.wanted (λ a b m n. c.answer_is_one.ensures.one q c.args.wanted a b good m n) some.0 _ some.1
          (ap (λ (n : ℕ). c.paths.sum + n) c.from.ensures ∙ total);
    }

pub overflow_add-result : goal.overflow_add-result
overflow_add-result g c =
    let q = asks (g.R.Roads.network c.args.roads.now c.args.asked.now.uid.now) c.args.asked.now.roots.now c.args.asked.now.target.now in
    let good = c.rows-rows.ensures.lawful c.args.asked.now.uid.now in
    let inv = c.paths.invariant in
    let amount = c.in-Enough.amount in
    let next = subst (IsNextBelow q (use_in c.paths.used) _) c.in-Enough.is c.in_ok-next.ensures.next in
    let le = next.0 in
    let lt = c.paths-test.true in
    let some = c.answer_is_one.ensures.some q c.args.wanted c.requires.wanted in
    let total = enough_sum q (λ used a b m n. c.next_path_is_one.ensures.one q used a b good m n) c.args.wanted
    c.paths.paths.items c.paths.sum amount inv.each inv.sum lt
    (subst (λ (u : Use). IsNextAmount q u amount) inv.used next.1) (omega (arith, le, lt)) some.0 some.1 in
    let most = c.paths_fit.ensures.sum q some.0 some.1.each
    (λ fpr. root_small c.args.asked.now.roots.now fpr c.len-count.ensures.roots.amounts) in
    let few = c.requires.few in
    let e = c.from.ensures in
    omega (arith, e, total, most, few)

pub add-requires-clause-pairs_fit : goal.add-requires-clause-pairs_fit
add-requires-clause-pairs_fit g c issuer target =
    let q = asks (g.R.Roads.network c.args.roads.now c.args.asked.now.uid.now) c.args.asked.now.roots.now c.args.asked.now.target.now in
    let next = next_here q c.paths.used c.paths.paths.items _ _ c.in-Path.path c.paths.invariant.used
    c.in_ok-next.ensures.next c.in-Path.is in
    let small = more_small c.paths_fit.ensures.sum q c.paths.paths.items c.in-Path.path
    c.len-count.ensures.roots.amounts c.requires.few c.paths.invariant.each next in
    let fits = pair_fits c.paths.used c.paths.paths.items c.in-Path.path issuer target c.paths.invariant.used in
    omega (arith, fits, small)

pub add-requires-clause-roots_fit : goal.add-requires-clause-roots_fit
add-requires-clause-roots_fit g c fpr =
    let q = asks (g.R.Roads.network c.args.roads.now c.args.asked.now.uid.now) c.args.asked.now.roots.now c.args.asked.now.target.now in
    let next = next_here q c.paths.used c.paths.paths.items _ _ c.in-Path.path c.paths.invariant.used
    c.in_ok-next.ensures.next c.in-Path.is in
    let small = more_small c.paths_fit.ensures.sum q c.paths.paths.items c.in-Path.path
    c.len-count.ensures.roots.amounts c.requires.few c.paths.invariant.each next in
    let fits = root_fits c.paths.used c.paths.paths.items c.in-Path.path fpr c.paths.invariant.used in
    omega (arith, fits, small)

pub overflow_add-sum : goal.overflow_add-sum
overflow_add-sum g c =
    let q = asks (g.R.Roads.network c.args.roads.now c.args.asked.now.uid.now) c.args.asked.now.roots.now c.args.asked.now.target.now in
    let next = next_here q c.paths.used c.paths.paths.items _ _ c.in-Path.path c.paths.invariant.used
    c.in_ok-next.ensures.next c.in-Path.is in
    let small = more_small c.paths_fit.ensures.sum q c.paths.paths.items c.in-Path.path
    c.len-count.ensures.roots.amounts c.requires.few c.paths.invariant.each next in
    let more = amount_more c.paths.paths.items c.in-Path.path in
    let sum = c.paths.invariant.sum in
    omega (arith, more, small, sum)

pub paths-preserved : goal.paths-preserved
paths-preserved g c =
    let network = g.R.Roads.network c.args.roads.now c.args.asked.now.uid.now in
    let q = asks network c.args.asked.now.roots.now c.args.asked.now.target.now in
    let old = c.paths.paths.items in
    let path = c.in-Path.path in
    let more = sym c.in_ok-push-in-Path.ensures.items in
    let next = next_here q c.paths.used old _ _ path c.paths.invariant.used c.in_ok-next.ensures.next c.in-Path.is in
    let later = later_more c.paths.used c.add.new.self path c.in_ok-add-in-Path.ensures.pairs
    c.in_ok-add-in-Path.ensures.roots in
    let below : amount_of old < c.args.wanted =
    (let test = c.paths-test.true in let sum = c.paths.invariant.sum in omega (arith, test, sum)) in
    record {
      each = subst (EachNext q []) more (each_more q old path c.paths.invariant.each next);
      short = subst (λ (paths : List Path). amount_of (but_last paths) < c.args.wanted) more
          (short_more c.args.wanted old path below);
      used = use_more c.paths.used c.add.new.self old path c.paths.invariant.used c.in_ok-add-in-Path.ensures.pairs
          c.in_ok-add-in-Path.ensures.roots ∙ ap use_of more;
      sum = ap (λ (n : ℕ). n + path.amount) c.paths.invariant.sum ∙ sym (amount_more old path) ∙ ap amount_of more;
      offers = offers_later c.args.asked.now.roots.now q (use_in c.paths.used) (use_in c.add.new.self)
          c.next_below.new.offers.items later c.in_ok-next.ensures.offers;
    }

pub returns : goal.returns
returns g c =
    let q = asks (g.R.Roads.network c.args.roads.now c.args.asked.now.uid.now) c.args.asked.now.roots.now c.args.asked.now.target.now in
    let inv = c.paths.invariant in
    let full = c.paths-test.false in
    let sum = inv.sum in
    record {
      sum =
          sum_of q c.args.wanted
          (λ a b m n. c.answer_is_one.ensures.one q c.args.wanted a b (c.rows-rows.ensures.lawful c.args.asked.now.uid.now) m n)
          c.paths.paths.items c.paths.sum
          (record { each = inv.each; short = inv.short; ends = inl (omega (arith, full, sum)) }) inv.sum;
    }
