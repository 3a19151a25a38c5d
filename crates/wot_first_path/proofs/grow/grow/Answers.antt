use Rattle.std.proofs.Common.{inl, inr, arith}
use Rattle.wot_first_path.specs.Quest.{quest_of}
use Rattle.wot_first_path.specs.Reached.{look}
use Rattle.wot_edge.specs.RowLaws.{has_at}
use Rattle.wot_first_path.proofs.EdgesConsidered.{advances_trans}
use Rattle.wot_first_path.proofs.OneLayer.{layer_more, layer_end, ready_at, seen_more, seen_end}
use Rattle.wot_first_path.proofs.grow.grow.Goals as goal

pub layer-preserved : goal.layer-preserved
layer-preserved g c =
    let quest = quest_of (g.R.Roads.network c.args.search.now.roads.now) c.args.search.now.quest.now in
    let layer = c.args.layer.now in
    let i = c.layer.at-index in
    let has = has_at layer i _ c.layer-test.true in
    let inv = c.layer.invariant in
    let ok = c.in_ok-extend.ensures in
    let one = ok.all in
    record {
      grows = λ ready. advances_trans quest c.args.search.now.size c.args.reached.now c.layer.reached c.extend.new.reached
          (inv.grows ready)
          (one.grows (ready_at quest c.args.search.now.size c.args.reached.now c.layer.reached layer _ ready (inv.grows ready) has));
      taken = λ ready.
          let r = ready_at quest c.args.search.now.size c.args.reached.now c.layer.reached layer _ ready (inv.grows ready) has in
          layer_more quest c.args.search.now.size (look c.layer.reached.nodes) (look c.extend.new.reached.nodes) layer i _
          c.layer-test.true (inv.taken ready) (one.grows r).onward
          (λ rest k l there. one.taken r rest (record { long = l; there = there }) k);
      noted = λ n. one.noted (inv.noted n);
      seen = λ n. seen_more quest c.args.search.now.size (g.N.Notes.noted c.layer.notes) (g.N.Notes.noted c.extend.new.notes) layer
          i _ c.layer-test.true (inv.seen n) ok.grows
          (λ rest l there. one.seen (inv.noted n) rest (record { long = l; there = there }));
      widens = λ f h. ok.grows f (inv.widens f h);
      falls = let now = ok.falls in let before = inv.falls in omega (arith, now, before);
      paid = let now = ok.paid in let before = inv.paid in omega (arith, now, before);
      gains = λ fpr h. elim (ok.gains fpr h) [ inl k ↦ inv.gains fpr k | inr near ↦ inr (_, has, near) ];
    }

pub returns-in_err-extend-clause-gains : goal.returns-in_err-extend-clause-gains
returns-in_err-extend-clause-gains g c fpr h =
    elim (c.in_err-extend.ensures.gains fpr h) [
      | inl k ↦ c.layer.invariant.gains fpr k
      | inr near ↦ inr
          (_, has_at c.args.layer.now c.layer.at-index _ c.layer-test.true, near)
    ]

pub returns-clause-all : goal.returns-clause-all
returns-clause-all g c =
    let quest = quest_of (g.R.Roads.network c.args.search.now.roads.now) c.args.search.now.quest.now in
    let inv = c.layer.invariant in
    record {
      grows = inv.grows;
      taken = λ ready rest begins k.
          let l = begins.long in
          layer_end quest c.args.search.now.size (look c.layer.reached.nodes) c.args.layer.now c.layer.at-index
          c.layer-test.false (inv.taken ready) rest ((inv.grows ready).onward.keeps rest (omega (arith, l)) k) l
          begins.there;
      noted = inv.noted;
      seen = λ n rest begins.
          seen_end quest c.args.search.now.size (g.N.Notes.noted c.layer.notes) c.args.layer.now c.layer.at-index
          c.layer-test.false (inv.seen n) rest begins.long begins.there;
    }
