use Rattle.std.proofs.Common.{inl, inr, refl, sym, subst, ◌∙◌, arith}
use Rattle.wot_types.specs.declared.fpr.Fpr.{Fpr}
use Rattle.wot_edge.specs.declared.edge.EdgeFacts.{EdgeFacts}
use Rattle.wot_edge.specs.Record.{Has}
use Rattle.wot_first_path.specs.Quest.{quest_of}
use Rattle.wot_first_path.specs.Looked.{IsNear}
use Rattle.wot_first_path.specs.Reached.{look}
use Rattle.wot_edge.specs.RowLaws.{has_at, edge_into}
use Rattle.wot_first_path.proofs.EdgesConsidered.{taken_more, taken_end, taken_all, rest_now, advances_trans}
use Rattle.wot_first_path.proofs.EdgesConsidered.{noted_more, noted_end, noted_all, near_issuer}
use Rattle.wot_first_path.proofs.extend.extend_by.Goals as goal

pub consider-requires-clause-row : goal.consider-requires-clause-row
consider-requires-clause-row g c id =
    let edges = c.args.edges.now in
    let x = c.edge-item.result in
    let has = subst (λ (e : EdgeFacts). Has edges e) (sym c.edge-item.is)
    (has_at edges c.edges.edge-index x c.edges-test.true) in
    (edge_into (g.R.Roads.network c.args.search.now.roads.now id) (c.requires.lawful id) c.args.at.now x
    (c.requires.needs.into id x has)).0

pub consider-requires-clause-known : goal.consider-requires-clause-known
consider-requires-clause-known g c known =
    let edges = c.args.edges.now in
    let x = c.edge-item.result in
    let has = subst (λ (e : EdgeFacts). Has edges e) (sym c.edge-item.is)
    (has_at edges c.edges.edge-index x c.edges-test.true) in
    c.requires.usable (sym c.hint_of-hint.ensures.usable ∙ known) x has

pub returns-in_err-consider-clause-gains : goal.returns-in_err-consider-clause-gains
returns-in_err-consider-clause-gains g c fpr h =
    let uid = c.args.search.now.quest.now.asked.uid.now in
    let network = g.R.Roads.network c.args.search.now.roads.now uid in
    let edges = c.args.edges.now in
    let x = c.edge-item.result in
    let has = subst (λ (e : EdgeFacts). Has edges e) (sym c.edge-item.is)
    (has_at edges c.edges.edge-index x c.edges-test.true) in
    elim (c.in_err-consider.ensures.gains fpr h) [
      | inl k ↦ c.edges.invariant.gains fpr k
      | inr e ↦ inr
          (subst (λ (f : Fpr). IsNear network c.args.at.now f) (sym e)
          (near_issuer network c.args.at.now x (c.requires.needs.into uid x has)))
    ]

pub edges-preserved : goal.edges-preserved
edges-preserved g c =
    let network = g.R.Roads.network c.args.search.now.roads.now c.args.search.now.quest.now.asked.uid.now in
    let quest = quest_of (g.R.Roads.network c.args.search.now.roads.now) c.args.search.now.quest.now in
    let size = c.args.search.now.size in
    let edges = c.args.edges.now in
    let x = c.edge-item.result in
    let i = c.edges.edge-index in
    let has = subst (λ (e : EdgeFacts). Has edges e) (sym c.edge-item.is) (has_at edges i x c.edges-test.true) in
    let into = c.requires.needs.into c.args.search.now.quest.now.asked.uid.now x has in
    let t = (edge_into network (c.requires.lawful c.args.search.now.quest.now.asked.uid.now) c.args.at.now x into).1 in
    let inv = c.edges.invariant in
    let ok = c.in_ok-consider.ensures in
    let one = ok.all in
    record {
      grows = λ ready.
          let a = inv.grows ready in
          let b = ready.begins c.args.at.now refl in
          let r = rest_now quest size c.args.reached.now c.edges.reached c.args.at.now c.width_at-width.result x b.steps
          b.kept b.long b.there c.width_at-width.ensures t a in
          advances_trans quest size c.args.reached.now c.edges.reached c.consider.new.reached a
          (one.grows b.steps r a.growing);
      taken = λ ready rest begins k.
          let a = inv.grows ready in
          let r = rest_now quest size c.args.reached.now c.edges.reached c.args.at.now c.width_at-width.result x rest k
          begins.long begins.there c.width_at-width.ensures t a in
          taken_more quest size (look c.edges.reached.nodes) (look c.consider.new.reached.nodes) edges i x rest
          c.edges-test.true c.edge-item.is (inv.taken ready rest begins k) (one.grows rest r a.growing).onward
          (one.taken rest r a.growing);
      noted = λ n. one.noted (inv.noted n);
      seen = λ n rest begins. noted_more quest (g.N.Notes.noted c.edges.notes) (g.N.Notes.noted c.consider.new.notes)
          edges i x rest c.edges-test.true c.edge-item.is (inv.seen n rest begins) ok.grows
          (one.seen (inv.noted n) rest begins.long);
      it = ok.grows c.args.at.now inv.it;
      widens = λ f h. ok.grows f (inv.widens f h);
      falls = let now = ok.falls in let before = inv.falls in omega (arith, now, before);
      paid = let now = ok.paid in let before = inv.paid in omega (arith, now, before);
      gains = λ fpr h. elim (ok.gains fpr h) [
        | inl k ↦ inv.gains fpr k
        | inr e ↦ inr (subst (λ (f : Fpr). IsNear network c.args.at.now f) (sym e) (near_issuer network c.args.at.now x into))
      ];
    }

pub returns-clause-all : goal.returns-clause-all
returns-clause-all g c =
    let quest = quest_of (g.R.Roads.network c.args.search.now.roads.now) c.args.search.now.quest.now in
    let inv = c.edges.invariant in
    let all = c.requires.needs.all c.args.search.now.quest.now.asked.uid.now in
    record {
      grows = inv.grows;
      taken = λ ready rest begins k.
          taken_all quest c.args.search.now.size (look c.edges.reached.nodes) c.args.edges.now c.args.at.now rest all begins.long
          begins.there
          (taken_end quest c.args.search.now.size (look c.edges.reached.nodes) c.args.edges.now c.edges.edge-index rest
          c.edges-test.false (inv.taken ready rest begins k));
      noted = inv.noted;
      seen = λ n rest begins.
          noted_all quest c.args.search.now.size (g.N.Notes.noted c.edges.notes) c.args.edges.now c.args.at.now rest all
          begins.long begins.there inv.it
          (noted_end quest (g.N.Notes.noted c.edges.notes) c.args.edges.now c.edges.edge-index rest
          c.edges-test.false (inv.seen n rest begins));
    }
