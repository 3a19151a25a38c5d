use Rattle.std.proofs.Common.{inl, inr, sym, subst, ◌∙◌}
use Rattle.wot_types.specs.declared.fpr.Fpr.{Fpr}
use Rattle.wot_first_path.specs.Quest.{quest_of}
use Rattle.wot_first_path.specs.Reached.{look}
use Rattle.wot_first_path.proofs.OneEdgeConsidered.{taken_none, noted_none, wanted_issuer, advances_if, taken_if, noted_if}
use Rattle.wot_first_path.proofs.EdgesConsidered.{advances_refl}
use Rattle.wot_first_path.proofs.consider.consider.Goals as goal

pub returns-in-None-clause-all : goal.returns-in-None-clause-all
returns-in-None-clause-all g c =
    let quest = quest_of (g.R.Roads.network c.args.search.now.roads.now) c.args.search.now.quest.now in
    let w = rw (c.facts.ensures.facts, c.requires.demand) at
    (sym (c.wanted.ensures (g.R.Roads.network c.args.search.now.roads.now)) ∙ c.in-None.is) in
    record {
      grows = λ rest r growing. advances_refl quest c.args.search.now.size c.args.reached.now growing;
      taken = taken_none quest c.args.search.now.size c.args.rest.width c.args.edge.now (c.requires.lawful c.args.search.now.quest.now.asked.uid.now)
          (look c.args.reached.now.nodes) c.args.reached.now.layer.items w;
      noted = λ noted. noted;
      seen = λ noted rest long. noted_none quest c.args.search.now.size c.args.rest.width c.args.edge.now
          (look c.args.reached.now.nodes) (g.N.Notes.noted c.args.notes.now) w rest long noted;
    }

pub returns-in_ok-keep-in-Some-clause-all : goal.returns-in_ok-keep-in-Some-clause-all
returns-in_ok-keep-in-Some-clause-all g c =
    let quest = quest_of (g.R.Roads.network c.args.search.now.roads.now) c.args.search.now.quest.now in
    let size = c.args.search.now.size in
    let width = c.args.rest.width in
    let edge = c.args.edge.now in
    let good = c.requires.lawful c.args.search.now.quest.now.asked.uid.now in
    let has = c.requires.row c.args.search.now.quest.now.asked.uid.now in
    let w = rw (c.facts.ensures.facts, c.requires.demand) at
    (sym (c.wanted.ensures (g.R.Roads.network c.args.search.now.roads.now)) ∙ c.in-Some.is) in
    let kept = c.in_ok-keep-in-Some.ensures in
    let set = g.N.Notes.noted c.keep.new.notes in
    let it : set edge.issuer = subst (λ (f : Fpr). set f)
    (wanted_issuer quest size width edge (look c.args.reached.now.nodes) c.in-Some.node w) kept.has in
    record {
      grows = advances_if quest size width edge good c.args.reached.now c.keep.new.reached c.in-Some.node w kept.put has;
      taken = taken_if quest size width edge good c.args.reached.now c.keep.new.reached c.in-Some.node w kept.put;
      noted = λ noted. noted_if quest size width edge good c.args.reached.now c.keep.new.reached c.in-Some.node w
          kept.put has set (λ fpr node e. kept.grows fpr (noted fpr node e)) it;
      seen = λ noted rest long row h e reaches le far. it;
    }

pub returns-in_err-keep-in-Some-clause-gains : goal.returns-in_err-keep-in-Some-clause-gains
returns-in_err-keep-in-Some-clause-gains g c fpr h =
    let quest = quest_of (g.R.Roads.network c.args.search.now.roads.now) c.args.search.now.quest.now in
    let w = rw (c.facts.ensures.facts, c.requires.demand) at
    (sym (c.wanted.ensures (g.R.Roads.network c.args.search.now.roads.now)) ∙ c.in-Some.is) in
    elim (c.in_err-keep-in-Some.ensures.gains fpr h) [
      | inl k ↦ inl k
      | inr e ↦ inr
          (e ∙ wanted_issuer quest c.args.search.now.size c.args.rest.width c.args.edge.now (look c.args.reached.now.nodes)
          c.in-Some.node
          w)
    ]

pub returns-in_ok-keep-in-Some-clause-gains : goal.returns-in_ok-keep-in-Some-clause-gains
returns-in_ok-keep-in-Some-clause-gains g c fpr h =
    let quest = quest_of (g.R.Roads.network c.args.search.now.roads.now) c.args.search.now.quest.now in
    let w = rw (c.facts.ensures.facts, c.requires.demand) at
    (sym (c.wanted.ensures (g.R.Roads.network c.args.search.now.roads.now)) ∙ c.in-Some.is) in
    elim (c.in_ok-keep-in-Some.ensures.gains fpr h) [
      | inl k ↦ inl k
      | inr e ↦ inr
          (e ∙ wanted_issuer quest c.args.search.now.size c.args.rest.width c.args.edge.now (look c.args.reached.now.nodes)
          c.in-Some.node
          w)
    ]
