use Rattle.std.proofs.Common.{◌≡◌, inl, inr, ◌+◌, suc, sym, subst, ◌∙◌, Option, ℕ, arith, length}
use Rattle.std.proofs.lemmas.Bool.{eqb-true}
use Rattle.std.specs.Prelude.{vec_len}
use Rattle.wot_edge.specs.declared.path.Path.{Path}
use Rattle.wot_first_path.specs.Quest.{quest_of}
use Rattle.wot_first_path.specs.Reached.{look}
use Rattle.wot_first_path.specs.Growth.{IsAfter, IsTurn}
use Rattle.wot_first_path.proofs.FirstPathFound.{after_begin, unrooted_begin, empty_result, empty_looked, first_result}
use Rattle.wot_first_path.proofs.FirstPathFound.{last_result, looked_fewer, none_there, turned}
use Rattle.wot_first_path.proofs.first_path.first_from.Goals as goal

pub returns-then-is_empty-clause-first : goal.returns-then-is_empty-clause-first
returns-then-is_empty-clause-first g c =
    let quest = quest_of (g.R.Roads.network c.args.roads.now) c.args.quest.now in
    let inv = c.layers.invariant in
    let ok = c.in_ok-advance.ensures in
    let empty = none_there c.advance.new.reached.layer.items
    (sym c.advance.new.reached.layer.ok.0
    ∙ eqb-true (vec_len c.advance.new.reached.layer) 0 (sym c.is_empty.ensures ∙ c.if-is_empty.true)) in
    empty_result quest c.layers.size c.advance.new.reached (g.N.Notes.noted c.advance.new.notes) (ok.after inv.after)
    (ok.unrooted inv.after inv.unrooted) empty

pub returns-then-is_empty-clause-looked : goal.returns-then-is_empty-clause-looked
returns-then-is_empty-clause-looked g c =
    let quest = quest_of (g.R.Roads.network c.args.roads.now) c.args.quest.now in
    let inv = c.layers.invariant in
    let ok = c.in_ok-advance.ensures in
    let empty = none_there c.advance.new.reached.layer.items
    (sym c.advance.new.reached.layer.ok.0
    ∙ eqb-true (vec_len c.advance.new.reached.layer) 0 (sym c.is_empty.ensures ∙ c.if-is_empty.true)) in
    empty_looked quest c.layers.size c.advance.new.reached (g.N.Notes.noted c.advance.new.notes) (ok.after inv.after)
    (ok.unrooted inv.after inv.unrooted) empty

pub returns-in-Some-clause-first : goal.returns-in-Some-clause-first
returns-in-Some-clause-first g c =
    let quest = quest_of (g.R.Roads.network c.args.roads.now) c.args.quest.now in
    let found = look c.advance.new.reached.nodes in
    let inv = c.layers.invariant in
    let ok = c.in_ok-advance.ensures in
    let after = ok.after inv.after in
    let first_of_layer = turned quest c.layers.size c.advance.new.reached (g.N.Notes.noted c.advance.new.notes) _
    (c.requires.lawful c.args.quest.now.asked.uid.now) c.requires.small after (ok.unrooted inv.after inv.unrooted)
    (c.in_ok-first_of_layer.ensures (g.R.Roads.network c.args.roads.now)) in
    first_result quest (c.layers.size + 1) c.in-Some.path
    (subst (λ (o : Option Path). IsTurn quest found (c.layers.size + 1) o) c.in-Some.is first_of_layer)

pub returns-in-Some-clause-looked : goal.returns-in-Some-clause-looked
returns-in-Some-clause-looked g c =
    let quest = quest_of (g.R.Roads.network c.args.roads.now) c.args.quest.now in
    let found = look c.advance.new.reached.nodes in
    let inv = c.layers.invariant in
    let ok = c.in_ok-advance.ensures in
    let after = ok.after inv.after in
    let first_of_layer = turned quest c.layers.size c.advance.new.reached (g.N.Notes.noted c.advance.new.notes) _
    (c.requires.lawful c.args.quest.now.asked.uid.now) c.requires.small after (ok.unrooted inv.after inv.unrooted)
    (c.in_ok-first_of_layer.ensures (g.R.Roads.network c.args.roads.now)) in
    let f = subst (λ (o : Option Path). IsTurn quest found (c.layers.size + 1) o) c.in-Some.is first_of_layer in
    let l = f.long in
    looked_fewer quest (length c.in-Some.path.steps) (suc c.layers.size) (g.N.Notes.noted c.advance.new.notes)
    (omega (arith, l)) after.looked

pub layers-preserved : goal.layers-preserved
layers-preserved g c =
    let quest = quest_of (g.R.Roads.network c.args.roads.now) c.args.quest.now in
    let found = look c.advance.new.reached.nodes in
    let inv = c.layers.invariant in
    let ok = c.in_ok-advance.ensures in
    let after = ok.after inv.after in
    let first_of_layer = turned quest c.layers.size c.advance.new.reached (g.N.Notes.noted c.advance.new.notes) _
    (c.requires.lawful c.args.quest.now.asked.uid.now) c.requires.small after (ok.unrooted inv.after inv.unrooted)
    (c.in_ok-first_of_layer.ensures (g.R.Roads.network c.args.roads.now)) in
    record {
      after = subst (λ (m : ℕ). IsAfter quest m c.advance.new.reached (g.N.Notes.noted c.advance.new.notes))
          (let n : suc c.layers.size ≡ c.layers.size + 1 = omega arith in n) after;
      unrooted = subst (λ (o : Option Path). IsTurn quest found (c.layers.size + 1) o) c.in-None.is first_of_layer;
      grows = λ fpr h. ok.grows fpr (inv.grows fpr h);
      falls = let now = ok.falls in let before = inv.falls in omega (arith, now, before);
      paid = let now = ok.paid in let before = inv.paid in omega (arith, now, before);
      leads = λ fpr h. elim (ok.leads inv.after fpr h) [ inl k ↦ inv.leads fpr k | inr l ↦ inr l ];
    }

pub layers-init : goal.layers-init
layers-init g c =
    let quest = quest_of (g.R.Roads.network c.args.roads.now) c.args.quest.now in
    let reached = c.args.reached.now in
    record {
      after = after_begin quest reached (g.N.Notes.noted c.args.notes.now) c.requires.nodes c.requires.layer;
      unrooted = unrooted_begin quest (look reached.nodes);
      grows = λ fpr h. h;
      falls = omega arith;
      paid = omega arith;
      leads = λ fpr h. inl h;
    }

pub returns-clause-first : goal.returns-clause-first
returns-clause-first g c =
    let quest = quest_of (g.R.Roads.network c.args.roads.now) c.args.quest.now in
    last_result quest c.layers.size c.layers.reached (g.N.Notes.noted c.layers.notes) c.layers-test.false
    c.layers.invariant.after c.layers.invariant.unrooted

pub returns-clause-looked : goal.returns-clause-looked
returns-clause-looked g c =
    let quest = quest_of (g.R.Roads.network c.args.roads.now) c.args.quest.now in
    looked_fewer quest 255 c.layers.size (g.N.Notes.noted c.layers.notes) c.layers-test.false
    c.layers.invariant.after.looked

pub returns-clause-grows : goal.returns-clause-grows
returns-clause-grows g c = c.layers.invariant.grows

pub returns-clause-leads : goal.returns-clause-leads
returns-clause-leads g c = c.layers.invariant.leads

pub returns-in_err-advance-clause-grows : goal.returns-in_err-advance-clause-grows
returns-in_err-advance-clause-grows g c fpr h = c.in_err-advance.ensures.grows fpr (c.layers.invariant.grows fpr h)

pub returns-in_err-advance-clause-leads : goal.returns-in_err-advance-clause-leads
returns-in_err-advance-clause-leads g c fpr h =
    elim (c.in_err-advance.ensures.leads c.layers.invariant.after fpr h)
    [ inl k ↦ c.layers.invariant.leads fpr k | inr l ↦ inr l ]

pub returns-then-is_empty-clause-grows : goal.returns-then-is_empty-clause-grows
returns-then-is_empty-clause-grows g c fpr h = c.in_ok-advance.ensures.grows fpr (c.layers.invariant.grows fpr h)

pub returns-then-is_empty-clause-leads : goal.returns-then-is_empty-clause-leads
returns-then-is_empty-clause-leads g c fpr h =
    elim (c.in_ok-advance.ensures.leads c.layers.invariant.after fpr h)
    [ inl k ↦ c.layers.invariant.leads fpr k | inr l ↦ inr l ]

pub returns-in_err-first_of_layer-clause-grows : goal.returns-in_err-first_of_layer-clause-grows
returns-in_err-first_of_layer-clause-grows g c fpr h = c.in_ok-advance.ensures.grows fpr (c.layers.invariant.grows fpr h)

pub returns-in_err-first_of_layer-clause-leads : goal.returns-in_err-first_of_layer-clause-leads
returns-in_err-first_of_layer-clause-leads g c fpr h =
    elim (c.in_ok-advance.ensures.leads c.layers.invariant.after fpr h)
    [ inl k ↦ c.layers.invariant.leads fpr k | inr l ↦ inr l ]

pub returns-in-Some-clause-grows : goal.returns-in-Some-clause-grows
returns-in-Some-clause-grows g c fpr h = c.in_ok-advance.ensures.grows fpr (c.layers.invariant.grows fpr h)

pub returns-in-Some-clause-leads : goal.returns-in-Some-clause-leads
returns-in-Some-clause-leads g c fpr h =
    elim (c.in_ok-advance.ensures.leads c.layers.invariant.after fpr h)
    [ inl k ↦ c.layers.invariant.leads fpr k | inr l ↦ inr l ]

pub returns-in-Some-clause-after : goal.returns-in-Some-clause-after
returns-in-Some-clause-after g c =
    let quest = quest_of (g.R.Roads.network c.args.roads.now) c.args.quest.now in
    let found = look c.advance.new.reached.nodes in
    let inv = c.layers.invariant in
    let ok = c.in_ok-advance.ensures in
    let after = ok.after inv.after in
    let first_of_layer = turned quest c.layers.size c.advance.new.reached (g.N.Notes.noted c.advance.new.notes) _
    (c.requires.lawful c.args.quest.now.asked.uid.now) c.requires.small after (ok.unrooted inv.after inv.unrooted)
    (c.in_ok-first_of_layer.ensures (g.R.Roads.network c.args.roads.now)) in
    let f = subst (λ (o : Option Path). IsTurn quest found (c.layers.size + 1) o) c.in-Some.is first_of_layer in
    let l = f.long in
    let n : suc c.layers.size ≡ length c.in-Some.path.steps = omega (arith, l) in
    subst (λ (m : ℕ). IsAfter quest m c.advance.new.reached (g.N.Notes.noted c.advance.new.notes)) n after
