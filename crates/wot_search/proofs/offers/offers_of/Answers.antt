use Rattle.std.proofs.Common.{[], List, ℕ, refl, sym, subst}
use Rattle.std.proofs.lemmas.List.{append-nil}
use Rattle.wot_types.specs.declared.fpr.Fpr.{Fpr}
use Rattle.wot_edge.specs.declared.path.Path.{Path}
use Rattle.wot_edge.specs.Record.{Record}
use Rattle.wot_search.specs.Offers.{AreOfferedBy}
use Rattle.wot_first_path.specs.Quest.{quest_of}
use Rattle.wot_first_path.specs.Reached.{look}
use Rattle.wot_search.proofs.OfRoots.{offered_more}
use Rattle.wot_search.proofs.offers.offers_of.Goals as goal

pub roots-preserved : goal.roots-preserved
roots-preserved c =
    let more = λ (network : List ℕ → Record) (others : List Path)
    (b : AreOfferedBy (quest_of network c.args.quest.now) (look c.args.nodes.now) c.args.size c.next.new.self others).
    offered_more (quest_of network c.args.quest.now) (look c.args.nodes.now) c.args.size (c.in-Some.fpr, c.in-Some._amount)
    c.next.new.self c.args.quest.now.asked.roots.now c.roots.paths.items c.put_offer.new.paths.items
    (c.in_ok-put_offer.ensures network)
    (λ ps m. c.roots.invariant.2 network ps
    (subst (λ (rs : List (Fpr × ℕ)). AreOfferedBy (quest_of network c.args.quest.now) (look c.args.nodes.now)
    c.args.size rs ps) (sym c.in-Some.ensures.steps) m)) others b in
    (tt, tt, more)

pub returns : goal.returns
returns c network =
    let quest = quest_of network c.args.quest.now in
    let found = look c.args.nodes.now in
    subst (λ (ps : List Path). AreOfferedBy quest found c.args.size c.args.quest.now.asked.roots.now ps)
    (append-nil c.roots.paths.items)
    (c.roots.invariant.2 network []
    (subst (λ (rs : List (Fpr × ℕ)). AreOfferedBy quest found c.args.size rs []) (sym c.in-None.ensures.steps.0)
    refl))
