use Rattle.std.proofs.Common.{sym, ap, ◌∙◌}
use Rattle.wot_first_path.specs.Layer.{is_kept}
use Rattle.wot_first_path.specs.Reached.{look}
use Rattle.wot_first_path.proofs.OneEdgeConsidered.{wanted_none, wanted_kept, wanted_unkept}
use Rattle.wot_first_path.proofs.consider.wanted.Goals as goal

pub returns-in-None : goal.returns-in-None
returns-in-None g c network =
    wanted_none c.args.search.now.quest.now.goal (look c.args.nodes.now) _ (sym c.in-None.is ∙ c.candidate.ensures network)

pub returns-then-keeps : goal.returns-then-keeps
returns-then-keeps g c network =
    wanted_kept c.args.search.now.quest.now.goal (look c.args.nodes.now) _ c.in-Some.node
    (sym c.in-Some.is ∙ c.candidate.ensures network)
    (ap (is_kept c.args.search.now.quest.now.goal c.in-Some.node) (sym c.node_at.ensures) ∙ sym c.keeps.ensures ∙ c.if-keeps.true)

pub returns-else-keeps : goal.returns-else-keeps
returns-else-keeps g c network =
    wanted_unkept c.args.search.now.quest.now.goal (look c.args.nodes.now) _ c.in-Some.node
    (sym c.in-Some.is ∙ c.candidate.ensures network)
    (ap (is_kept c.args.search.now.quest.now.goal c.in-Some.node) (sym c.node_at.ensures) ∙ sym c.keeps.ensures ∙ c.if-keeps.false)
