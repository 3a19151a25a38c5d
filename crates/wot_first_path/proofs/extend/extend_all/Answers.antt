use Rattle.std.proofs.Common.{List, sym, subst}
use Rattle.wot_edge.specs.declared.edge.EdgeFacts.{EdgeFacts}
use Rattle.wot_edge.specs.Record.{Has}
use Rattle.wot_reach.specs.Onward.{AreUsableIf}
use Rattle.wot_first_path.proofs.extend.extend_all.Goals as goal

pub extend_by-requires-clause-usable : goal.extend_by-requires-clause-usable
extend_by-requires-clause-usable g c =
    subst (AreUsableIf (g.R.Roads.network c.args.search.now.roads.now) c.args.usable)
    (sym (c.rows-edges.ensures.rows c.args.search.now.quest.now.asked.uid.now)) (c.requires.usable c.args.search.now.quest.now.asked.uid.now)

pub extend_by-requires-clause-needs : goal.extend_by-requires-clause-needs
extend_by-requires-clause-needs g c = record {
  into = λ uid edge h. subst (λ (es : List EdgeFacts). Has es edge) (c.rows-edges.ensures.rows uid) h;
  all = λ uid edge h lead. subst (λ (es : List EdgeFacts). Has es edge) (sym (c.rows-edges.ensures.rows uid)) h;
}
