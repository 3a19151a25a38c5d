use Rattle.std.proofs.Common.{List, sym, subst}
use Rattle.wot_edge.specs.declared.edge.EdgeFacts.{EdgeFacts}
use Rattle.wot_edge.specs.Record.{Has}
use Rattle.wot_reach.specs.Onward.{AreInto, AreUsableIf}
use Rattle.wot_first_path.proofs.extend.extend_onward.Goals as goal

pub extend_by-requires-clause-needs : goal.extend_by-requires-clause-needs
extend_by-requires-clause-needs g c =
    let network = g.R.Roads.network c.args.search.now.roads.now in
    let e = sym c.as_slice-edges.ensures.value in
    record {
      into = subst (AreInto network c.args.at.now) e c.requires.leads.into;
      all = λ uid edge h lead. subst (λ (es : List EdgeFacts). Has es edge) e
          (c.requires.leads.covers uid edge h (lead c.requires.some));
    }

pub extend_by-requires-clause-usable : goal.extend_by-requires-clause-usable
extend_by-requires-clause-usable g c =
    subst (AreUsableIf (g.R.Roads.network c.args.search.now.roads.now) c.args.onward.now.usable) (sym c.as_slice-edges.ensures.value)
    c.requires.leads.usable
