use Rattle.wot_explain.proofs.piece.list_after.Goals as goal

pub list_page-requires : goal.list_page-requires
list_page-requires g c = record {
  sought = record {
    wanted = c.requires.wanted;
    few = c.requires.few;
    reach = c.everywhere-reach.ensures.reach (g.R.Roads.network c.args.roads.now) c.args.roots.now;
  };
}
