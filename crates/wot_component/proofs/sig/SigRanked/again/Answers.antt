use Rattle.wot_component.proofs.Copies.{same_sig}
use Rattle.wot_component.proofs.sig.SigRanked.again.Goals as goal

pub returns : goal.returns
returns c = same_sig c.marked.result c.args.self.now c.admitted.result c.admitted.ensures.mark c.marked.ensures.marked
