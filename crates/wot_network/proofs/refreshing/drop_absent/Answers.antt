use Rattle.std.proofs.Common.{sym, ◌∙◌}
use Rattle.wot_network.proofs.Settled.{as_many}
use Rattle.wot_network.proofs.refreshing.drop_absent.Goals as goal

pub returns-else-len : goal.returns-else-len
returns-else-len c = record {
  present = as_many c.args.keyring.now c.args.t c.args.lines.now.entries c.requires.sorted c.rises.ensures.sorted
      c.requires.done (sym c.len.ensures.len ∙ c.if-len.false ∙ c.len-2.ensures.len);
}
