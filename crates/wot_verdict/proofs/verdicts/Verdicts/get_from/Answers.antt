use Rattle.std.proofs.Common.{ap, sym, ◌∙◌}
use Rattle.wot_verdict.specs.Kept.{verdict_in}
use Rattle.wot_verdict.proofs.Changed.{found_in}
use Rattle.wot_verdict.proofs.verdicts.Verdicts.get_from.Goals as goal

pub returns : goal.returns
returns c = record {
  found = rw (← c.self.view_is) (c.verdict_of.ensures.verdict ∙ ap verdict_in c.get_from-noted.ensures.held
      ∙ sym (found_in c.self.inside.held c.args.number.now));
}
