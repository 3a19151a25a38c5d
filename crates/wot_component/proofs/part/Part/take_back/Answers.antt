use Rattle.wot_component.specs.Certificate.{sig_cmp}
use Rattle.wot_component.proofs.Backs.{rising_without}
use Rattle.wot_component.proofs.part.Part.take_back.Goals as goal

pub invariant_of-self : goal.invariant_of-self
invariant_of-self c = rw c.take_sigs_back.ensures (rising_without sig_cmp c.args.log.items _ c.self.invariant)
