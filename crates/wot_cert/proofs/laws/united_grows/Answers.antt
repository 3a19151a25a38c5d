use Rattle.wot_component.proofs.TextSize.{size_less}
use Rattle.wot_cert.proofs.Unchanged.{items-more, signatures-less, signatures-more, size-more, sound-more}
use Rattle.wot_cert.proofs.laws.united_grows.Goals as goal

pub returns : goal.returns
returns c = record {
  items = items-more;
  signatures = signatures-more;
  sizes = size-more;
  sound = sound-more;
  together = size_less;
  signed = signatures-less;
}
