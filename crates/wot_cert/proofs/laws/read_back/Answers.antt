use Rattle.std.proofs.Common.{ℕ, List, sym, ap, subst, ◌∙◌}
use Rattle.wot_packet.specs.Reading.{packets_of}
use Rattle.wot_packet.specs.Spelling.{Spells}
use Rattle.wot_packet.specs.Writing.{placed}
use Rattle.wot_cert.proofs.ReadingBack.{cert_packets, text-written, can-be-written, packets-short, no-fault}
use Rattle.wot_cert.proofs.ReadingBack.{certificates-again, none-skipped}
use Rattle.wot_cert.proofs.laws.read_back.Goals as goal

pub returns : goal.returns
returns c = λ cert h. record {
  packets = placed 0 (cert_packets cert);
  spelled = subst (λ (text : List ℕ). Spells text (placed 0 (cert_packets cert))) (sym (text-written cert))
      (c.written_back.ensures.spelled (cert_packets cert) (can-be-written cert h));
  reader = ap packets_of (text-written cert)
      ∙ c.written_back.ensures.reader (cert_packets cert) (can-be-written cert h);
  short = packets-short cert h;
  fault = no-fault cert h;
  certificates = certificates-again cert h;
  skipped = none-skipped cert h;
}
