use Rattle.wot_network.proofs.RecordsAgree.{records_agree}
use Rattle.wot_network.proofs.laws.records_agree.Goals as goal

pub returns : goal.returns
returns c = record { local = λ certs verdicts t others other u. records_agree certs others verdicts other t u }
