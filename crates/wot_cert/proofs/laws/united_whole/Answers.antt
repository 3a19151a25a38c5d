use Rattle.std.proofs.Common.{false}
use Rattle.wot_component.specs.Judged.{is_admitted_by}
use Rattle.wot_component.proofs.Wholes.{unite_whole, marked_whole}
use Rattle.wot_cert.proofs.laws.united_whole.Goals as goal

pub returns : goal.returns
returns c = record
    { united = unite_whole; unmarked = marked_whole (λ _. false); judged = λ rows. marked_whole (is_admitted_by rows) }
