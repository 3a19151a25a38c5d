use Rattle.wot_index.proofs.Indexed.{noted_cert}
use Rattle.wot_index.proofs.noting.note_cert.Goals as goal

pub returns-clause-noted : goal.returns-clause-noted
returns-clause-noted c =
    noted_cert c.args.index.now c.note_sigs.new.index c.note_parts.new.index c.note_parts-2.new.index
    c.note_parts-3.new.index c.note_parts-3.result c.args.cert.now c.fpr-fpr.result c.direct.result.now
    c.user_ids.result.now c.attributes.result.now c.subkeys.result.now
    c.fpr-fpr.ensures.fpr c.direct.ensures.direct c.user_ids.ensures.user_ids c.attributes.ensures.attributes
    c.subkeys.ensures.subkeys
    c.in_ok-note_sigs.ensures.noted c.in_ok-note_parts.ensures.noted c.in_ok-note_parts-2.ensures.noted
    c.note_parts-3.ensures.noted
