use Rattle.std.specs.Prelude.{string_bytes}
use Rattle.wot_certd.proofs.Marked.{text_is_no_entry}
use Rattle.wot_certd.proofs.name.name_beside.Goals as goal

pub returns-clause-apart : goal.returns-clause-apart
returns-clause-apart c =
    text_is_no_entry c.text_beside.result string_bytes c.args.name.now c.args.number c.text_beside.ensures
