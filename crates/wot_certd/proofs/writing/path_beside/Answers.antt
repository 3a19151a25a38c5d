use Rattle.std.proofs.Common.{sym, ◌∙◌}
use Rattle.std.specs.Prelude.{string_bytes}
use Rattle.wot_certd.proofs.Marked.{path_is_no_entry}
use Rattle.wot_certd.proofs.writing.path_beside.Goals as goal

pub returns-in-Ok-clause-apart : goal.returns-in-Ok-clause-apart
returns-in-Ok-clause-apart c =
    path_is_no_entry c.joined.result string_bytes c.args.folder.now c.deref.result.now c.joined.ensures
    (λ entry f. c.in-Ok.ensures.apart entry (sym c.deref.ensures ∙ f))
