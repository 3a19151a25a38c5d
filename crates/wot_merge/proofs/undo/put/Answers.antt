use Rattle.std.proofs.Common.{List, [], ◌∷◌, ◌++◌, ap, ◌∙◌}
use Rattle.wot_merge.specs.declared.undo.Before.TheVariants.{Was}
use Rattle.wot_merge.specs.declared.undo.Was.{Was as TheWas}
use Rattle.wot_merge.proofs.Logs.{log_goes_on}
use Rattle.wot_merge.proofs.undo.put.Goals as goal

pub returns-clause-log : goal.returns-clause-log
returns-clause-log c =
    log_goes_on c.args.certs.now.entries c.keep.new.certs.entries c.args.log.now.items c.note.new.log.items c.args.fpr
    c.args.kept c.in_ok-was.was' c.in_ok-was.ensures.was_in_order c.in_ok-was.ensures.was
    c.in_ok-was.ensures.entries
    (c.note.ensures.noted
    ∙ ap (λ (ws : List TheWas). ws ++ (record { fpr = c.args.fpr; before = Was c.in_ok-was.was' }) ∷ [])
    c.in_ok-reserve.ensures.items)
