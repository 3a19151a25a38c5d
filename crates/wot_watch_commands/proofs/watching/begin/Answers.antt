use Rattle.std.proofs.Common.{List, ℕ, ap, ◌∙◌}
use Rattle.wot_table.specs.Table.{with_entry}
use Rattle.wot_script.specs.declared.reply.Reply.TheVariants as replies
use Rattle.wot_watch.specs.Watches.{Watches}
use Rattle.wot_plain.specs.Watching.{opened}
use Rattle.wot_plain.proofs.Watched.{begins_full, begins_new}
use Rattle.wot_plain.proofs.Faults.{full_watches}
use Rattle.wot_plain.proofs.Results.{any_err}
use Rattle.wot_watch_commands.proofs.watching.begin.Goals as goal

pub returns-in-Ok-clause-begins : goal.returns-in-Ok-clause-begins
returns-in-Ok-clause-begins c =
    let asked = c.args.asked.now in
    let a = c.args in
    let old : Watches = a.watches.now in
    begins_new old a.name.now c.args.view.now asked.target.now asked.wanted asked.uid.now a.amount
    (replies.WatchAmount c.in_ok-shown.shown a.amount) c.put.new.self
    (rw c.in_ok-key.ensures.equal at c.in-Ok.ensures.full)
    (ap (λ (n : List ℕ). replies.WatchAmount n a.amount) c.in_ok-shown.ensures.equal)
    (c.in-Ok.ensures.put
    ∙ (λ i. with_entry old (c.in_ok-key.ensures.equal i) (c.new-2.ensures.whole i))
    ∙ (λ i. with_entry old a.name.now
    (opened (c.in_ok-of_view.ensures.equal i) asked.target.now asked.wanted
    (c.in_ok-uid.ensures.copied i) a.amount)))

pub returns-in-Err-clause-begins : goal.returns-in-Err-clause-begins
returns-in-Err-clause-begins c =
    let asked = c.args.asked.now in
    let a = c.args in
    full_watches c.reply_to.result c.from.result c.in-Err.fault _ c.from.ensures c.reply_to.ensures.reply
    (λ e. begins_full a.watches.now a.name.now c.args.view.now asked.target.now asked.wanted asked.uid.now a.amount
    c.put.new.self
    (rw c.in_ok-key.ensures.equal at (rw e at c.in-Err.ensures.full)) c.in-Err.ensures.kept)

pub returns-in-Err-clause-kept : goal.returns-in-Err-clause-kept
returns-in-Err-clause-kept c = any_err c.reply_to.result _ c.in-Err.ensures.kept
