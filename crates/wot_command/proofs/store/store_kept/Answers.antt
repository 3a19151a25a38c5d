use Rattle.std.proofs.Common.{◌≡◌, refl, sym}
use Rattle.std.specs.Prelude.{IfSome}
use Rattle.wot_types.specs.declared.name.Name.TheVariants.{Cert}
use Rattle.wot_certd.specs.World.{Answer, World, read_answer}
use Rattle.wot_script.specs.declared.reply.Reply.TheVariants as replies
use Rattle.wot_plain.specs.Entry.{stores}
use Rattle.wot_command.specs.CommandRun.{Seen}
use Rattle.wot_command.specs.StoredText.{answer_of}
use Rattle.wot_plain.proofs.Faults.{failed}
use Rattle.wot_plain.proofs.Results.{any_err}
use Rattle.wot_command.proofs.DirectoryAfterFailure.{on_err_as, puts_none, stored_may}
use Rattle.wot_plain.proofs.Results.{if_ok}
use Rattle.wot_command.proofs.Calling.{given_is, never_fault, stores_put, stores_told, told_so}
use Rattle.wot_command.proofs.store.store_kept.Goals as goal

pub returns-in-Ok-text_for-clause-stores : goal.returns-in-Ok-text_for-clause-stores
returns-in-Ok-text_for-clause-stores g c =
    let answer : Answer = answer_of c.in-Ok.given in
    let world = g.D.Shelf.world c.args.shelf.now in
    let told : IfSome world (λ (w : World). answer ≡ read_answer w (Cert c.args.fpr.now)) =
    told_so world (Cert c.args.fpr.now) answer _ (λ a p. given_is c.in-Ok.given a p) c.in-Ok.ensures.answers in
    let after : Seen = record { world = g.D.Shelf.world c.put.new.shelf; faults = g.D.Shelf.faults c.put.new.shelf } in
    if_ok c.put.result _ _ (λ reply puts.
    stores_put c.args.fpr.now c.args.kept.now answer c.in-Ok-text_for.text.items world (g.D.Shelf.world c.read.new.self)
    (g.D.Shelf.faults c.args.shelf.now) (g.D.Shelf.faults c.read.new.self) reply after c.in-Ok-text_for.ensures.text
    told c.read.ensures.after
    c.read.ensures.later c.put.ensures.later puts) (rw c.deref.ensures.value at c.put.ensures.puts)

pub returns-in-Err-Refused-clause-stores : goal.returns-in-Err-Refused-clause-stores
returns-in-Err-Refused-clause-stores g c =
    let answer : Answer = answer_of c.in-Ok.given in
    let world = g.D.Shelf.world c.args.shelf.now in
    rw c.in-Err-Refused.field-0-is
    (stores_told c.args.fpr.now c.args.kept.now answer world (g.D.Shelf.world c.read.new.self)
    (g.D.Shelf.faults c.args.shelf.now)
    (g.D.Shelf.faults c.read.new.self) c.in-Err-Refused.reply (rw c.in-Err-Refused.field-0-is at c.in-Err-Refused.ensures.reported)
    (told_so world (Cert c.args.fpr.now) answer _ (λ a p. given_is c.in-Ok.given a p) c.in-Ok.ensures.answers)
    c.read.ensures.after
    (λ f. absurd (never_fault c.in-Ok.given f)))

pub returns-in-Err-clause-stores : goal.returns-in-Err-clause-stores
returns-in-Err-clause-stores g c =
    let world = g.D.Shelf.world c.args.shelf.now in
    failed c.reply_to.result c.from.result c.in-Err.fault _ c.from.ensures c.reply_to.ensures.reply (λ e.
    stores_told c.args.fpr.now c.args.kept.now Answer.fault world (g.D.Shelf.world c.read.new.self)
    (g.D.Shelf.faults c.args.shelf.now)
    (g.D.Shelf.faults c.read.new.self) replies.Shelf refl
    (told_so world (Cert c.args.fpr.now) Answer.fault _ (λ a p. sym p) (rw e at c.in-Err.ensures.answers))
    c.read.ensures.after (λ f. (rw e at c.in-Err.ensures.cause) refl))

-- ---- out of memory

pub returns-in-Ok-text_for-clause-entries : goal.returns-in-Ok-text_for-clause-entries
returns-in-Ok-text_for-clause-entries g c s kept =
    let answer : Answer = answer_of c.in-Ok.given in
    let world = g.D.Shelf.world c.args.shelf.now in
    on_err_as c.put.result _ _ (λ may.
    stored_may s c.args.fpr.now c.args.kept.now answer c.in-Ok-text_for.text.items world
    (g.D.Shelf.world c.read.new.self) (g.D.Shelf.world c.put.new.shelf) kept
    c.in-Ok-text_for.ensures.text (told_so world (Cert c.args.fpr.now) answer _ (λ a p. given_is c.in-Ok.given a p)
    c.in-Ok.ensures.answers) c.read.ensures.after may)
    (rw c.deref.ensures.value at c.put.ensures.entries)

pub returns-in-Err-clause-entries : goal.returns-in-Err-clause-entries
returns-in-Err-clause-entries g c s kept =
    any_err c.reply_to.result _ (puts_none s (stores c.args.fpr.now) (g.D.Shelf.world c.args.shelf.now)
    (g.D.Shelf.world c.read.new.self) c.read.ensures.after)

pub returns-in-Err-Memory-clause-entries : goal.returns-in-Err-Memory-clause-entries
returns-in-Err-Memory-clause-entries g c s kept =
    puts_none s (stores c.args.fpr.now) (g.D.Shelf.world c.args.shelf.now) (g.D.Shelf.world c.read.new.self)
    c.read.ensures.after
