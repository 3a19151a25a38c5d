use Rattle.std.proofs.Common.{sym}
use Rattle.wot_script.proofs.Sizes.{numbered_text}
use Rattle.wot_script.proofs.tell.put_reply.Goals as goal

pub returns-in-Some : goal.returns-in-Some
returns-in-Some c =
    rw (numbered_text c.args.reply.now c.in-Some.number (sym c.in-Some.ensures), ← c.reply_words.ensures)
    c.put_number.ensures
