-- Each word of a reply is in its table, whatever the command.
use Rattle.std.proofs.Common.{refl}
use Rattle.wot_policy.specs.declared.rows.PolicyRows.{PolicyRows}
use Rattle.wot_script.specs.declared.reply.Reply.{Reply}
use Rattle.wot_script.specs.Replies.{HasWords}
use Rattle.wot_plain.specs.declared.class.Class.{Class}
use Rattle.wot_plain.specs.declared.class.Class.TheVariants.{State as OfState, Cursor as OfCursor, Watch as OfWatch}
use Rattle.wot_plain.specs.Session.{Session}
use Rattle.wot_plain.specs.LineStep.{CommandStep}
use Rattle.wot_plain.specs.Served.{Served}
use Rattle.wot_plain.proofs.Paced.{paces_worded}
use Rattle.wot_plain.proofs.StateReplies.{state_replies, state_words}
use Rattle.wot_plain.proofs.Watched.{watching_worded}

pub obeys_worded : (rows : PolicyRows) (old : Session) (class : Class) (answer : Served) (reply : Reply)
    (new : Session) → CommandStep rows old class answer reply new → HasWords reply
obeys_worded rows old (OfState command) answer reply new o =
    state_words reply (state_replies rows old.state command answer reply new.state o.does)
obeys_worded rows old (OfCursor name command) answer reply new o =
    paces_worded old (OfCursor name command) reply new.cursors refl o.paces
obeys_worded rows old (OfWatch name command) answer reply new o =
    watching_worded old (OfWatch name command) reply new.watches refl o.watching
