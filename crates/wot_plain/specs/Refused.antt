-- The errors of the layers below, joined, and the reply to each.
use Rattle.std.specs.Prelude.{◌≡◌, ◌≢◌}
use Rattle.wot_certd.specs.declared.shelf.ShelfFault.{ShelfFault}
use Rattle.wot_certd.specs.declared.shelf.ShelfFault.TheVariants as shelves
use Rattle.wot_cursor.specs.declared.cursors.BeginFault.{BeginFault}
use Rattle.wot_cursor.specs.declared.cursors.BeginFault.TheVariants as begins
use Rattle.wot_watch.specs.declared.watches.PutFault.{PutFault}
use Rattle.wot_watch.specs.declared.watches.PutFault.TheVariants as puts
use Rattle.wot_keyring_spec.specs.declared.refusal.Refusal.TheVariants as refusals
use Rattle.wot_script.specs.declared.reply.Reply.{Reply}
use Rattle.wot_script.specs.declared.reply.Reply.TheVariants as replies
use Rattle.wot_answers.specs.declared.fault.AskFault.{AskFault}
use Rattle.wot_answers.specs.declared.fault.AskFault.TheVariants as asks
use Rattle.wot_cache.specs.declared.view.ViewFault.TheVariants as faults
use Rattle.wot_explain.specs.declared.explained.ExplainFault.{ExplainFault}
use Rattle.wot_explain.specs.declared.explained.ExplainFault.TheVariants as explains
use Rattle.wot_plain.specs.declared.refusal.Refused.{Refused}
use Rattle.wot_plain.specs.declared.refusal.Missing.{Missing as Named}
use Rattle.wot_plain.specs.declared.refusal.Missing.TheVariants as names
use Rattle.wot_plain.specs.declared.refusal.Refused.TheVariants.{Keyring, View, Missing, FullCursors}
use Rattle.wot_plain.specs.declared.refusal.Refused.TheVariants.{FullWatches, Shelf, Memory}
use Rattle.wot_plain.specs.Outcome.{refusal, view_refusal}

-- ---- which of the joined errors is that of a layer

abbrev pub asking : AskFault → Refused
asking asks.View = Missing names.View
asking asks.Memory = Memory

abbrev pub explaining : ExplainFault → Refused
explaining explains.Absent = Missing names.Named
explaining explains.Memory = Memory

abbrev pub beginning : BeginFault → Refused
beginning begins.Full = FullCursors
beginning begins.Memory = Memory

abbrev pub putting : PutFault → Refused
putting puts.Full = FullWatches
putting puts.Memory = Memory

abbrev pub using_ : ShelfFault → Refused
using_ shelves.Failed = Shelf
using_ shelves.Memory = Memory

-- ---- the reply to each

-- the reply if there is none of what is named
abbrev pub missing_reply : Named → Reply
missing_reply names.Named = replies.Absent
missing_reply names.View = replies.View
missing_reply names.Cursor = replies.NoCursor
missing_reply names.Watch = replies.NoWatch

-- the error is out of memory
abbrev pub IsMemory : Refused → Type 0
IsMemory (Keyring why) = why ≡ refusals.Memory
IsMemory (View fault) = fault ≡ faults.Memory
IsMemory Memory = Unit {0}
IsMemory refused = ⊥

-- this is the reply to the error, which isn't out of memory
abbrev pub IsReplyTo : Refused → Reply → Type 0
IsReplyTo (Keyring why) reply = (reply ≡ refusal why) × (why ≢ refusals.Memory)
IsReplyTo (View fault) reply = (reply ≡ view_refusal fault) × (fault ≢ faults.Memory)
IsReplyTo (Missing named) reply = reply ≡ missing_reply named
IsReplyTo FullCursors reply = reply ≡ replies.FullCursors
IsReplyTo FullWatches reply = reply ≡ replies.FullWatches
IsReplyTo Shelf reply = reply ≡ replies.Shelf
IsReplyTo Memory reply = ⊥
