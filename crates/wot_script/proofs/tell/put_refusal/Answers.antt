use Rattle.wot_script.specs.Replies.{reply_text}
use Rattle.wot_script.proofs.tell.put_refusal.Goals as goal

pub returns-in-Long : goal.returns-in-Long
unfolding reply_text
returns-in-Long c = rw c.in-Long.is c.put_refused.ensures

pub returns-in-Line : goal.returns-in-Line
unfolding reply_text
returns-in-Line c = rw c.in-Line.is c.put_refused-in-Line.ensures

pub returns-in-View : goal.returns-in-View
unfolding reply_text
returns-in-View c = rw c.in-View.is c.put_refused-in-View.ensures

pub returns-in-Packet : goal.returns-in-Packet
unfolding reply_text
returns-in-Packet c = rw c.in-Packet.is c.put_refused_at.ensures

pub returns-in-Compressed : goal.returns-in-Compressed
unfolding reply_text
returns-in-Compressed c = rw c.in-Compressed.is c.put_refused-in-Compressed.ensures

pub returns-in-Secret : goal.returns-in-Secret
unfolding reply_text
returns-in-Secret c = rw c.in-Secret.is c.put_refused-in-Secret.ensures

pub returns-in-Kind : goal.returns-in-Kind
unfolding reply_text
returns-in-Kind c = rw c.in-Kind.is c.put_refused_at-in-Kind.ensures

pub returns-in-Empty : goal.returns-in-Empty
unfolding reply_text
returns-in-Empty c = rw c.in-Empty.is c.put_refused-in-Empty.ensures

pub returns-in-Misfiled : goal.returns-in-Misfiled
unfolding reply_text
returns-in-Misfiled c = rw c.in-Misfiled.is c.put_refused-in-Misfiled.ensures

pub returns-in-Clash : goal.returns-in-Clash
unfolding reply_text
returns-in-Clash c = rw c.in-Clash.is c.put_refused-in-Clash.ensures

pub returns-in-Absent : goal.returns-in-Absent
unfolding reply_text
returns-in-Absent c = rw c.in-Absent.is c.put_refused-in-Absent.ensures

pub returns-in-NoCursor : goal.returns-in-NoCursor
unfolding reply_text
returns-in-NoCursor c = rw c.in-NoCursor.is c.put_refused-in-NoCursor.ensures

pub returns-in-FullCursors : goal.returns-in-FullCursors
unfolding reply_text
returns-in-FullCursors c = rw c.in-FullCursors.is c.put_refused-in-FullCursors.ensures

pub returns-in-NoWatch : goal.returns-in-NoWatch
unfolding reply_text
returns-in-NoWatch c = rw c.in-NoWatch.is c.put_refused-in-NoWatch.ensures

pub returns-in-FullWatches : goal.returns-in-FullWatches
unfolding reply_text
returns-in-FullWatches c = rw c.in-FullWatches.is c.put_refused-in-FullWatches.ensures
