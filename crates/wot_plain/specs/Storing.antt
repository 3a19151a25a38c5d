-- `store`: what is written in place of a certificate's entry, and the reply.
use Rattle.std.specs.Prelude.{ℕ, Bool, true, false, if◌then◌else◌, nat_lt, List, length}
use Rattle.std.specs.Prelude.{Option, Some, None, Result, Ok, Err}
use Rattle.std.specs.Str.{bytes_eq}
use Rattle.std.specs.Result.{result_ok}
use Rattle.wot_types.specs.declared.fpr.Fpr.{Fpr}
use Rattle.wot_types.specs.declared.limits.Limit.TheVariants as limits
use Rattle.wot_types.specs.declared.name.Name.TheVariants.{Cert}
use Rattle.wot_types.specs.Limits.{standard_limits}
use Rattle.wot_component.specs.Certificate.{Certificate, unite}
use Rattle.wot_component.specs.Text.{size_of, text_of}
use Rattle.wot_keyring_spec.specs.declared.refusal.Refusal.{Refusal}
use Rattle.wot_keyring_spec.specs.declared.refusal.Refusal.TheVariants as refusals
use Rattle.wot_keyring_spec.specs.Entry.{entry_in}
use Rattle.wot_keyring_spec.specs.Import.{◌>>=◌}
use Rattle.wot_certd.specs.World.{Answer}
use Rattle.wot_script.specs.declared.reply.Reply.{Reply}
use Rattle.wot_script.specs.declared.reply.Reply.TheVariants as replies
use Rattle.wot_plain.specs.Outcome.{refusal}
use Rattle.wot_plain.specs.Served.{Served}

-- a certificate, unless it is larger than the limit
abbrev pub unless_great : Certificate → Result Certificate Refusal
unless_great c = if nat_lt standard_limits.certificate (size_of c) then Err (refusals.Full limits.Certificate) else Ok c

-- a certificate merged with that of its entry, unless their primary keys differ or the result is too large
abbrev pub united : Certificate → Certificate → Result Certificate Refusal
united kept c = if bytes_eq kept.key c.key then unless_great (unite kept c) else Err refusals.Clash

-- the text of a certificate, or the reply to a refusal
abbrev pub text_unless : Result Certificate Refusal → Result (List ℕ) Reply
text_unless (Err why) = Err (refusal why)
text_unless (Ok c) = Ok (text_of c)

-- What is to be written, by the answer to the read: the merged certificate, or the certificate alone if there is no
-- entry. Otherwise the reply.
abbrev pub writing : Fpr → Certificate → Answer → Result (List ℕ) Reply
writing fpr kept Answer.fault = Err replies.Shelf
writing fpr kept Answer.long = Err replies.Long
writing fpr kept Answer.absent = Ok (text_of kept)
writing fpr kept (Answer.entry octets) = text_unless (entry_in (Cert fpr) octets >>= united kept)

-- the reply, by what is to be written and whether the replace fails
abbrev pub stored : Bool → Result (List ℕ) Reply → Reply
stored fails (Err reply) = reply
stored true (Ok octets) = replies.Shelf
stored false (Ok octets) = replies.Stored (length octets)

-- the reply to `store`: a certificate is merged with its entry and written in place of the entry
abbrev pub stored_from : Option Certificate → Fpr → Served → Reply
stored_from None fpr given = replies.Absent
stored_from (Some kept) fpr given = stored given.fails (writing fpr kept given.read)

-- the octets that replace the entry, if any
abbrev pub put_from : Option Certificate → Fpr → Answer → Option (List ℕ)
put_from None fpr answer = None
put_from (Some kept) fpr answer = result_ok (writing fpr kept answer)
