-- What the steps towards the text that `store` writes return.
use Rattle.std.specs.Prelude.{◌≡◌, ℕ, true, List, Result, Ok, Err}
use Rattle.wot_component.specs.Certificate.{Certificate}
use Rattle.wot_component.specs.Text.{text_of}
use Rattle.wot_keyring_spec.specs.declared.refusal.Refusal.{Refusal}
use Rattle.wot_keyring_spec.specs.declared.refusal.Refusal.TheVariants as refusals
use Rattle.wot_keyring_spec.specs.Import.{◌>>=◌}
use Rattle.wot_script.specs.declared.reply.Reply.{Reply}
use Rattle.wot_script.specs.Replies.{is_short}
use Rattle.wot_certd.specs.declared.shelf.Given.{Given}
use Rattle.wot_certd.specs.declared.shelf.Given.TheVariants.{Bytes, Absent, Long}
use Rattle.wot_certd.specs.World.{Answer}
use Rattle.wot_plain.specs.Outcome.{refusal}
use Rattle.wot_plain.specs.Storing.{text_unless, united}
use Rattle.wot_command.specs.declared.stored.Unwritten.{Unwritten}
use Rattle.wot_command.specs.declared.stored.Unwritten.TheVariants.{Refused, Memory}

-- the answer that was returned
abbrev pub answer_of : Given → Answer
answer_of (Bytes bytes) = Answer.entry bytes.items
answer_of Absent = Answer.absent
answer_of Long = Answer.long

-- a certificate merged with that of its entry, or the refusal of either
abbrev pub merged_entry : Certificate → Result Certificate Refusal → Result Certificate Refusal
merged_entry kept entry = entry >>= united kept

-- The text of the certificate, or the reply to the refusal, unless it is out of memory.
abbrev pub TellsCert : Result Certificate Refusal → Result Certificate Refusal → Type 0
TellsCert (Ok c) written = text_unless written ≡ Ok (text_of c)
TellsCert (Err refusals.Memory) written = Unit {0}
TellsCert (Err other) written = text_unless written ≡ Err (refusal other)

-- why nothing is written, unless it is out of memory
abbrev pub TellsUnwritten : Result (List ℕ) Reply → Unwritten → Type 0
TellsUnwritten written (Refused reply) = written ≡ Err reply
TellsUnwritten written Memory = Unit {0}

-- the reply is one line
abbrev pub IsShort : Unwritten → Type 0
IsShort (Refused reply) = is_short reply ≡ true
IsShort Memory = Unit {0}
