-- The outcome of each command that isn't a question: its reply, and the new state.
use Rattle.std.specs.Prelude.{ℕ, if◌then◌else◌, List, length, Option, Some, None, is_some, Result, Ok, Err}
use Rattle.wot_types.specs.declared.fpr.Fpr.{Fpr}
use Rattle.wot_types.specs.declared.limits.Limit.TheVariants as words
use Rattle.wot_types.specs.declared.name.Name.{Name}
use Rattle.wot_types.specs.declared.number.SigNumber.{SigNumber}
use Rattle.wot_types.specs.Limits.{standard_limits}
use Rattle.wot_key.specs.Key.{fpr_of}
use Rattle.wot_packet.specs.Why.{number_of}
use Rattle.wot_policy.specs.declared.rows.PolicyRows.{PolicyRows}
use Rattle.wot_verdict.specs.Verdicts.{verdict_at}
use Rattle.wot_verdict.specs.declared.verdict.Verdict.{Verdict}
use Rattle.wot_cert.specs.declared.fault.CertFault.{CertFault}
use Rattle.wot_cert.specs.declared.fault.CertFault.TheVariants as certs
use Rattle.wot_component.specs.Certificate.{Certificate}
use Rattle.wot_component.specs.Counts.{signatures_of}
use Rattle.wot_component.specs.Text.{text_of}
use Rattle.wot_keyring_spec.specs.declared.imported.Imported.{Imported}
use Rattle.wot_keyring_spec.specs.declared.refusal.Refusal.{Refusal}
use Rattle.wot_keyring_spec.specs.declared.refusal.Refusal.TheVariants as refusals
use Rattle.wot_keyring_spec.specs.Held.{cert_in, removing, verdict_set, verdict_cleared}
use Rattle.wot_keyring_spec.specs.Import.{answer_under, importing, is_entry}
use Rattle.wot_keyring_spec.specs.Verdict.{is_over}
use Rattle.wot_certd.specs.World.{Answer}
use Rattle.wot_reply_lines.specs.declared.lines.KeyLine.{KeyLine}
use Rattle.wot_script.specs.declared.reply.Reply.{Reply}
use Rattle.wot_script.specs.declared.reply.Reply.TheVariants as replies
use Rattle.wot_cache.specs.declared.view.ViewFault.{ViewFault}
use Rattle.wot_cache.specs.declared.view.ViewFault.TheVariants as faults
use Rattle.wot_cache.specs.Views.{view_at}
use Rattle.wot_cache.specs.State.{State, with_held, closing}

-- a reply, and the new state
pub record Outcome : Type 0 where
  pub reply : Reply
  pub state : State

-- a reply that leaves the state unchanged
abbrev pub only : State → Reply → Outcome
only s reply = record { reply = reply; state = s }

-- `ok`, and this new state
abbrev pub done : State → Outcome
done s = record { reply = replies.Done; state = s }

-- ---- import

-- the reply to a fault of a certificate; the definition of assembly never returns `Memory`
abbrev pub cert_refusal : CertFault → Reply
cert_refusal certs.Compressed = replies.Compressed
cert_refusal certs.Secret = replies.Secret
cert_refusal (certs.Kind kind offset) = replies.Kind kind offset
cert_refusal (certs.Order offset) = replies.Order offset
cert_refusal certs.Empty = replies.Empty
cert_refusal certs.Memory = replies.Empty

-- the reply to a refusal; the last line is arbitrary, since `Memory` gets no reply
abbrev pub refusal : Refusal → Reply
refusal (refusals.Packet fault) = replies.Packet (number_of fault.why) fault.at
refusal (refusals.Cert fault) = cert_refusal fault
refusal refusals.Misfiled = replies.Misfiled
refusal refusals.Clash = replies.Clash
refusal (refusals.Full limit) = replies.Full limit
refusal refusals.Memory = replies.Clash

-- all certificates of the octets are merged, or none, by the answer to the import
abbrev pub imports : PolicyRows → State → List ℕ → Result Imported Refusal → Outcome
imports rows s octets (Ok counts) = record {
  reply = replies.Taken counts.taken counts.skipped counts.fresh;
  state = with_held s (importing rows octets s.held);
}
imports rows s octets (Err why) = only s (refusal why)

-- `load`: takes the one certificate of an entry, by what the certificate directory returned
abbrev pub load : PolicyRows → State → Name → Answer → Outcome
load rows s name Answer.fault = only s replies.Shelf
load rows s name Answer.absent = only s replies.Absent
load rows s name Answer.long = only s replies.Long
load rows s name (Answer.entry octets) =
    imports rows s octets (answer_under (is_entry name) rows standard_limits s.held.certs octets)

-- ---- certificates and verdicts

-- `drop`
abbrev pub remove : State → Fpr → Outcome
remove s fpr = if is_some (cert_in s.held fpr) then done (with_held s (removing fpr s.held)) else only s replies.Absent

-- `verdict NUM good FPR` and `verdict NUM bad`
abbrev pub set_verdict : State → SigNumber → Verdict → Outcome
set_verdict s number verdict =
    if is_over standard_limits s.held.verdicts number then only s (replies.Full words.Verdicts)
    else done (with_held s (verdict_set number verdict s.held))

-- `verdict NUM none`
abbrev pub clear_verdict : State → SigNumber → Outcome
clear_verdict s number =
    if is_some (verdict_at s.held.verdicts number) then done (with_held s (verdict_cleared number s.held))
    else only s replies.Absent

-- ---- views

-- the reply to a view's fault; the last line is arbitrary, since `Memory` gets no reply
abbrev pub view_refusal : ViewFault → Reply
view_refusal faults.View = replies.View
view_refusal faults.Absent = replies.Absent
view_refusal (faults.Full limit) = replies.Full limit
view_refusal faults.Memory = replies.View

-- refused for this reason, or done
abbrev pub unless : State → Option ViewFault → State → Outcome
unless s (Some fault) new = only s (view_refusal fault)
unless s None new = done new

-- `view V close`
abbrev pub close : State → List ℕ → Outcome
close s view = if is_some (view_at s.views view) then done (closing view s) else only s replies.View

-- ---- listing

-- a certificate's line: its fingerprint, and the numbers of its user IDs and signatures
abbrev pub key_line_of : Certificate → KeyLine
key_line_of c = record { 0 = fpr_of c.key; 1 = length c.user_ids; 2 = signatures_of c }

-- the octets of a certificate, if it is there
abbrev pub exported : Option Certificate → Reply
exported (Some c) = replies.Export (text_of c)
exported None = replies.Absent
