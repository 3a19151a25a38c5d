use Rattle.std.proofs.Common.{ℕ, List, Result, Ok, ap, sym}
use Rattle.wot_script.specs.declared.reply.Reply.{Reply}
use Rattle.wot_plain.proofs.Results.{if_ok}
use Rattle.wot_command.proofs.StoredOrRefused.{if_err, nothing_told}
use Rattle.wot_command.proofs.stored.text_for.Goals as goal

pub returns-in-Bytes-clause-text : goal.returns-in-Bytes-clause-text
returns-in-Bytes-clause-text c = rw c.in-Bytes.is (rw c.deref.ensures.value at c.union_text.ensures.text)

pub returns-in-Bytes-clause-reported : goal.returns-in-Bytes-clause-reported
returns-in-Bytes-clause-reported c = rw c.in-Bytes.is (rw c.deref.ensures.value at c.union_text.ensures.reported)

pub returns-in-Absent-clause-text : goal.returns-in-Absent-clause-text
returns-in-Absent-clause-text c =
    let Text : List ℕ → Result (List ℕ) Reply = λ octets. Ok octets in
    rw c.in-Absent.is (if_ok c.cert_text.result _ _ (λ text e. ap Text (sym e)) c.cert_text.ensures.text)

pub returns-in-Absent-clause-reported : goal.returns-in-Absent-clause-reported
returns-in-Absent-clause-reported c = if_err c.cert_text.result _ _ (λ why e. nothing_told _ why e)
    c.cert_text.ensures.memory
