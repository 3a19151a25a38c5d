use Rattle.std.proofs.Common.{ℕ, List, Result, Ok, ap, sym, ◌∙◌}
use Rattle.wot_types.specs.declared.name.Name.TheVariants.{Cert}
use Rattle.wot_keyring_spec.specs.Entry.{entry_in}
use Rattle.wot_keyring_spec.specs.Import.{◌>>=◌}
use Rattle.wot_script.specs.declared.reply.Reply.{Reply}
use Rattle.wot_plain.specs.Storing.{united}
use Rattle.wot_plain.proofs.Results.{if_ok}
use Rattle.wot_command.proofs.StoredOrRefused.{if_err, nothing_told, told_refused}
use Rattle.wot_command.proofs.stored.union_text.Goals as goal

pub returns-in-Ok-clause-text : goal.returns-in-Ok-clause-text
returns-in-Ok-clause-text c =
    let Text : List ℕ → Result (List ℕ) Reply = λ octets. Ok octets in
    if_ok c.cert_text.result _ _ (λ text e. c.in-Ok.ensures.union ∙ ap Text (sym e)) c.cert_text.ensures.text

pub returns-in-Ok-clause-reported : goal.returns-in-Ok-clause-reported
returns-in-Ok-clause-reported c = if_err c.cert_text.result _ _ (λ why e. nothing_told _ why e) c.cert_text.ensures.memory

pub returns-in-Ok-reply_to-clause-reported : goal.returns-in-Ok-reply_to-clause-reported
returns-in-Ok-reply_to-clause-reported c =
    told_refused (entry_in (Cert c.args.fpr.now) c.args.octets.now >>= united c.args.kept.now) c.in-Err.refusal
    c.in-Ok-reply_to.reply
    c.in-Err.ensures.union c.in-Ok-reply_to.ensures.reply
