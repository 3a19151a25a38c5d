use Rattle.std.proofs.lemmas.Result.{IfOk-weaker}
use Rattle.wot_gen.proofs.CommandsAppended.{certificate_put}
use Rattle.wot_gen.proofs.commands.put_certificate.Goals as goal

pub returns : goal.returns
returns c = record {
  put = λ start index is.
      IfOk-weaker c.put_verdicts.result _ _
      (λ _ e. certificate_put start index c.args.identity.now c.args.certifications.now c.args.commands.now.items
      c.put_verdicts.new.commands.items is
      (cc (e, c.in_ok-push-2.ensures.items, c.in_ok-push.ensures.items, c.in_ok-packets.ensures)))
      c.put_verdicts.ensures.put;
}
