use Rattle.std.proofs.Common.{sym}
use Rattle.wot_script.proofs.Sizes.{length-numbered}
use Rattle.wot_script.proofs.short.short_replies_fit.Goals as goal

pub returns-in-Some : goal.returns-in-Some
returns-in-Some c =
    λ short. length-numbered c.args.reply.now c.in-Some.number (sym c.in-Some.ensures) c.decimals_fit.ensures
