use Rattle.std.proofs.Common.{◌∙◌}
use Rattle.wot_reach.proofs.onward.is_usable_too.Goals as goal

pub returns : goal.returns
returns g c =
    record { usable = λ yes. (c.if-not-usable.false, λ uid row h e. c.usable.ensures.usable uid row h e ∙ yes) }
