use Rattle.std.proofs.Common.{◌≡◌, length}
use Rattle.wot_reply_lines.specs.Claims.{is_rising}
use Rattle.wot_reply_lines.proofs.claims.rises.Given as goal

abbrev pub invariant-rest : goal.invariant-rest
invariant-rest l = is_rising l.rest ≡ is_rising l.labels

abbrev pub decreases-rest : goal.decreases-rest
decreases-rest l = length l.rest
