use Rattle.std.proofs.Common.{List, ℕ, Option, Some, None, cond, ap, ◌∙◌}
use Rattle.std.specs.Option.{option_or}
use Rattle.wot_subpacket.specs.Subpacket.{Subpacket}
use Rattle.wot_subpacket.specs.Seen.{seen}
use Rattle.wot_signature.specs.Known.{is_known_of, last_body_of}
use Rattle.wot_signature.proofs.Last.{last_body_of-or}
use Rattle.wot_signature.proofs.Walk.{walked_more}
use Rattle.wot_signature.proofs.hints.last_key_id.Goals as goal

pub loop-sub-preserved : goal.loop-sub-preserved
loop-sub-preserved c =
    walked_more (last_body_of 16)
    (λ (last : Option (List ℕ)) (s : Subpacket). option_or (cond (is_known_of 16 s) (Some s.body) None) last)
    (last_body_of-or 16)
    _ c.loop-sub.sub-iterator c.loop-sub.last (seen c.in-Some.sub) _ _ c.loop-sub.invariant c.in-Some.ensures.steps
    (c.or-last.ensures ∙ ap (λ o. option_or o c.loop-sub.last) c.key_id_of.ensures)
