use Rattle.std.proofs.Common.{ap, ◌∙◌, map}
use Rattle.wot_cert.proofs.Drafts.{put_key}
use Rattle.wot_cert.proofs.draft.put_body.Goals as goal

pub returns : goal.returns
returns c = record
    { put = ap (map (λ b. b.now)) c.in_ok-insert.ensures.keys ∙ put_key c.args.body c.args.bodies.now.keys }
