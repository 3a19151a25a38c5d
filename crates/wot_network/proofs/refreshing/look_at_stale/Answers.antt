use Rattle.wot_network.proofs.Settled.{but_changed}
use Rattle.wot_network.proofs.refreshing.look_at_stale.Goals as goal

pub look_at_changed-requires-clause-others : goal.look_at_changed-requires-clause-others
look_at_changed-requires-clause-others c =
    but_changed c.args.at.now.keyring.now c.args.at.now.t c.args.count c.args.lines.now.entries c.args.window.now
    c.in-Some.changed.now c.requires.kept.unbroken c.in-Some.ensures.inside c.requires.known c.requires.stamped
    c.in-Some.ensures.since
