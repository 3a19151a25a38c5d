use Rattle.std.proofs.Common.{sym, ap, ◌∙◌}
use Rattle.std.specs.Option.{option_copied}
use Rattle.wot_network.specs.Roads.{present_of}
use Rattle.wot_cache.proofs.PartsAnswer.{local_from}
use Rattle.wot_cache.proofs.present.Networked.parts.Goals as goal

pub returns-clause-local : goal.returns-clause-local
returns-clause-local c =
    let shown = sym c.find.ensures.found ∙ ap option_copied c.in-Some.is in
    let kept = sym c.find-2.ensures.found ∙ ap option_copied c.in-Some-find.is in
    local_from c.args.self.now.keyring c.args.self.now.views.entries c.args.self.now.networks.entries c.args.view.now
    c.in-Some.open.now c.in-Some-find.network.now
    (present_of c.roads.result) shown kept c.requires.ready c.roads.ensures.local
