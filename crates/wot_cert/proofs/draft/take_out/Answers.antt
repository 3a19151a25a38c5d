use Rattle.std.proofs.Common.{ap, ◌∙◌, map}
use Rattle.wot_cert.specs.Drafting.{groups_in}
use Rattle.wot_cert.proofs.Drafts.{remove_seen, found_some, found_none}
use Rattle.wot_cert.proofs.draft.take_out.Goals as goal

pub returns-in-Some-clause-groups : goal.returns-in-Some-clause-groups
returns-in-Some-clause-groups c =
    ap groups_in c.remove.ensures.entries ∙ remove_seen c.args.body c.args.groups.now.entries

pub returns-in-None-clause-groups : goal.returns-in-None-clause-groups
returns-in-None-clause-groups c =
    ap groups_in c.remove.ensures.entries ∙ remove_seen c.args.body c.args.groups.now.entries

pub returns-in-Some-clause-sigs : goal.returns-in-Some-clause-sigs
returns-in-Some-clause-sigs c = found_some c.args.body c.args.groups.now.entries c.in-Some.sigs c.in-Some.ensures.value

pub returns-in-None-clause-sigs : goal.returns-in-None-clause-sigs
returns-in-None-clause-sigs c =
    ap (map (λ b. b.now)) c.new.ensures.empty ∙ found_none c.args.body c.args.groups.now.entries c.in-None.ensures.value
