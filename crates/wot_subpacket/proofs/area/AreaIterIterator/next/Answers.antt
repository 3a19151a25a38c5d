use Rattle.std.proofs.Common.{◌≡◌, [], sym, ◌∙◌, ap, rules, length}
use Rattle.wot_subpacket.specs.Seen.{seen}
use Rattle.wot_subpacket.proofs.ReadFromStart.{behind_is_list, list-first, list-end}
use Rattle.wot_subpacket.proofs.area.AreaIterIterator.next.Goals as goal

pub invariant_of-self : goal.invariant_of-self
invariant_of-self c =
    behind_is_list c.self.inside.rest.now (seen c.in-Ok.sub) c.in-Ok.behind.now c.self.invariant c.in-Ok.ensures

pub returns-in-Ok-clause-steps : goal.returns-in-Ok-clause-steps
returns-in-Ok-clause-steps c =
    sym c.self.view_is
    ∙ list-first c.self.inside.rest.now (seen c.in-Ok.sub) c.in-Ok.behind.now c.self.invariant c.in-Ok.ensures

pub returns-in-Ok-clause-goes : goal.returns-in-Ok-clause-goes
returns-in-Ok-clause-goes c =
    let fewer = ap length
    (sym c.self.view_is
    ∙ list-first c.self.inside.rest.now (seen c.in-Ok.sub) c.in-Ok.behind.now c.self.invariant
    c.in-Ok.ensures) in
    search rules

pub returns-in-Err-clause-steps : goal.returns-in-Err-clause-steps
returns-in-Err-clause-steps c =
    let none : c.args.self.now ≡ [] =
    sym c.self.view_is ∙ list-end c.self.inside.rest.now c.in-Err.field-0 c.self.invariant c.in-Err.ensures in
    (none, none)
