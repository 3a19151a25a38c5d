use Rattle.std.specs.Prelude.{◌≡◌, ◌≤◌, [], length, Option}
use Rattle.std.specs.Option.{option_map_or}
use Rattle.std.proofs.Common.{arith, refl, subst}
use Rattle.wot_answers.specs.Answers.{OfView, looked_of}
use Rattle.wot_cache.specs.Consulted.{AllRestOnLeads, kept_for}
use Rattle.wot_cache.specs.State.{Engine}
use Rattle.wot_cache.proofs.ConsultsLeads.{leads_of}
use Rattle.wot_cache.proofs.engine.Engine.kept_answers.Goals as goal

pub returns-in-Some-clause-count : goal.returns-in-Some-clause-count
returns-in-Some-clause-count c =
    subst (λ (e : Engine). c.len.result ≡ length (kept_for e c.args.view.now)) c.self.view_is
    (subst (λ (o : Option OfView). c.len.result ≡ length (option_map_or (λ (v : OfView). v.entries) o []))
    c.in-Some.ensures.value c.len.ensures.count)

pub returns-in-Some-clause-looked : goal.returns-in-Some-clause-looked
returns-in-Some-clause-looked c =
    subst (λ (e : Engine). looked_of (kept_for e c.args.view.now) ≤ 1048576) c.self.view_is
    (subst (λ (o : Option OfView). looked_of (option_map_or (λ (v : OfView). v.entries) o []) ≤ 1048576)
    c.in-Some.ensures.value c.len.ensures.looked)

pub returns-in-Some-clause-leads : goal.returns-in-Some-clause-leads
returns-in-Some-clause-leads c =
    subst (λ (e : Engine). AllRestOnLeads e c.args.view.now) c.self.view_is
    (leads_of c.self.inside.networked.keyring c.self.inside.answers.entries c.args.view.now c.self.invariant.right)

pub returns-in-None-clause-count : goal.returns-in-None-clause-count
returns-in-None-clause-count c =
    subst (λ (e : Engine). 0 ≡ length (kept_for e c.args.view.now)) c.self.view_is
    (subst (λ (o : Option OfView). 0 ≡ length (option_map_or (λ (v : OfView). v.entries) o []))
    c.in-None.ensures.value refl)

pub returns-in-None-clause-looked : goal.returns-in-None-clause-looked
returns-in-None-clause-looked c =
    subst (λ (e : Engine). looked_of (kept_for e c.args.view.now) ≤ 1048576) c.self.view_is
    (subst (λ (o : Option OfView). looked_of (option_map_or (λ (v : OfView). v.entries) o []) ≤ 1048576)
    c.in-None.ensures.value (omega arith))

pub returns-in-None-clause-leads : goal.returns-in-None-clause-leads
returns-in-None-clause-leads c =
    subst (λ (e : Engine). AllRestOnLeads e c.args.view.now) c.self.view_is
    (leads_of c.self.inside.networked.keyring c.self.inside.answers.entries c.args.view.now c.self.invariant.right)
