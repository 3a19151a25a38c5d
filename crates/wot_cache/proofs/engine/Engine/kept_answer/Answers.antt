use Rattle.std.specs.Prelude.{[], IfSome, Option}
use Rattle.std.specs.Option.{option_map_or}
use Rattle.std.proofs.Common.{sym, subst}
use Rattle.wot_answers.specs.Answers.{IsAmong, OfView, RestsOnLeads}
use Rattle.wot_cache.specs.Consulted.{IsKeptFor}
use Rattle.wot_cache.specs.State.{Engine}
use Rattle.wot_answers.specs.CaseLaws.{if_some}
use Rattle.wot_answers.specs.RightLaws.{right_found}
use Rattle.wot_cache.proofs.engine.Engine.kept_answer.Goals as goal

pub returns-in-Some : goal.returns-in-Some
returns-in-Some c =
    let k = c.self.inside.networked.keyring in
    let right = c.kept.ensures.right k (right_found k c.self.inside.answers.entries c.args.view.now
    c.in-Some.of_view.now c.self.invariant.right (sym c.in-Some.ensures.value)) in
    record {
      leads = subst (λ (e : Engine). IfSome c.kept.result (λ kept. RestsOnLeads e.keyring kept.now)) c.self.view_is
          (if_some c.kept.result _ _ (λ kept is. is.leads) right);
      kept = subst (λ (e : Engine). IfSome c.kept.result (λ kept. IsKeptFor e c.args.view.now kept.now)) c.self.view_is
          (subst (λ (o : Option OfView). IfSome c.kept.result
          (λ kept. IsAmong (option_map_or (λ (v : OfView). v.entries) o []) kept.now)) c.in-Some.ensures.value
          c.kept.ensures.found);
    }
