use Rattle.std.proofs.Common.{◌≡◌, ◌++◌, ◌∷◌, [], List, ℕ, ap, sym, ◌∙◌, map}
use Rattle.std.proofs.lemmas.List.{map_push}
use Rattle.wot_cert.specs.Drafting.{body_cmp, first_stays, unite_bodies, bodies_in}
use Rattle.wot_cert.proofs.Drafts.{united-push}
use Rattle.wot_cert.proofs.draft.pour.Goals as goal

pub loop-body-preserved : goal.loop-body-preserved
loop-body-preserved c =
    let e : bodies_in c.loop-body.from ≡ bodies_in c.pop_last.new.self ++ c.in-Some.body.now ∷ [] =
    ap (map (λ b. b.now)) c.in-Some.ensures.removal ∙ map_push _ c.pop_last.new.self.keys c.in-Some.body in
    ap (λ (x : List (List ℕ)). unite_bodies x (bodies_in c.pop_last.new.self)) c.in_ok-put_body.ensures.put
    ∙ sym (united-push body_cmp first_stays (bodies_in c.loop-body.bodies) (bodies_in c.pop_last.new.self)
    c.in-Some.body.now)
    ∙ ap (unite_bodies (bodies_in c.loop-body.bodies)) (sym e) ∙ c.loop-body.invariant
