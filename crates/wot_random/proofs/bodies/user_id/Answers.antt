use Rattle.std.proofs.Common.{◌≡◌, ◌++◌, ◌∙◌, subst, length, ◌<◌, ◌^◌, sym, codes}
use Rattle.std.specs.Fmt.{decimal}
use Rattle.std.specs.String.{string_bytes}
use Rattle.std.proofs.lemmas.Result.{IfOk-weaker}
use Rattle.wot_random.specs.Bodies.{user_id}
use Rattle.wot_random.proofs.Shapes.{user_id_is_short, user_id_spelled}
use Rattle.wot_random.proofs.bodies.user_id.Goals as goal

pub returns-clause-uid : goal.returns-clause-uid
returns-clause-uid c =
    let index = c.args.index in
    let made : string_bytes c.in_ok-text.text ≡ codes
    "user " ++ (decimal index ++ (codes " <u" ++ (decimal index ++ codes "@example.org>"))) =
    c.in_ok-text.ensures.ok in
    IfOk-weaker c.new.result _ _ (λ uid e. e ∙ c.as_bytes.ensures.value ∙ made ∙ user_id_spelled index)
    c.new.ensures.copied

pub returns-clause-short : goal.returns-clause-short
returns-clause-short c =
    IfOk-weaker c.new.result (λ uid. uid ≡ user_id c.args.index) _
    (λ uid e. subst (λ octets. length octets < 2 ^ 32) (sym e) (user_id_is_short c.args.index c.ranges.index.fits))
    (returns-clause-uid c)
