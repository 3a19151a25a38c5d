use Rattle.std.proofs.Common.{◌≡◌, ◌+◌, ◌∙◌, [], ◌∷◌, ◌++◌, ap, length, arith}
use Rattle.wot_random.specs.Certifications.{certification_by, drawn_before}
use Rattle.wot_random.proofs.ThreeCertifications.{three_made}
use Rattle.wot_random.proofs.certification.certifications.Goals as goal

pub returns-clause-made : goal.returns-clause-made
returns-clause-made c =
    let start = c.args.words.now.start in
    let index = c.args.index in
    let drawn = drawn_before (length c.args.identities.now) index in
    let one = c.in_ok-certify.ensures.made ∙ ap (λ d. certification_by start d index 1) c.requires.drawn in
    let two = c.in_ok-certify-2.ensures.made
    ∙ ap (λ s. certification_by s c.certify.new.words.drawn index 2) c.certify.ensures.start
    ∙ ap (λ d. certification_by start d index 2) (c.certify.ensures.drawn ∙ ap (λ d. d + 2) c.requires.drawn) in
    let third : c.certify-2.new.words.drawn ≡ drawn + 4 =
    omega (arith, c.certify-2.ensures.drawn, c.certify.ensures.drawn, c.requires.drawn) in
    let three = c.in_ok-certify-3.ensures.made
    ∙ ap (λ s. certification_by s c.certify-2.new.words.drawn index 3) (c.certify-2.ensures.start
    ∙ c.certify.ensures.start)
    ∙ ap (λ d. certification_by start d index 3) third in
    let all = three_made start (length c.args.identities.now) index _ _ _ (omega (arith, c.if-index-eq0.false)) one two
    three in
    let first : c.push.new.self.items ≡ [] ++ c.in_ok-certify.field-0 ∷ [] =
    c.in_ok-push.ensures.items ∙ ap (λ made. made ++ c.in_ok-certify.field-0 ∷ []) c.new-made.ensures.items in
    let second = c.in_ok-push-2.ensures.items ∙ ap (λ made. made ++ c.in_ok-certify-2.field-0 ∷ []) first in
    c.in_ok-push-3.ensures.items ∙ ap (λ made. made ++ c.in_ok-certify-3.field-0 ∷ []) second ∙ all
