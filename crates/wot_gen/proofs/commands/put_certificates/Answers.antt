use Rattle.std.proofs.Common.{◌≡◌, ◌++◌, length, ap, ◌∙◌, arith}
use Rattle.wot_random.specs.Certifications.{certifications_at}
use Rattle.wot_gen.specs.Script.{certificate_commands}
use Rattle.wot_gen.proofs.CommandsAppended.{identity_read, step_more}
use Rattle.wot_gen.proofs.commands.put_certificates.Goals as goal

pub loop-index-preserved : goal.loop-index-preserved
loop-index-preserved c =
    let start = c.args.words.now.start in
    let all = c.args.identities.now in
    let count = length all in
    let index = c.loop-index.index in
    let before = c.loop-index.invariant in
    let is = identity_read start count all index c.index-identities-index.result c.requires.identities
    (omega (arith, c.loop-index-test.true)) c.index-identities-index.is in
    let made : c.deref.result.now ≡ certifications_at start count index =
    c.deref.ensures.value ∙ c.in_ok-made.ensures.made ∙ ap (λ s. certifications_at s count index) before.start_kept in
    record {
      start_kept = c.certifications.ensures.start ∙ before.start_kept;
      drawn_all = c.in_ok-made.ensures.drawn;
      put = step_more (λ i. certificate_commands start i (certifications_at start count i)) index
          c.args.commands.now.items c.loop-index.commands.items c.put_certificate.new.commands.items before.put
          (c.in_ok-put_certificate.ensures.put start index is
          ∙ ap (λ own. c.loop-index.commands.items ++ certificate_commands start index own) made);
    }
