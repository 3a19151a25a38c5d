use Rattle.std.proofs.Common.{ℕ, List, ◌++◌, ap, ◌∙◌, refl}
use Rattle.wot_policy.specs.Kept.{rows_of}
use Rattle.wot_gen.specs.Script.{commands_of, text_of}
use Rattle.wot_gen.specs.Summary.{summary_text}
use Rattle.wot_gen.specs.declared.summary.Summary.{Summary}
use Rattle.wot_engine.proofs.Summary.{summed}
use Rattle.wot_engine.proofs.generated.summary_of.Goals as goal

pub returns-clause-summary : goal.returns-clause-summary
returns-clause-summary g c =
    let text = text_of (commands_of c.args.start c.args.count) in
    let summary : Summary = record {
      start = c.args.start;
      count = c.args.count;
      lines = c.in_ok-lines.lines;
      amounts = c.play.new.tally.amounts;
      digest = c.digest-digest.result;
    } in
    summed (rows_of c.args.policy.now) c.args.start c.args.count c.in_ok-lines.lines c.play.new.tally.amounts
    c.digest-digest.result c.put_summary.new.out.items c.deref.result.now
    c.play.new.tally summary c.in_ok-lines.ensures.read_back
    (c.deref.ensures.value ∙ c.in_ok-lines.ensures.appended ∙ ap (λ (x : List ℕ). x ++ text) c.new-text.ensures.items)
    c.in_ok-lines.ensures.lines c.in_ok-play.ensures.played refl c.digest-digest.ensures refl
    (c.in_ok-put_summary.ensures.put
    ∙ ap (λ (x : List ℕ). x ++ summary_text summary) c.new-out.ensures.items)

pub play-requires-clause-none : goal.play-requires-clause-none
play-requires-clause-none g c = c.new-tally.ensures.none

pub play-requires-clause-amounts : goal.play-requires-clause-amounts
play-requires-clause-amounts g c = c.new-tally.ensures.amounts
