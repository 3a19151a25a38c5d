use Rattle.std.proofs.Common.{None, ap, ◌∙◌, is_some, refl}
use Rattle.wot_verdict.specs.Kept.{short_in, verdict_in}
use Rattle.wot_verdict.proofs.Changed.{changes_at, cleared_now, kept_cleared, numbers_lessened, says_at, shorts_same}
use Rattle.wot_verdict.proofs.keeping.clear_counted.Goals as goal

pub returns : goal.returns
returns c =
    let old = c.args.held.now in
    let new = c.keep_left.new.held in
    let put = c.keep_left.ensures.put in
    let was = c.is_some-there.ensures ∙ ap is_some (c.verdict_of.ensures.verdict ∙ ap verdict_in c.get-old.ensures.held)
    in
    let says = says_at old new c.args.number.now c.without_verdict.result put None c.without_verdict.ensures.verdict in
    record {
      kept = kept_cleared old new c.args.number.now None says refl
          (numbers_lessened old new c.args.number.now c.without_verdict.result put c.get-old.result
          c.get-old.ensures.held c.without_verdict.ensures.less c.requires.kept.numbers)
          c.args.count.now c.count_without.result c.is_some-there.result c.requires.kept was c.count_without.ensures;
      cleared = cleared_now old new c.args.number.now None says refl;
      at_each = changes_at old new c.args.number.now None says;
      was_there = was;
      holders = shorts_same old new c.args.number.now c.without_verdict.result put
          (c.without_verdict.ensures.holder ∙ ap short_in c.get-old.ensures.held);
    }
