use Rattle.std.proofs.Common.{◌≡◌, ◌%◌, ◌+◌, ◌*◌, length, ap, ◌∙◌, subst, arith}
use Rattle.wot_random.specs.Words.{word}
use Rattle.wot_random.specs.Identities.{IsIdentity}
use Rattle.wot_gen.specs.Script.{changed_at, changes}
use Rattle.wot_gen.proofs.CommandsAppended.{identity_read, step_more}
use Rattle.wot_gen.proofs.commands.put_changes.Goals as goal

pub loop-round-preserved : goal.loop-round-preserved
loop-round-preserved c =
    let start = c.args.words.now.start in
    let all = c.args.identities.now in
    let count = length all in
    let round = c.loop-round.round in
    let before = c.loop-round.invariant in
    let drawn : c.draw.result ≡ word start c.loop-round.words.drawn =
    c.draw.ensures.word ∙ ap (λ s. word s c.loop-round.words.drawn) before.start_kept in
    let changed : c.draw.result % count ≡ changed_at start count round =
    ap (λ w. w % count) (drawn ∙ ap (word start) before.drawn_all) in
    let first = identity_read start count all (c.draw.result % count) c.index-identities-changed.result
    c.requires.identities (omega (arith, c.requires.some)) c.index-identities-changed.is in
    let second = identity_read start count all (10 * (round + 1)) c.index-identities-round.result c.requires.identities
    (omega (arith, c.loop-round-test.true)) c.index-identities-round.is in
    record {
      start_kept = c.draw.ensures.start ∙ before.start_kept;
      drawn_all = omega (arith, c.draw.ensures.drawn, before.drawn_all);
      put = step_more (changes start count) round c.args.commands.now.items c.loop-round.commands.items
          c.put_change.new.commands.items before.put
          (c.in_ok-put_change.ensures.put start (changed_at start count round) (10 * (round + 1))
          (subst (λ i. IsIdentity start i c.index-identities-changed.result) changed first) second);
    }
