use Rattle.std.proofs.Common.{ℕ, sym, ap, ◌∙◌}
use Rattle.rand_xoshiro.specs.SplitMix64.{mix_u64}
use Rattle.wot_random.specs.Words.{word}
use Rattle.wot_random.proofs.WordLaws.{state_after_more}
use Rattle.wot_random.proofs.words.Words.draw.Goals as goal

pub invariant_of-self : goal.invariant_of-self
invariant_of-self c = record {
  in_place =
      ap (λ (p : ℕ × ℕ). p.1) c.next_word-drawn.ensures
      ∙ ap (λ x. (mix_u64 x).1) c.args.self.now.in_place
      ∙ sym (state_after_more c.args.self.now.start c.args.self.now.drawn);
}

pub returns-clause-word : goal.returns-clause-word
unfolding word
returns-clause-word c =
    ap (λ (p : ℕ × ℕ). p.0) c.next_word-drawn.ensures ∙ ap (λ x. (mix_u64 x).0) c.args.self.now.in_place
