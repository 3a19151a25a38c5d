use Rattle.std.proofs.Common.{rules, arith, ◌∙◌, ap, ◌≡◌, [], ◌∷◌, ◌++◌, length, ◌+◌, vec_len}
use Rattle.std.proofs.lemmas.List.{map-append}
use Rattle.wot_pattern.specs.Nodes.{tokens_of}
use Rattle.wot_pattern.specs.Steps.{outer_flags, flushed}
use Rattle.wot_pattern.proofs.BuiltNodes.{length-outer_flags, positive, entered_nodes}
use Rattle.wot_pattern.proofs.builder.Builder.open.Goals as goal

pub returns-then-len-ge-LEVELS-clause-unreadable : goal.returns-then-len-ge-LEVELS-clause-unreadable
returns-then-len-ge-LEVELS-clause-unreadable c = λ e s b.
    let h : length c.args.self.now.outer.items ≡ length s.outer = ap length b.outer ∙ length-outer_flags s.outer in
    let k : s.levels + length s.outer ≡ 64 = b.levels in
    let m : vec_len c.args.self.now.outer ≡ length c.args.self.now.outer.items = c.args.self.now.outer.ok.0 in
    omega arith

pub returns-clause-builds : goal.returns-clause-builds
returns-clause-builds c = λ s b.
    let h : length c.args.self.now.outer.items ≡ length s.outer = ap length b.outer ∙ length-outer_flags s.outer in
    let k : s.levels + length s.outer ≡ 64 = b.levels in
    let m : vec_len c.args.self.now.outer ≡ length c.args.self.now.outer.items = c.args.self.now.outer.ok.0 in
    let (n, is) = positive s.levels (omega arith) in
    let f = c.in_ok-flush.ensures.flat s b in (
      n,
      is,
      record {
        nodes = entered_nodes (tokens_of c.flush.new.self.nodes.items) (tokens_of c.push-2.new.self.items) s.outer
            s.earlier (flushed s.last s.branch) f.nodes (rw c.in_ok-push-2.ensures.items (simp map-append));
        outer = c.in_ok-push.ensures.items ∙ ap (λ x. x ++ c.flush.new.self.earlier ∷ []) f.outer
            ∙ ap (λ x. outer_flags s.outer ++ x ∷ []) f.earlier;
        earlier = search rules;
        last = f.last;
        levels = omega arith;
      },
    )
