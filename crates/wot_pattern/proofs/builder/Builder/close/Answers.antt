use Rattle.std.proofs.Common.{rules, arith, sym, ◌∙◌, ap, ◌≡◌, [], ◌∷◌, ◌++◌, length, suc, ◌+◌, vec_len}
use Rattle.wot_pattern.specs.Nodes.{tokens_of}
use Rattle.wot_pattern.specs.Steps.{level_so_far, outer_flags}
use Rattle.wot_pattern.proofs.BuiltNodes.{outer_no_length, outer_some, left_nodes}
use Rattle.wot_pattern.proofs.builder.Builder.close.Goals as goal

pub returns-in_default-clause-unreadable : goal.returns-in_default-clause-unreadable
returns-in_default-clause-unreadable c = λ e s b.
    let h : length (outer_flags s.outer) ≡ length c.join.new.self.outer.items =
    ap length (sym b.outer ∙ sym c.in_ok-join.ensures.outer) in
    let k : vec_len c.join.new.self.outer ≡ length c.join.new.self.outer.items = c.join.new.self.outer.ok.0 in
    let l : vec_len c.join.new.self.outer ≡ 0 = c.in_default.ensures.cases.0 in
    outer_no_length s.outer (omega arith)

pub returns-clause-builds : goal.returns-clause-builds
returns-clause-builds c = λ s b.
    let flags : outer_flags s.outer ≡ c.pop.new.self.items ++ c.in-Some.earlier ∷ [] =
    sym b.outer ∙ sym c.in_ok-join.ensures.outer ∙ c.in-Some.ensures.items in
    let (f, fs, is, same, before) = outer_some s.outer c.pop.new.self.items c.in-Some.earlier flags in (
      f,
      fs,
      is,
      record {
        nodes = left_nodes (tokens_of c.join.new.self.nodes.items) s.outer f fs (level_so_far s)
            (c.in_ok-join.ensures.joined s b) is;
        outer = same;
        earlier = before;
        last = search rules;
        levels = let h : length s.outer ≡ suc (length fs) =
            ap length is in let k : s.levels + length s.outer ≡ 64 = b.levels in omega arith;
      },
    )
