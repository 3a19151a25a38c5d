use Rattle.std.proofs.Common.{rules, Bool, sym, ◌∙◌, ap, ◌≡◌, [], length, List, ℕ, vec_len}
use Rattle.wot_pattern.specs.Nodes.{tokens_of}
use Rattle.wot_pattern.specs.Steps.{State, Builds, level_so_far, outer_flags}
use Rattle.wot_pattern.proofs.BuiltNodes.{outer_no_length, outer_empty}
use Rattle.wot_pattern.proofs.builder.Builder.finish.Goals as goal

no_length : (xs ys : List Bool) (n : ℕ) → ys ≡ xs → n ≡ length xs → n ≡ 0 → length ys ≡ 0
no_length xs ys n e f g = ap length e ∙ sym f ∙ g

pub from_nodes-requires : goal.from_nodes-requires
from_nodes-requires c =
    let s : State = c.requires.0 in
    let b : Builds c.args.self s = c.requires.1 in (
      level_so_far s,
      outer_empty (tokens_of c.join.new.self.nodes.items) s.outer (level_so_far s) (c.in_ok-join.ensures.joined s b)
          (outer_no_length s.outer
          (no_length c.join.new.self.outer.items (outer_flags s.outer) (vec_len c.join.new.self.outer)
          (sym b.outer ∙ sym c.in_ok-join.ensures.outer) c.join.new.self.outer.ok.0 (search rules))),
    )

pub returns-clause-whole : goal.returns-clause-whole
returns-clause-whole c = λ s b.
    let none : s.outer ≡ [] =
    outer_no_length s.outer
    (no_length c.join.new.self.outer.items (outer_flags s.outer) (vec_len c.join.new.self.outer)
    (sym b.outer ∙ sym c.in_ok-join.ensures.outer) c.join.new.self.outer.ok.0 (search rules)) in (
      none,
      c.from_nodes.ensures (level_so_far s)
          (outer_empty (tokens_of c.join.new.self.nodes.items) s.outer (level_so_far s)
          (c.in_ok-join.ensures.joined s b)
          none),
    )
