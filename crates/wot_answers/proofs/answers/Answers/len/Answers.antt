use Rattle.std.specs.Prelude.{ℕ, ◌≤◌}
use Rattle.std.proofs.Common.{sym, subst}
use Rattle.wot_answers.specs.Answers.{OfView, looked_of}
use Rattle.wot_answers.proofs.answers.Answers.len.Goals as goal

pub returns-clause-looked : goal.returns-clause-looked
returns-clause-looked c =
    subst (λ (v : OfView). looked_of v.entries ≤ 1048576) c.self.view_is
    (subst (λ (n : ℕ). n ≤ 1048576) (sym c.self.invariant.counted) c.self.invariant.bounded)
