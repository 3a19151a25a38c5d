use Rattle.std.proofs.Common.{ap, ◌∙◌, ℕ}
use Rattle.wot_edge.specs.Path.{least_left, root_left}
use Rattle.wot_check.specs.Asked.{question_of, used_in}
use Rattle.wot_check.proofs.left.left_of_path.Goals as goal

pub returns : goal.returns
returns c network e =
    let used = used_in c.args.asked.now in
    c.least.ensures
    ∙ ap (λ (n : ℕ). least_left used n c.args.steps.now)
    (c.left_of_root.ensures network ∙ ap (root_left (question_of network c.args.asked.now) used) e)
