use Rattle.wot_answers.proofs.recall.kept_now.Goals as goal

pub returns : goal.returns
returns c = record {
  kept = rw (c.in_ok-uid.ensures.copied, c.in_ok-answer.ensures.same, c.changes.ensures.changes);
}
