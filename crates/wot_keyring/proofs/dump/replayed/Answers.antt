use Rattle.wot_keyring.proofs.Replay.{restored}
use Rattle.wot_keyring.proofs.dump.replayed.Goals as goal

pub returns : goal.returns
returns c = restored (record {
  read_back = c.read_back.ensures;
  same_text = c.marks_weigh_nothing.ensures.judged_text;
  same_count = c.marks_weigh_nothing.ensures.judged_signatures;
  anew = c.judging.ensures.unmarked;
})
