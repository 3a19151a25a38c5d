use Rattle.wot_cache.proofs.Onward.{closed_on, rooted_others, timed_others, turned_on}
use Rattle.wot_cache.proofs.laws.views_go_on.Goals as goal

pub returns : goal.returns
returns c = record {
  turned = λ name old new before after others revision. turned_on name old new before after others revision;
  closed = λ name old new before after others gone closing. closed_on name old new before after others gone closing;
  timed = timed_others;
  rooted = rooted_others;
}
