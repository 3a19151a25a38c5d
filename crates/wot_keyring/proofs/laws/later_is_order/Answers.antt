use Rattle.wot_index.proofs.Later.{later_itself, later_further}
use Rattle.wot_keyring.proofs.laws.later_is_order.Goals as goal

pub returns : goal.returns
returns c = record { itself = later_itself; further = later_further }
