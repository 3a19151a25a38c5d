-- Numbers in replies: the amount of a watch, and what is stale.
use Rattle.std.specs.Prelude.{◌≢◌, ℕ, if◌then◌else◌, List, [], ◌∷◌}
use Rattle.wot_script.specs.declared.reply.Reply.{Reply}
use Rattle.wot_script.specs.declared.reply.Reply.TheVariants as replies
use Rattle.wot_table.specs.Table.{is_name}

-- the amount that this reply reports for the named watch, first or later, if it does
abbrev pub amount_in : List ℕ → Reply → List ℕ
amount_in name (replies.WatchAmount other amount) = if is_name name other then amount ∷ [] else []
amount_in name reply = []

-- if the reply says that something is stale, its two numbers differ
abbrev pub DoNumbersDiffer : Reply → Type 0
DoNumbersDiffer (replies.StaleKeyring was now) = was ≢ now
DoNumbersDiffer (replies.StaleView was now) = was ≢ now
DoNumbersDiffer reply = Unit {0}
