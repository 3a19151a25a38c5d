-- Every signature in a reached state has the mark that the policy rows give it.
use Rattle.std.specs.Prelude.{◌≡◌, ℕ, List}
use Rattle.wot_policy.specs.declared.rows.PolicyRows.{PolicyRows}
use Rattle.wot_keyring.specs.Dump.{judged_by}
use Rattle.wot_script.specs.declared.reply.Reply.{Reply}
use Rattle.wot_certd.specs.World.{World}
use Rattle.wot_plain.specs.Scene.{Scene, opening}
use Rattle.wot_plain.specs.Transcript.{Run}

-- In each state to which lines lead from a fresh machine, judging the signatures again by the rows changes nothing.
abbrev pub StayJudged : PolicyRows → Type 0
StayJudged rows =
    (world : World) (lines : List (List ℕ)) (replies : List Reply) (last : Scene)
    → Run rows (opening world) lines replies last → judged_by rows last.whole.state.held ≡ last.whole.state.held
