-- A machine that was restored from a dump behaves like the one that dumped.
use Rattle.std.specs.Prelude.{◌≡◌, Bool, true, List, [], ◌∷◌, ℕ, Option, Some, None}
use Rattle.wot_policy.specs.declared.rows.PolicyRows.{PolicyRows}
use Rattle.wot_script.specs.declared.command.Command.{Command}
use Rattle.wot_script.specs.declared.reply.Reply.{Reply}
use Rattle.wot_certd.specs.World.{World}
use Rattle.wot_plain.specs.Fresh.{IsMadeAnew}
use Rattle.wot_laws.specs.Exchanges.{Exchange, Passes, lines_in}
use Rattle.wot_plain.specs.Classes.{class_of, is_own}
use Rattle.wot_plain.specs.Lines.{command_in_line}
use Rattle.wot_plain.specs.Scene.{Scene, opening}
use Rattle.wot_plain.specs.Transcript.{Run}

-- whether it is no command, or none of a cursor or of a watch
abbrev pub is_of_state : Option Command → Bool
is_of_state None = true
is_of_state (Some command) = is_own (class_of command)

-- Line by line the replies are equal, except those to commands of cursors and watches.
abbrev pub HaveSameReplies : List Exchange → List Exchange → Type 0
HaveSameReplies [] [] = Unit {0}
HaveSameReplies (e ∷ es) (f ∷ fs) =
    (is_of_state (command_in_line e.line) ≡ true → e.reply ≡ f.reply)
    × HaveSameReplies es fs
HaveSameReplies es fs = ⊥

-- From a fresh machine, lines lead to a state, which is dumped and restored. Whatever lines follow, with the same
-- certificate directory, each has the same reply from both machines.
abbrev pub FreshMachinesGoOn : PolicyRows → Type 0
FreshMachinesGoOn rows =
    (world : World) (lines : List (List ℕ)) (reported : List Reply) (last : Scene)
    → Run rows (opening world) lines reported last
    → (anew : IsMadeAnew rows last.whole.state) (mine theirs : List Exchange) (here there : Scene)
    → Passes rows last mine here → Passes rows (record { whole = anew.new; world = last.world }) theirs there
    → lines_in mine ≡ lines_in theirs → HaveSameReplies mine theirs
