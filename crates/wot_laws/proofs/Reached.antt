-- Reached states are well-formed.
use Rattle.std.proofs.Common.{ℕ, List}
use Rattle.wot_policy.specs.declared.rows.PolicyRows.{PolicyRows}
use Rattle.wot_script.specs.declared.reply.Reply.{Reply}
use Rattle.wot_certd.specs.World.{World}
use Rattle.wot_laws.proofs.Named.{AreNamed, named_all, named_without}
use Rattle.wot_laws.proofs.Stays.{run_stays}
use Rattle.wot_plain.specs.Scene.{Scene, opening}
use Rattle.wot_plain.specs.Transcript.{Run}

pub reached_can_be : (rows : PolicyRows) (world : World) (lines : List (List ℕ)) (replies : List Reply) (s : Scene) →
    Run rows (opening world) lines replies s → AreNamed s.whole.state.held.certs
reached_can_be rows world lines replies s run = run_stays rows AreNamed (named_all rows) named_without lines
    (opening world) replies s tt run
