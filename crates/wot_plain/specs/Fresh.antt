-- What a dump does in a fresh machine.
use Rattle.std.specs.Prelude.{◌≡◌, ◌<◌, ◌^◌, false, List, [], ℕ, length, codes}
use Rattle.std.specs.List.{AllByRecursion}
use Rattle.wot_io.specs.Input as inputs
use Rattle.wot_policy.specs.declared.rows.PolicyRows.{PolicyRows}
use Rattle.wot_plain.specs.declared.class.Class.{Class}
use Rattle.wot_plain.specs.declared.class.Class.TheVariants.{State as OfState}
use Rattle.wot_plain.specs.declared.class.StateCommand.TheVariants as kinds
use Rattle.wot_plain.specs.declared.class.Read.TheVariants as reads
use Rattle.wot_script.specs.declared.reply.Reply.{Reply}
use Rattle.wot_script.specs.Replies.{is_refusal}
use Rattle.wot_types.specs.Limits.{standard_limits}
use Rattle.wot_keyring.specs.Dump.{AreLines, lines_of}
use Rattle.wot_certd.specs.World.{World}
use Rattle.wot_cache.specs.State.{Engine, State, state_of}
use Rattle.wot_cache.specs.Dump.{CarriesOver, IsRestored, commands_of}
use Rattle.wot_plain.specs.Scene.{opening}
use Rattle.wot_plain.specs.Transcript.{Run}
use Rattle.wot_plain.specs.Session.{Session}

-- the line of the command `dump`
abbrev pub IsDump : List ℕ → Type 0
IsDump line = line ≡ codes "dump"

-- P holds if the command is `dump`
abbrev pub OnDump : Class → Type 0 → Type 0
OnDump (OfState (kinds.Read reads.Dump)) P = P
OnDump _ P = Unit {0}

-- the lines of a dump of this state
abbrev pub dumped : State → List (List ℕ)
dumped s = inputs.lines_of (lines_of (commands_of s))

-- The lines of a dump of this state, answered by a fresh machine, restore everything that a dump carries over, with
-- signatures judged by the policy rows, and no cursor. Each line has a reply and none is a refusal. No line uses the
-- certificate directory. They have fewer than 2^30 octets, so that one run reads them all.
pub record IsMadeAnew (rows : PolicyRows) (s : State) : Type 0 where
  pub replies : List Reply
  pub new : Session
  pub same : CarriesOver rows s new.state
  pub cursors : new.cursors ≡ []
  pub watches : new.watches ≡ []
  pub run : (world : World) → Run rows (opening world) (dumped s) replies (record { whole = new; world = world })
  pub each : length replies ≡ length (dumped s)
  pub well : AllByRecursion (λ reply. is_refusal reply ≡ false) replies
  pub size : length (lines_of (commands_of s)) < 2 ^ 30

-- For an engine with the standard limits, the contract of `Engine::dump` implies that its lines restore its state.
abbrev pub DumpMakesAnew : PolicyRows → Engine → Type 0
DumpMakesAnew rows engine =
    engine.keyring.limits ≡ standard_limits → IsRestored rows engine → AreLines (commands_of (state_of engine))
    → length (lines_of (commands_of (state_of engine))) < 2 ^ 30 → IsMadeAnew rows (state_of engine)
