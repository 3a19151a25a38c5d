-- The reply to `check`, by what is claimed.
use Rattle.std.specs.Prelude.{ℕ, List}
use Rattle.wot_cache.specs.State.{Engine, state_of}
use Rattle.wot_cache.specs.Views.{view_at}
use Rattle.wot_command.specs.declared.checking.ClaimedAbsence.{ClaimedAbsence}
use Rattle.wot_answers.specs.declared.parts.Parts.{Parts}
use Rattle.wot_script.specs.declared.reply.Reply.{Reply}
use Rattle.wot_plain.specs.Absent.{Checks, ChecksBy, asked_from}

-- the reply from a view
abbrev pub ChecksFor : Engine → List ℕ → ClaimedAbsence → Reply → Type 0
ChecksFor engine view claim reply =
    Checks (state_of engine) (view_at engine.views view) claim.target.now claim.claims.now claim.labels.now
    claim.uid.now reply

-- the reply over the parts of a view
abbrev pub ChecksOver : Parts → ClaimedAbsence → Reply → Type 0
ChecksOver parts claim reply =
    ChecksBy (asked_from parts claim.target.now claim.uid.now) claim.claims.now claim.labels.now reply
