-- The replies to `ask` and `absence`, by what is asked of a view.
use Rattle.std.specs.Prelude.{ℕ, List}
use Rattle.wot_answers.specs.declared.asked.Asked.{Asked}
use Rattle.wot_cache.specs.State.{Engine, state_of}
use Rattle.wot_cache.specs.Views.{view_at}
use Rattle.wot_script.specs.declared.reply.Reply.{Reply}
use Rattle.wot_plain.specs.Absent.{Misses}
use Rattle.wot_plain.specs.Answer.{Asks}

-- the reply to `ask`
abbrev pub AsksFor : Engine → List ℕ → Asked → Reply → Type 0
AsksFor engine view asked reply =
    Asks (state_of engine) (view_at engine.views view) asked.target.now asked.wanted asked.uid.now reply

-- the reply to `absence`
abbrev pub MissesFor : Engine → List ℕ → Asked → Reply → Type 0
MissesFor engine view asked reply =
    Misses (state_of engine) (view_at engine.views view) asked.target.now asked.wanted asked.uid.now reply
