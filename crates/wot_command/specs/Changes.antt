-- What a change of what is held, or of a view, makes of the engine, and its reply.
use Rattle.std.specs.Prelude.{ℕ, List}
use Rattle.wot_policy.specs.declared.rows.PolicyRows.{PolicyRows}
use Rattle.wot_script.specs.declared.reply.Reply.{Reply}
use Rattle.wot_cache.specs.State.{Engine, state_of}
use Rattle.wot_plain.specs.declared.class.Change.{Change}
use Rattle.wot_plain.specs.declared.class.ViewChange.{ViewChange}
use Rattle.wot_plain.specs.Classes.{change_of, view_change_of}
use Rattle.wot_plain.specs.LineStep.{ComesTo}

abbrev pub ChangesTo : PolicyRows → Engine → Change → Reply → Engine → Type 0
ChangesTo rows old change reply new = ComesTo (change_of rows (state_of old) change) reply (state_of new)

abbrev pub ViewChangesTo : Engine → List ℕ → ViewChange → Reply → Engine → Type 0
ViewChangesTo old view change reply new = ComesTo (view_change_of (state_of old) view change) reply (state_of new)
