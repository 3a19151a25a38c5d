-- What a policy makes of what a signature says.
use Rattle.std.specs.Prelude.{ℕ, Bool, false, ◌&&◌, if◌then◌else◌, Option}
use Rattle.std.specs.Option.{option_map_or}
use Rattle.wot_policy.specs.declared.rows.PolicyRows.{PolicyRows}
use Rattle.wot_policy.specs.Admits.{admits}
use Rattle.wot_signature.specs.declared.facts.SigFacts.{SigFacts}
use Rattle.wot_component.specs.Judged.{ask_of}

abbrev pub is_admitted_as : PolicyRows → SigFacts → Bool
is_admitted_as rows f = f.sound && admits rows (ask_of f)

abbrev pub mark_by : PolicyRows → Option SigFacts → Bool
mark_by rows said = option_map_or (is_admitted_as rows) said false

abbrev pub one_if_sound : Option SigFacts → ℕ
one_if_sound said = if option_map_or (λ f. f.sound) said false then 1 else 0
