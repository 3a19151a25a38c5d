-- What the calls about watches do, by what is asked of a view.
use Rattle.std.specs.Prelude.{ℕ, List, Option}
use Rattle.wot_answers.specs.declared.asked.Asked.{Asked}
use Rattle.wot_cache.specs.Basis as bases
use Rattle.wot_cache.specs.Basis.{Basis}
use Rattle.wot_cache.specs.State.{Engine, state_of}
use Rattle.wot_cache.specs.Views.{view_at}
use Rattle.wot_script.specs.declared.reply.Reply.{Reply}
use Rattle.wot_plain.specs.Watching as watching
use Rattle.wot_watch.specs.Watches.{Watches}

-- a watch of this name on what is asked was opened or refused
abbrev pub OpensFor : Engine → Watches → List ℕ → List ℕ → Asked → Reply → Watches → Type 0
OpensFor engine old name view asked reply new =
    watching.OpensOver engine old name view asked.target.now asked.wanted asked.uid.now reply new

-- it begins with this amount
abbrev pub BeginsFor : Watches → List ℕ → List ℕ → Asked → ℕ → Reply → Watches → Type 0
BeginsFor old name view asked amount reply new =
    watching.BeginsWatch old name view asked.target.now asked.wanted asked.uid.now amount reply new

-- the answer to what is asked has this amount; none if the view isn't open
abbrev pub AmountsTo : Engine → List ℕ → Asked → Option ℕ → Type 0
AmountsTo engine view asked amount =
    watching.HasAmount (state_of engine) (view_at engine.views view) asked.target.now asked.wanted
    asked.uid.now amount

-- the amount stays as long as the basis is undisturbed
abbrev pub RestsOn : Engine → Basis → List ℕ → Asked → ℕ → Type 0
RestsOn engine basis view asked amount =
    bases.RestsOn engine basis view asked.target.now asked.wanted asked.uid.now amount
