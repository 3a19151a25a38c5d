-- The engine after the roads that borrow from it are returned.
use Rattle.std.specs.Prelude.{ℕ, List, Result}
use Rattle.std.specs.Borrow.{Fml, MutBor}
use Rattle.std.specs.Io.BufRead.{Rests}
use Rattle.wot_cache.specs.State.{Engine}
use Rattle.wot_cache.specs.Marks.{IsRefreshed}
use Rattle.wot_cache.specs.contracts.engine.Engine.{the_row}

-- The engine is left as a question from this view leaves it.
abbrev pub RestsRefreshed : {T E : Type 0} → MutBor Engine → Result T E → List ℕ → ℕ → ℕ → Fml
RestsRefreshed engine result name before after =
    Rests the_row engine (λ last. IsRefreshed result name engine.now last before after)
