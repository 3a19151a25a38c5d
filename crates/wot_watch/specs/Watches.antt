-- Watches by name.
use Rattle.std.specs.Prelude.{ℕ, Bool, List}
use Rattle.wot_types.specs.declared.fpr.Fpr.{Fpr}
use Rattle.wot_table.specs.Table as tables
use Rattle.wot_table.specs.Table.{Table, with_changed}

-- A watch: the view that is asked, the binding, the wanted amount, and the amount last reported.
pub record Watch : Type 0 where
  pub view : List ℕ
  pub target : Fpr
  pub wanted : ℕ
  pub uid : List ℕ
  pub told : ℕ

-- the watches by name
abbrev pub Watches : Type 0
Watches = Table Watch

-- whether a watch of this name would exceed the limit of 64 watches
abbrev pub is_full : Watches → List ℕ → Bool
is_full watches name = tables.is_full 64 watches name

-- the watches after this amount was reported for that one, which is there
abbrev pub with_told : Watches → List ℕ → ℕ → Watches
with_told watches name amount = with_changed (λ watch. record watch { told = amount }) watches name
