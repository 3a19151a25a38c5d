-- Values before and after a call.
use denote.MutBor.{MutBor}
use denote.Triple.Both.{Both}

-- the old and the new value
pub record Ends (A : Type 0) : Type 0 where
  pub old : A
  pub new : A

-- what `tells` says of something that the call may change, before and after
abbrev pub ends : {X A : Type 0} → (X → A) → Both (MutBor X) (MutBor X) → Ends A
ends tells lent = record { old = tells lent.entry.now; new = tells lent.exit.now }

-- for things that are themselves the value
abbrev pub itself : {A : Type 0} → A → A
itself value = value
