-- What holds at every time of a span.
use Rattle.std.specs.Prelude.{◌≡◌, ℕ}
use Rattle.wot_cert.specs.declared.moments.Span.{Span}
use Rattle.wot_cert.specs.Span.{InSpan}

-- what holds at t holds at every time of the span
abbrev pub IsThroughout : {A : Type 0} → Span → (ℕ → A) → A → Type 0
IsThroughout span at now = (u : ℕ) → InSpan span u → at u ≡ now
