-- Bounds that moments narrow.
use Rattle.std.specs.Prelude.{◌≡◌, ℕ, ◌+◌, nat_lt, max, List, ◌∷◌, ◌++◌, filter}
use Rattle.wot_kept_signature.specs.declared.said.Times.{Times}
use Rattle.wot_cert.specs.declared.spans.Bounds.{Bounds}
use Rattle.wot_cert.specs.Span.{begin_of, least, unless_zero}

pub record Narrowed (old new : Bounds) (moments : List ℕ) (t : ℕ) : Type 0 where
  pub from : new.from ≡ max old.from (begin_of moments t)
  pub until : new.until ≡ least old.until (filter (λ m. nat_lt t m) moments)

-- the moments of `facts_moments`, from the times alone
abbrev pub times_moments : ℕ → Times → List ℕ
times_moments created times =
    times.made ∷ unless_zero times.lasts (times.made + times.lasts)
    ++ unless_zero times.key_lasts (created + times.key_lasts)
