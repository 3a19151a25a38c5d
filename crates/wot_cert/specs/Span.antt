-- The moments at which something may change, and the spans between them.
use Rattle.std.specs.Prelude.{◌≡◌, ℕ, ◌+◌, ◌-◌, ◌≤◌, ◌^◌, ◌==◌, nat_le, nat_lt, max, min, if◌then◌else◌}
use Rattle.std.specs.Prelude.{List, [], ◌∷◌, ◌++◌, filter}
use Rattle.std.specs.List.{AllByRecursion, flat_map}
use Rattle.std.specs.Option.{option_map_or}
use Rattle.wot_key.specs.Key.{created_in}
use Rattle.wot_signature.specs.declared.facts.SigFacts.{SigFacts}
use Rattle.wot_cert.specs.declared.moments.Span.{Span}
use Rattle.wot_component.specs.Certificate.{Signature, Certificate, said_by}
use Rattle.wot_component.specs.Counts.{all_sigs}
use Rattle.wot_cert.specs.Time.{is_live}

abbrev pub created_of : Certificate → ℕ
created_of c = created_in c.key

-- a moment, if the period that leads to it isn't 0
abbrev pub unless_zero : ℕ → ℕ → List ℕ
unless_zero said moment = if said == 0 then [] else moment ∷ []

-- when it was created, when it expires, and when it makes the key expire
abbrev pub facts_moments : ℕ → SigFacts → List ℕ
facts_moments created f =
    f.made ∷ unless_zero f.lasts (f.made + f.lasts) ++ unless_zero f.key_lasts (created + f.key_lasts)

abbrev pub sig_moments : ℕ → Signature → List ℕ
sig_moments created s = option_map_or (facts_moments created) (said_by s) []

abbrev pub moments_of : Certificate → List ℕ
moments_of c = created_of c ∷ flat_map (sig_moments (created_of c)) (all_sigs c)

-- the greatest of the numbers, or 0 if there is none
abbrev pub most : List ℕ → ℕ
most [] = 0
most (m ∷ ms) = max m (most ms)

-- the least of the numbers and a top
abbrev pub least : ℕ → List ℕ → ℕ
least top [] = top
least top (m ∷ ms) = min m (least top ms)

-- the greatest moment at or before t
abbrev pub begin_of : List ℕ → ℕ → ℕ
begin_of moments t = most (filter (λ m. nat_le m t) moments)

-- one before the least moment after t, and at most the last time that is
abbrev pub end_of : List ℕ → ℕ → ℕ
end_of moments t = least (2 ^ 32) (filter (λ m. nat_lt t m) moments) - 1

-- the span of t
abbrev pub span_of : Certificate → ℕ → Span
span_of c t = record { from = begin_of (moments_of c) t; to = end_of (moments_of c) t }

-- Both ends are in the span.
pub record InSpan (span : Span) (t : ℕ) : Type 0 where
  pub from : span.from ≤ t
  pub to : t ≤ span.to

-- Each signature of the certificate is live at both times or at neither.
abbrev pub AreLiveAlike : Certificate → ℕ → ℕ → Type 0
AreLiveAlike c t u = AllByRecursion (λ s. is_live t s ≡ is_live u s) (all_sigs c)
