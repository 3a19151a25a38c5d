-- When signatures are live, and which is newer.
use Rattle.std.specs.Prelude.{ℕ, ◌+◌, Bool, ◌&&◌, ◌||◌, ◌==◌, nat_le, nat_lt, map, filter}
use Rattle.std.specs.Option.{option_map_or}
use Rattle.std.specs.declared.cmp.Ordering.{Ordering}
use Rattle.std.specs.Ordering.{nat_cmp, ordering_then}
use Rattle.wot_types.specs.SigNumber.{number_cmp}
use Rattle.wot_signature.specs.declared.facts.SigFacts.{SigFacts}
use Rattle.wot_component.specs.Certificate.{Signature, Component, Certificate, said_by, sig_cmp}
use Rattle.wot_component.specs.Judged.{is_true_of}

-- when a signature was created; 0 if it doesn't say
abbrev pub made_of : Signature → ℕ
made_of s = option_map_or (λ f. f.made) (said_by s) 0

-- ---- live

-- created at t or before, and not expired at t
abbrev pub facts_live : ℕ → SigFacts → Bool
facts_live t f = nat_le f.made t && (f.lasts == 0 || nat_lt t (f.made + f.lasts))

-- whether a signature is live at t
abbrev pub is_live : ℕ → Signature → Bool
is_live t s = is_true_of (facts_live t) s

abbrev pub live_part : ℕ → Component → Component
live_part t p = record { body = p.body; sigs = filter (is_live t) p.sigs }

-- the certificate with only those signatures that are live at t
abbrev pub live_at : ℕ → Certificate → Certificate
live_at t c = record {
  key = c.key;
  direct = filter (is_live t) c.direct;
  user_ids = map (live_part t) c.user_ids;
  attributes = map (live_part t) c.attributes;
  subkeys = map (live_part t) c.subkeys;
}

-- ---- newer

-- by creation time, then number, then body
abbrev pub newness : Signature → Signature → Ordering
newness a b =
    ordering_then (nat_cmp (made_of a) (made_of b)) (ordering_then (number_cmp a.number b.number) (sig_cmp a b))
