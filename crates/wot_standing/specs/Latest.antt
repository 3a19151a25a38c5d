-- The latest revocation, which decides as well as all of them.
use Rattle.std.specs.Prelude.{ℕ, Bool, not, ◌&&◌, ◌||◌, max, List, [], ◌∷◌, map, filter, Option, Some, None}
use Rattle.std.specs.Option.{option_map_or}
use Rattle.wot_types.specs.declared.fpr.Fpr.{Fpr}
use Rattle.wot_verdict.specs.Verdicts.{Entries}
use Rattle.wot_component.specs.Certificate.{Signature}
use Rattle.wot_cert.specs.Issuer.{counts_by}
use Rattle.wot_cert.specs.Revoked.{revokes_by, is_revocable}
use Rattle.wot_cert.specs.Time.{made_of, is_live}
use Rattle.wot_standing.specs.declared.kinds.Binding.{Binding}
use Rattle.wot_standing.specs.Kinds.{is_binding}
use Rattle.std.specs.Prelude.{true, nat_lt}

-- the greatest of the numbers, if there are any
abbrev pub latest : List ℕ → Option ℕ
latest [] = None
latest (m ∷ ms) = Some (option_map_or (max m) (latest ms) m)

-- when the latest live revocation by this key on a component was created
abbrev pub revoked_at : Entries → Fpr → ℕ → List Signature → Option ℕ
revoked_at verdicts fpr t sigs = latest (map made_of (filter (revokes_by verdicts fpr t) sigs))

-- created after it, if there is one
abbrev pub outlives : Option ℕ → ℕ → Bool
outlives None made = true
outlives (Some revoked) made = nat_lt revoked made

-- not revoked, given when the latest revocation was created
abbrev pub stays : Option ℕ → Signature → Bool
stays revoked s = not (is_revocable s) || outlives revoked (made_of s)

-- valid, given when the latest revocation was created
abbrev pub is_valid_after : Entries → Fpr → ℕ → Binding → Option ℕ → Signature → Bool
is_valid_after verdicts fpr t binding revoked s =
    is_binding binding s && (counts_by verdicts fpr s && (is_live t s && stays revoked s))
