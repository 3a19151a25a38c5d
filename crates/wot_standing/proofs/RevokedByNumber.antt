-- One number decides which signatures are revoked.
use Rattle.std.proofs.Common.{◌≡◌, ℕ, Bool, true, false, cond, not, ◌&&◌, ◌||◌, List, [], ◌∷◌, map, max, Option, Some}
use Rattle.std.proofs.Common.{None, refl, sym, ap, ◌∙◌, arith}
use Rattle.std.specs.Prelude.{filter, nat_lt}
use Rattle.std.specs.List.{list_all}
use Rattle.std.specs.Option.{option_map_or}
use Rattle.std.proofs.lemmas.Bool.Decides.{nat_tests}
use Rattle.wot_types.specs.declared.fpr.Fpr.{Fpr}
use Rattle.wot_verdict.specs.Verdicts.{Entries}
use Rattle.wot_component.specs.Certificate.{Signature}
use Rattle.wot_cert.specs.Issuer.{counts_by}
use Rattle.wot_component.specs.Ranked.{greatest}
use Rattle.wot_cert.specs.Time.{made_of, is_live, newness}
use Rattle.wot_cert.specs.Revoked.{revokes_by, is_unrevoked, is_revocable}
use Rattle.wot_standing.specs.declared.kinds.Binding.{Binding}
use Rattle.wot_standing.specs.Kinds.{is_binding}
use Rattle.wot_standing.specs.Latest.{latest, revoked_at, outlives, is_valid_after}
use Rattle.wot_standing.specs.Valid.{is_valid, newest_valid}

both : (a b m : ℕ) → (nat_lt a m && nat_lt b m) ≡ nat_lt (max a b) m
both a b m = grind (arith, nat_tests)

and_true : (b : Bool) → (b && true) ≡ b
and_true true = refl
and_true false = refl

more : (a m : ℕ) (o : Option ℕ) → (nat_lt a m && outlives o m) ≡ outlives (Some (option_map_or (max a) o a)) m
more a m None = and_true (nat_lt a m)
more a m (Some b) = both a b m

all_after : (p : Signature → Bool) (m : ℕ) (rs : List Signature)
    → list_all (λ r. not (p r) || nat_lt (made_of r) m) rs ≡ outlives (latest (map made_of (filter p rs))) m
all_after p m [] = refl
all_after p m (r ∷ rs) =
    elim (p r) as
    (λ b. ((not b || nat_lt (made_of r) m) && list_all (λ r. not (p r) || nat_lt (made_of r) m) rs) ≡ outlives
    (latest (map made_of (cond b (r ∷ filter p rs) (filter p rs)))) m) [
      | true ↦ ap (λ b. nat_lt (made_of r) m && b) (all_after p m rs)
          ∙ more (made_of r) m (latest (map made_of (filter p rs)))
      | false ↦ all_after p m rs
    ]

-- A signature is unrevoked if it isn't revocable or was created after the latest revocation.
pub unrevoked-latest : (verdicts : Entries) (fpr : Fpr) (t : ℕ) (sigs : List Signature) (s : Signature)
    → is_unrevoked verdicts fpr t sigs
    s ≡ (not (is_revocable s) || outlives (revoked_at verdicts fpr t sigs) (made_of s))
unrevoked-latest verdicts fpr t sigs s =
    ap (λ b. not (is_revocable s) || b) (all_after (revokes_by verdicts fpr t) (made_of s) sigs)

filter-equal : {A : Type 0} (p q : A → Bool) → ((x : A) → p x ≡ q x) → (xs : List A) → filter p xs ≡ filter q xs
filter-equal p q h [] = refl
filter-equal p q h (x ∷ xs) = rw (h x, filter-equal p q h xs) refl

valid-latest : (verdicts : Entries) (fpr : Fpr) (t : ℕ) (binding : Binding) (sigs : List Signature) (s : Signature)
    → is_valid_after verdicts fpr t binding (revoked_at verdicts fpr t sigs) s ≡ is_valid verdicts fpr t binding sigs s
valid-latest verdicts fpr t binding sigs s =
    ap (λ b. is_binding binding s && (counts_by verdicts fpr s && (is_live t s && b)))
    (sym (unrevoked-latest verdicts fpr t sigs s))

-- The newest after the latest revocation is the newest valid one.
pub newest-latest : (verdicts : Entries) (fpr : Fpr) (t : ℕ) (binding : Binding) (sigs : List Signature)
    → greatest newness
    (filter (is_valid_after verdicts fpr t binding (revoked_at verdicts fpr t sigs)) sigs) ≡ newest_valid verdicts
    fpr t binding sigs
newest-latest verdicts fpr t binding sigs =
    ap (greatest newness)
    (filter-equal (is_valid_after verdicts fpr t binding (revoked_at verdicts fpr t sigs))
    (is_valid verdicts fpr t binding sigs) (valid-latest verdicts fpr t binding sigs) sigs)
