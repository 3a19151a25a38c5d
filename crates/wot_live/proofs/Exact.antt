-- The edge of an issuer and a user ID in a list of edges.
use Rattle.std.proofs.Common.{◌≡◌, ℕ, ◌+◌, Bool, true, false, cond, List, [], ◌∷◌, ◌++◌, Option}
use Rattle.std.proofs.Common.{Some, None, refl, sym, ◌∙◌, arith}
use Rattle.std.specs.declared.cmp.Ordering.TheVariants.{Equal}
use Rattle.std.specs.Prelude.{◌==◌}
use Rattle.std.specs.List.{AllByRecursion, cons_option, filter_map, list_any}
use Rattle.std.specs.Option.{option_and_then, option_map, option_or}
use Rattle.std.proofs.lemmas.Bool.{and_parts}
use Rattle.std.proofs.lemmas.Bool.Decides.{nat_tests}
use Rattle.wot_types.specs.declared.fpr.Fpr.{Fpr}
use Rattle.wot_types.specs.Fpr.{same_fpr}
use Rattle.wot_types.specs.FprLaws.{same_fpr-true}
use Rattle.wot_signature.specs.declared.facts.SigFacts.{SigFacts}
use Rattle.wot_verdict.specs.Verdicts.{Entries}
use Rattle.wot_component.specs.Certificate.{Signature, Component, said_by}
use Rattle.wot_cert.specs.Issuer.{counts_by}
use Rattle.wot_edge.specs.declared.edge.EdgeFacts.{EdgeFacts}
use Rattle.wot_edge.specs.Order.{edge_cmp}
use Rattle.wot_standing.specs.Standing.{newest_certification}
use Rattle.wot_live.specs.Edge.{edge_facts, edge_by, signature_place}
use Rattle.wot_live.specs.Rows.{edge_at, is_edge_of}
use Rattle.wot_live.proofs.Orders.{edge_tied}

-- ---- an edge of a list in order

pub equal-true : (a b : ℕ) → (a == b) ≡ true → a ≡ b
equal-true a b e = grind (arith, nat_tests)

-- Two edges of one issuer and user ID compare as equal.
pub tied : (issuer : Fpr) (uid : ℕ) (e y : EdgeFacts) → is_edge_of issuer uid e ≡ true →
    is_edge_of issuer uid y ≡ true → edge_cmp e y ≡ Equal
tied issuer uid e y f g =
    let a = and_parts (same_fpr e.issuer issuer) (e.uid == uid) f in
    let b = and_parts (same_fpr y.issuer issuer) (y.uid == uid) g in
    edge_tied e y (same_fpr-true e.issuer issuer a.0 ∙ sym (same_fpr-true y.issuer issuer b.0))
    (equal-true e.uid uid a.1 ∙ sym (equal-true y.uid uid b.1))

-- ---- edges of one user ID

-- what every edge of an issuer on a user ID is
pub record IsEdge (issuer target : Fpr) (uid : ℕ) (e : EdgeFacts) : Type 0 where
  pub issuer_is : e.issuer ≡ issuer
  pub target_is : e.target ≡ target
  pub uid_is : e.uid ≡ uid

pub edge_by-is : (issuer target : Fpr) (uid : ℕ) (sigs : List Signature) (o : Option Signature) (e : EdgeFacts) →
    option_and_then (edge_by issuer target uid sigs) o ≡ Some e → IsEdge issuer target uid e
edge_by-is issuer target uid sigs None e h = absurd cc
edge_by-is issuer target uid sigs (Some s) e h = by (said_by s) h
  where
    by : (f : Option SigFacts) → option_map (edge_facts issuer target uid (signature_place s sigs)) f ≡ Some e →
        IsEdge issuer target uid e
    by None g = absurd cc
    by (Some f) g = record { issuer_is = cc; target_is = cc; uid_is = cc }

pub all_filter_map : {A : Type 0} (P : EdgeFacts → Type 0) (f : A → Option EdgeFacts) →
    ((x : A) (e : EdgeFacts) → f x ≡ Some e → P e) → (xs : List A) → AllByRecursion P (filter_map f xs)
all_filter_map P f h [] = tt
all_filter_map P f h (x ∷ xs) = by (f x) refl (all_filter_map P f h xs)
  where
    by : (o : Option EdgeFacts) → f x ≡ o → AllByRecursion P (filter_map f xs) →
        AllByRecursion P (cons_option o (filter_map f xs))
    by None e rest = rest
    by (Some y) e rest = (h x y e, rest)

pub all_append : (P Q : EdgeFacts → Type 0) → ((e : EdgeFacts) → Q e → P e) → (es fs : List EdgeFacts) →
    AllByRecursion Q es → AllByRecursion P fs → AllByRecursion P (es ++ fs)
all_append P Q f [] fs h g = g
all_append P Q f (e ∷ es) fs h g = (f e h.0, all_append P Q f es fs h.1 g)

pub all_then : (P Q : EdgeFacts → Type 0) → ((e : EdgeFacts) → P e → Q e) → (es : List EdgeFacts) →
    AllByRecursion P es → AllByRecursion Q es
all_then P Q f [] h = tt
all_then P Q f (e ∷ es) h = (f e h.0, all_then P Q f es h.1)

-- ---- the edge of an issuer and a user ID

-- An issuer for whom no signature on a user ID counts has no certification there.
abbrev pub OnlyCounting : Entries → ℕ → Type 0
OnlyCounting verdicts t = (issuer : Fpr) (uid : Component) → list_any (counts_by verdicts issuer) uid.sigs ≡ false →
    newest_certification verdicts issuer t uid ≡ None

pub equal-refl : (n : ℕ) → (n == n) ≡ true
equal-refl n = grind (arith, nat_tests)

pub none_of : (b : Bool) (o : Option EdgeFacts) → o ≡ None → cond b o None ≡ None
none_of true o e = e
none_of false o e = refl

pub at_append : (issuer : Fpr) (uid : ℕ) (es fs : List EdgeFacts) → edge_at (es ++ fs) issuer uid ≡ option_or
    (edge_at es issuer uid) (edge_at fs issuer uid)
at_append issuer uid [] fs = refl
at_append issuer uid (e ∷ es) fs =
    elim (is_edge_of issuer uid e) as (λ b. cond b (Some e) (edge_at (es ++ fs) issuer uid) ≡ option_or
    (cond b (Some e) (edge_at es issuer uid)) (edge_at fs issuer uid)) [
      | true ↦ refl
      | false ↦ at_append issuer uid es fs
    ]
