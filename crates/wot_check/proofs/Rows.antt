-- Lists that are processed from the front, and edges into a fingerprint.
use Rattle.std.proofs.Common.{◌≡◌, ◌⊎◌, inl, inr, ℕ, List, [], ◌∷◌, length, refl, sym, ap, subst, ◌∙◌, arith}
use Rattle.wot_types.specs.declared.fpr.Fpr.{Fpr}
use Rattle.wot_edge.specs.declared.edge.EdgeFacts.{EdgeFacts}
use Rattle.wot_edge.specs.Record.{Record, Has, IsRecord, edges_into}
use Rattle.wot_edge.specs.RowLaws.{row_there}

-- all elements of one list are in another
abbrev pub Within : {X : Type 0} → List X → List X → Type 0
Within {X} rest all = (x : X) → Has rest x → Has all x

pub within_first : {X : Type 0} (rest all later : List X) (x : X) → rest ≡ x ∷ later → Within rest all → Has all x
within_first {X} rest all later x e w = w x (subst (λ (xs : List X). Has xs x) (sym e) (inl refl))

pub within_later : {X : Type 0} (rest all later : List X) (x : X) → rest ≡ x ∷ later → Within rest all
    → Within later all
within_later {X} rest all later x e w y h = w y (subst (λ (xs : List X). Has xs y) (sym e) (inr h))

pub first_or_later : {X : Type 0} (rest later : List X) (x y : X) → rest ≡ x ∷ later → Has rest y
    → (y ≡ x) ⊎ Has later y
first_or_later {X} rest later x y e h = subst (λ (xs : List X). Has xs y) e h

pub none_left : {X : Type 0} (rest : List X) (x : X) → length rest ≡ 0 → Has rest x → ⊥
none_left [] x e h = h
none_left (y ∷ rest) x e h = omega (arith, e)

-- ---- edges into a fingerprint, by each record

-- these edges are among those into it
abbrev pub AreInto : (List ℕ → Record) → Fpr → List EdgeFacts → Type 0
AreInto network at edges = (id : List ℕ) → Within edges (edges_into (network id) at)

pub all_into : (network : List ℕ → Record) (at : Fpr) (edges : List EdgeFacts)
    → ((id : List ℕ) → edges ≡ edges_into (network id) at) → AreInto network at edges
all_into network at edges e id x h = subst (λ (xs : List EdgeFacts). Has xs x) (e id) h

module _ (network : List ℕ → Record) (good : (id : List ℕ) → IsRecord (network id)) (at : Fpr) where
  pub into_target : (edge : EdgeFacts) → ((id : List ℕ) → Has (edges_into (network id) at) edge) → (id : List ℕ)
      → edge.target ≡ at
  into_target edge h id =
      let r = row_there (network id) at edge (h id) in
      ap (λ (x : EdgeFacts). x.target) (sym r.2) ∙ (good id).into at r.0 r.1

  -- an edge into it is one of those into its target
  pub into_own : (edge : EdgeFacts) → ((id : List ℕ) → Has (edges_into (network id) at) edge) → (id : List ℕ)
      → Has (edges_into (network id) edge.target) edge
  into_own edge h id = subst (λ (f : Fpr). Has (edges_into (network id) f) edge) (sym (into_target edge h id)) (h id)
