-- Paths whose issuers are within their reach.
use Rattle.std.proofs.Common.{◌≡◌, ℕ, ◌<◌, ◌≤◌, List, [], ◌∷◌, length, sym, ap, subst, arith}
use Rattle.wot_types.specs.declared.fpr.Fpr.{Fpr}
use Rattle.wot_edge.specs.declared.path.Step.{Step}
use Rattle.wot_edge.specs.Record.{Record}
use Rattle.wot_edge.specs.Path.{Question, Use, Chain, Stands, start, step_left, least_left, root_left, asks, IsOpen}
use Rattle.wot_reach.specs.Reach.{HaveEnough, IsReach, Table, number_at}
use Rattle.wot_reach.specs.Onward.{AreOnward}
use Rattle.wot_reach.specs.declared.onward.Onward.{Onward}

-- each issuer is within its reach
abbrev pub Within : (Fpr → ℕ) → List Step → Type 0
Within reach [] = Unit {0}
Within reach (step ∷ rest) = (length rest < reach step.issuer) × Within reach rest

-- all open paths are within reach
abbrev pub Holds : (Fpr → ℕ) → Question → Use → Type 0
Holds reach q used = (steps : List Step) → IsOpen q used steps → Within reach steps

-- ---- where nothing is left out

all_within : (reach : Fpr → ℕ) → ((fpr : Fpr) → reach fpr ≡ 255) → (steps : List Step) → length steps ≤ 255
    → Within reach steps
all_within reach all [] few = tt
all_within reach all (step ∷ rest) few =
    (let e = all step.issuer in omega (arith, e, few), all_within reach all rest (omega (arith, few)))

pub open_within : (reach : Fpr → ℕ) → ((fpr : Fpr) → reach fpr ≡ 255) → (q : Question) (used : Use) → Holds reach q used
open_within reach all q used steps o = all_within reach all steps o.0.few

pub all_reach : (network : List ℕ → Record) (roots : List (Fpr × ℕ)) (reach : Fpr → ℕ) → ((fpr : Fpr) → reach fpr ≡ 255)
    → HaveEnough network roots reach
all_reach network roots reach all fpr = record {
  root = λ some. all fpr;
  edges = λ uid row has usable some. let e = all fpr in let f = all row.edge.issuer in omega (arith, e, f);
}

pub none_onward : (network : List ℕ → Record) (number : Fpr → ℕ) (onward : List Onward) → onward ≡ []
    → AreOnward network number onward
none_onward network number onward none = subst (AreOnward network number) (sym none) (λ i one lt. absurd (omega (arith, lt)))

pub everywhere_reach : (network : List ℕ → Record) (roots : List (Fpr × ℕ)) (table : Table)
    → ((fpr : Fpr) → number_at table fpr ≡ 255) → table.onward ≡ [] → IsReach network roots table
everywhere_reach network roots table all none =
    record {
      enough = all_reach network roots (number_at table) all;
      onward = none_onward network (number_at table) table.onward none;
    }

-- ---- by a table

module _ (network : List ℕ → Record) (roots : List (Fpr × ℕ)) (reach : Fpr → ℕ) (is : HaveEnough network roots reach)
    (uid : List ℕ) (target : Fpr) (used : Use) where
  abbrev q : Question
  q = asks (network uid) roots target

  -- the reach of where the rest begins is at least its length
  rest_high : (step : Step) (rest : List Step) → Stands q step rest → 0 < step_left used step
      → length rest < reach step.issuer → length rest ≤ reach (start target rest)
  rest_high step [] s pos le = omega arith
  rest_high step (next ∷ rest) s pos le =
      let amount : step.amount ≡ s.row.edge.amount = ap (λ (z : Step). z.amount) (sym s.shown) in
      let some : 0 < s.row.edge.amount = omega (arith, amount, pos) in
      let far : length (next ∷ rest) < reach s.row.edge.issuer =
      subst (λ (z : Step). length (next ∷ rest) < reach z.issuer) (sym s.shown) le in
      let deep = s.reaches.0 in
      let enough = (is (start target (next ∷ rest))).edges uid s.row s.into s.usable some in
      omega (arith, deep, far, enough)

  within_from : (most : ℕ) (steps : List Step) → Chain q steps → 0 < least_left used most steps
      → length steps ≤ reach (start target steps) → Within reach steps
  within_from most [] c pos le = tt
  within_from most (step ∷ rest) c pos le = (
    omega (arith, le),
    within_from most rest c.1 (omega (arith, pos))
        (rest_high step rest c.0 (omega (arith, pos)) (omega (arith, le))),
  )

  -- No path of positive amount has an issuer beyond its reach.
  pub reach_holds : Holds reach q used
  reach_holds steps o =
      let high = (is (start target steps)).root o.0.root in
      let few = o.0.few in
      within_from (root_left q used (start target steps)) steps o.0.chain o.1 (omega (arith, high, few))
