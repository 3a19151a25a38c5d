-- The edges into one fingerprint, one after the other.
use Rattle.std.proofs.Common.{◌≡◌, ◌⊎◌, inl, inr, ℕ, suc, zero, ◌+◌, ◌<◌, ◌≤◌, Bool, cond, List, [], ◌∷◌, length}
use Rattle.std.proofs.Common.{get_or, drop, refl, sym, ap, subst, ◌∙◌, arith, true, le-leb}
use Rattle.std.specs.Prelude.{nat_le}
use Rattle.std.proofs.lemmas.Bool.{and_from}
use Rattle.std.proofs.lemmas.List.{drop_more, drop_all}
use Rattle.wot_types.specs.declared.fpr.Fpr.{Fpr}
use Rattle.wot_edge.specs.declared.edge.EdgeFacts.{EdgeFacts}
use Rattle.wot_edge.specs.declared.path.Step.{Step}
use Rattle.wot_edge.specs.DemandLaws.{suc-zero}
use Rattle.wot_edge.specs.Record.{Record, Row, Has, rows_into, edges_into}
use Rattle.wot_edge.specs.Path.{Reaches, start, step_of, step_left}
use Rattle.wot_first_path.specs.declared.reached.Reached.{Reached}
use Rattle.wot_first_path.specs.Quest.{Quest}
use Rattle.wot_first_path.specs.Suffix.{Found, Kept, width}
use Rattle.wot_first_path.specs.Choice.{node_width}
use Rattle.wot_first_path.specs.Layer.{Covered, IsGrowing, Onward}
use Rattle.wot_first_path.specs.Looked.{IsSeen, IsNear, Widens}
use Rattle.wot_reach.specs.Onward.{leads_on}
use Rattle.wot_first_path.specs.Reached.{look}
use Rattle.wot_first_path.specs.Growth.{IsRest, Advances, IsTaken, IsNoted, AreTaken, wide_of}
use Rattle.wot_edge.specs.RowLaws.{row_there, row_edge}
use Rattle.wot_first_path.proofs.Layers.{onward_refl, onward_trans}

-- an edge that may come before others leads on
leads : (quest : Quest) (row : Row) (rest : List Step) → 0 < length rest → Reaches quest.question row rest
    → length rest < quest.reach row.edge.issuer → leads_on quest.reach row.edge ≡ true
leads quest row [] some r far = absurd (omega (arith, some))
leads quest row (next ∷ rest) some r far =
    let deep = r.0 in
    and_from (nat_le 1 row.edge.depth) (nat_le 2 (quest.reach row.edge.issuer))
    (le-leb 1 row.edge.depth (omega (arith, deep))) (le-leb 2 (quest.reach row.edge.issuer) (omega (arith, far)))

-- each edge into a fingerprint that may matter before this many others is one of these
abbrev pub HasAllBefore : Quest → ℕ → Fpr → List EdgeFacts → Type 0
HasAllBefore quest size at edges =
    (edge : EdgeFacts) → Has (edges_into quest.question.network at) edge → (0 < size → leads_on quest.reach edge ≡ true)
    → Has edges edge

-- the width of the rest
pub width_is : (quest : Quest) (found : Found) (size : ℕ) (at : Fpr) (rest : List Step) → Kept quest found rest
    → length rest ≡ size → start quest.question.target rest ≡ at → width quest.used rest ≡ wide_of size (found at)
width_is quest found size at [] k l e = subst (λ (n : ℕ). width quest.used [] ≡ wide_of n (found at)) l refl
width_is quest found size at (x ∷ xs) k l e =
    subst (λ (n : ℕ). width quest.used (x ∷ xs) ≡ wide_of n (found at)) l
    (sym (ap (λ (b : Bool). cond b 255 (node_width (found at))) (suc-zero (length xs))
    ∙ ap (λ (f : Fpr). node_width (found f)) (sym e) ∙ ap node_width k.0))

-- ---- edges so far

module _ (quest : Quest) (size : ℕ) where
  abbrev pub TakenAll : Found → List EdgeFacts → List Step → Type 0
  TakenAll found edges rest = (edge : EdgeFacts) → Has edges edge → IsTaken quest found edge rest

  -- in whatever is found later, what is taken from a place on is taken from the beginning on
  abbrev pub TakenFrom : Found → List EdgeFacts → ℕ → List Step → Type 0
  TakenFrom now edges i rest =
      (found : Found) → Onward quest size now found → TakenAll found (drop i edges) rest → TakenAll found edges rest

  pub taken_more : (now new : Found) (edges : List EdgeFacts) (i : ℕ) (edge : EdgeFacts) (rest : List Step)
      → i < length edges → edge ≡ get_or edges i edge → TakenFrom now edges i rest → Onward quest size now new
      → IsTaken quest new edge rest → TakenFrom new edges (i + 1) rest
  taken_more now new edges i edge rest lt is from on t found on' all =
      from found (onward_trans quest size now new found on on')
      (subst (λ (xs : List EdgeFacts). TakenAll found xs rest) (sym (drop_more edges i edge lt)) (λ e h. elim h [
        | inl f ↦ subst (λ (z : EdgeFacts). IsTaken quest found z rest) (is ∙ sym f)
            (λ row h' e' u r le far. on'.covers (step_of edge ∷ rest) (t row h' e' u r le far))
        | inr k ↦ all e k
      ]))

  pub taken_end : (now : Found) (edges : List EdgeFacts) (i : ℕ) (rest : List Step) → length edges ≤ i
      → TakenFrom now edges i rest → TakenAll now edges rest
  taken_end now edges i rest le from =
      from now (onward_refl quest size now)
      (subst (λ (xs : List EdgeFacts). TakenAll now xs rest) (sym (drop_all i edges le)) (λ e h. absurd h))

  pub taken_all : (found : Found) (edges : List EdgeFacts) (at : Fpr) (rest : List Step)
      → HasAllBefore quest size at edges → length rest ≡ size → start quest.question.target rest ≡ at
      → TakenAll found edges rest → AreTaken quest found rest
  taken_all found edges at rest matter long there all step s =
      let row = s.usable_edge.row in
      let h = subst (λ (f : Fpr). Has (rows_into quest.question.network f) row) there s.usable_edge.into in
      let left : quest.least ≤ step_left quest.used (step_of row.edge) =
      subst (λ (z : Step). quest.least ≤ step_left quest.used z) (sym s.usable_edge.shown) s.left in
      let far : length rest < quest.reach row.edge.issuer =
      subst (λ (z : Step). length rest < quest.reach z.issuer) (sym s.usable_edge.shown) s.high in
      let has = matter row.edge (row_edge quest.question.network at row h)
      (λ some. leads quest row rest (omega (arith, some, long)) s.usable_edge.reaches far) in
      subst (λ (z : Step). Covered quest found (z ∷ rest)) s.usable_edge.shown
      (all row.edge has row s.usable_edge.into refl s.usable_edge.usable s.usable_edge.reaches left far)

  pub rest_now : (old now : Reached) (at : Fpr) (wide : ℕ) (edge : EdgeFacts) (rest : List Step)
      → Kept quest (look old.nodes) rest → length rest ≡ size → start quest.question.target rest ≡ at
      → wide ≡ wide_of size (look old.nodes at) → edge.target ≡ at → Advances quest size old now
      → IsRest quest (look now.nodes) size edge.target wide rest
  rest_now old now at wide edge rest k l there w t a = record {
    kept = a.onward.keeps rest (omega (arith, l)) k;
    long = l;
    there = there ∙ sym t;
    width = width_is quest (look old.nodes) size at rest k l there ∙ sym w;
  }

  pub advances_trans : (a b c : Reached) → Advances quest size a b → Advances quest size b c → Advances quest size a c
  advances_trans a b c m n =
      record {
        growing = n.growing;
        onward = onward_trans quest size (look a.nodes) (look b.nodes) (look c.nodes) m.onward n.onward;
      }

  pub advances_refl : (a : Reached) → IsGrowing quest size (look a.nodes) a.layer.items → Advances quest size a a
  advances_refl a growing = record { growing = growing; onward = onward_refl quest size (look a.nodes) }

module _ (quest : Quest) where
  abbrev pub NotedAll : (Fpr → Type 0) → List EdgeFacts → List Step → Type 0
  NotedAll set edges rest = (edge : EdgeFacts) → Has edges edge → IsNoted quest set edge rest

  abbrev pub NotedFrom : (Fpr → Type 0) → List EdgeFacts → ℕ → List Step → Type 0
  NotedFrom now edges i rest =
      (edge : EdgeFacts) → Has edges edge → Has (drop i edges) edge ⊎ IsNoted quest now edge rest

  pub noted_more : (now new : Fpr → Type 0) (edges : List EdgeFacts) (i : ℕ) (edge : EdgeFacts) (rest : List Step)
      → i < length edges → edge ≡ get_or edges i edge → NotedFrom now edges i rest → Widens now new
      → IsNoted quest new edge rest → NotedFrom new edges (i + 1) rest
  noted_more now new edges i edge rest lt is from on t e h = elim (from e h) [
    | inl there ↦ elim (subst (λ (xs : List EdgeFacts). Has xs e) (drop_more edges i edge lt) there) [
      | inl f ↦ inr (subst (λ (z : EdgeFacts). IsNoted quest new z rest) (is ∙ sym f) t)
      | inr k ↦ inl k
    ]
    | inr noted ↦ inr (λ row h' e' r le far. on e.issuer (noted row h' e' r le far))
  ]

  pub noted_end : (now : Fpr → Type 0) (edges : List EdgeFacts) (i : ℕ) (rest : List Step) → length edges ≤ i
      → NotedFrom now edges i rest → NotedAll now edges rest
  noted_end now edges i rest le from e h = elim (from e h) [
    | inl there ↦ absurd (subst (λ (xs : List EdgeFacts). Has xs e) (drop_all i edges le) there)
    | inr noted ↦ noted
  ]

  pub noted_all : (size : ℕ) (set : Fpr → Type 0) (edges : List EdgeFacts) (at : Fpr) (rest : List Step)
      → HasAllBefore quest size at edges → length rest ≡ size → start quest.question.target rest ≡ at → set at
      → NotedAll set edges rest → IsSeen quest set rest
  noted_all size set edges at rest matter long there it all = record {
    it = subst set (sym there) it;
    issuers = λ row h r le far.
        let h' = subst (λ (f : Fpr). Has (rows_into quest.question.network f) row) there h in
        let has = matter row.edge (row_edge quest.question.network at row h')
        (λ some. leads quest row rest (omega (arith, some, long)) r far) in
        all row.edge has row h refl r le far;
  }

-- the issuer of an edge into a fingerprint is near it
pub near_issuer : (network : Record) (at : Fpr) (edge : EdgeFacts) → Has (edges_into network at) edge
    → IsNear network at edge.issuer
near_issuer network at edge h =
    let r = row_there network at edge h in
    inr (r.0, r.1, ap (λ (x : EdgeFacts). x.issuer) (sym r.2))
