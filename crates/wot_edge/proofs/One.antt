-- There is at most one next path.
use Rattle.std.proofs.Common.{◌≡◌, inl, inr, List, [], ◌∷◌, length, refl, sym, ap, subst, ◌∙◌, arith}
use Rattle.std.specs.declared.cmp.Ordering.TheVariants.{Equal}
use Rattle.std.proofs.lemmas.Bool.{cases_lt}
use Rattle.wot_types.specs.PlainLaws.{then-Equal}
use Rattle.wot_edge.specs.declared.path.Step.{Step}
use Rattle.wot_edge.specs.Record.{Row, IsRecord, rows_into, Has}
use Rattle.wot_edge.specs.Path.{Question, Use, Chain, start, IsNext, IsNextPath, path_amount, step_of}
use Rattle.wot_edge.specs.Order.{steps_cmp, step_cmp}
use Rattle.wot_edge.specs.declared.path.Path.{Path}
use Rattle.wot_edge.specs.StepLaws.{step_exact, ranked_steps}

-- lists of edges to one target that tie are the same
pub chain_exact : (q : Question) → IsRecord q.network → (a b : List Step) → Chain q a → Chain q b → steps_cmp a b ≡ Equal
    → a ≡ b
chain_exact q r [] [] c d e = refl
chain_exact q r [] (y ∷ b) c d e = absurd cc
chain_exact q r (x ∷ a) [] c d e = absurd cc
chain_exact q r (x ∷ a) (y ∷ b) c d e =
    let t = then-Equal (step_cmp x y) (steps_cmp a b) e in
    let same : a ≡ b = chain_exact q r a b c.1 d.1 t.1 in
    let tied = step_exact x y t.0 in
    let has : Has (rows_into q.network (start q.target a)) d.0.row =
    subst (λ (z : List Step). Has (rows_into q.network (start q.target z)) d.0.row) (sym same) d.0.into in
    let issuer : c.0.row.edge.issuer ≡ d.0.row.edge.issuer =
    ap (λ (s : Step). s.issuer) c.0.shown ∙ tied.0 ∙ ap (λ (s : Step). s.issuer) (sym d.0.shown) in
    let uid : c.0.row.edge.uid ≡ d.0.row.edge.uid =
    ap (λ (s : Step). s.uid) c.0.shown ∙ tied.2 ∙ ap (λ (s : Step). s.uid) (sym d.0.shown) in
    let first : x ≡ y =
    sym c.0.shown
    ∙ ap (λ (row : Row). step_of row.edge) (r.one (start q.target a) c.0.row d.0.row c.0.into has issuer uid)
    ∙ d.0.shown in
    ap (λ (z : Step). z ∷ a) first ∙ ap (λ (z : List Step). y ∷ z) same

pub next_one : (q : Question) (used : Use) → IsRecord q.network → (a b : List Step) → IsNext q used a → IsNext q used b
    → a ≡ b
next_one q used r a b m n = elim (cases_lt (length a) (length b)) [
  | inl lt ↦ absurd (n.1 a m.0 (inl lt))
  | inr le ↦ elim (cases_lt (length b) (length a)) [
    | inl lt ↦ absurd (m.1 b n.0 (inl lt))
    | inr le' ↦ as_long (omega arith)
  ]
]
  where
    tied : length a ≡ length b → path_amount q used a ≡ path_amount q used b → a ≡ b
    tied e f = elim (ranked_steps a b) [
      | inl less ↦ absurd (n.1 a m.0 (inr (e, inr (sym f, less))))
      | inr more ↦ elim more [
        | inl tie ↦ chain_exact q r a b m.0.0.chain n.0.0.chain tie
        | inr less ↦ absurd (m.1 b n.0 (inr (sym e, inr (f, less))))
      ]
    ]

    as_long : length a ≡ length b → a ≡ b
    as_long e = elim (cases_lt (path_amount q used a) (path_amount q used b)) [
      | inl lt ↦ absurd (m.1 b n.0 (inr (sym e, inl lt)))
      | inr le ↦ elim (cases_lt (path_amount q used b) (path_amount q used a)) [
        | inl lt ↦ absurd (n.1 a m.0 (inr (e, inl lt)))
        | inr le' ↦ tied e (omega arith)
      ]
    ]

pub next_path_one : (q : Question) (used : Use) → IsRecord q.network → (a b : Path) → IsNextPath q used a
    → IsNextPath q used b → a ≡ b
next_path_one q used r a b m n =
    let steps : a.steps ≡ b.steps = next_one q used r a.steps b.steps m.steps n.steps in
    let root : a.root ≡ b.root = m.root ∙ ap (start q.target) steps ∙ sym n.root in
    let amount : a.amount ≡ b.amount = m.amount ∙ ap (path_amount q used) steps ∙ sym n.amount in
    λ i. record { amount = amount i; root = root i; steps = steps i }
