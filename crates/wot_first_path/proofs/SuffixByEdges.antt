-- A suffix that was found, edge by edge.
use Rattle.std.proofs.Common.{◌≡◌, ◌+◌, ◌<◌, ◌≤◌, ◌++◌, ℕ, List, [], ◌∷◌, length, Some, None, sym, ap, ◌∙◌, arith}
use Rattle.std.proofs.Common.{append_assoc}
use Rattle.std.proofs.lemmas.List.{append-nil}
use Rattle.wot_types.specs.declared.fpr.Fpr.{Fpr}
use Rattle.wot_edge.specs.declared.path.Step.{Step}
use Rattle.wot_edge.specs.Record.{IsRecord}
use Rattle.wot_edge.specs.Path.{start}
use Rattle.wot_first_path.specs.declared.node.Node.{Node}
use Rattle.wot_first_path.specs.Quest.{Quest}
use Rattle.wot_first_path.specs.Suffix.{Found, Kept, node_of}
use Rattle.wot_first_path.proofs.Suffixes.{serves_into}

-- what is left of a suffix, after the first edges of it
pub record IsLeft (quest : Quest) (found : Found) (made : List Step) (at : Fpr) (i : ℕ) (steps : List Step) : Type 0
  where
    pub rest : List Step
    pub both : made ++ rest ≡ steps
    pub kept : Kept quest found rest
    pub there : start quest.question.target rest ≡ at
    pub long : length rest + i ≡ length steps

module _ (quest : Quest) (good : IsRecord quest.question.network) (found : Found) where
  pub left_more : (made made' : List Step) (at : Fpr) (i : ℕ) (steps : List Step) (node : Node)
      → IsLeft quest found made at i steps → i < length steps → found at ≡ Some node → made' ≡ made ++ node.step ∷ []
      → IsLeft quest found made' node.step.target (i + 1) steps
  left_more made made' at i steps node l lt e f = by l.rest l.both l.kept l.there l.long
    where
      by : (rest : List Step) → made ++ rest ≡ steps → Kept quest found rest → start quest.question.target rest ≡ at
          → length rest + i ≡ length steps → IsLeft quest found made' node.step.target (i + 1) steps
      by [] b k t n = absurd (omega (arith, n, lt))
      by (x ∷ xs) b k t n =
          let same : node ≡ node_of quest.used x xs =
          (let g : Some node ≡ Some (node_of quest.used x xs) = sym e ∙ ap found (sym t) ∙ k.0 in cc) in
          let first : node.step ≡ x = ap (λ (z : Node). z.step) same in
          record {
            rest = xs;
            both = ap (λ (z : List Step). z ++ xs) (f ∙ ap (λ (z : Step). made ++ z ∷ []) first)
                ∙ append_assoc made (x ∷ []) xs ∙ b;
            kept = k.2;
            there = sym (ap (λ (z : Step). z.target) first ∙ serves_into quest good x xs k.1);
            long = omega (arith, n);
          }

  pub left_none : (made : List Step) (at : Fpr) (i : ℕ) (steps : List Step) → IsLeft quest found made at i steps
      → i < length steps → found at ≡ None → made ≡ steps
  left_none made at i steps l lt e = by l.rest l.kept l.there l.long
    where
      by : (rest : List Step) → Kept quest found rest → start quest.question.target rest ≡ at
          → length rest + i ≡ length steps → made ≡ steps
      by [] k t n = absurd (omega (arith, n, lt))
      by (x ∷ xs) k t n = absurd (let g : None ≡ Some (node_of quest.used x xs) = sym e ∙ ap found (sym t) ∙ k.0 in cc)

  pub left_done : (made : List Step) (at : Fpr) (i : ℕ) (steps : List Step) → IsLeft quest found made at i steps
      → length steps ≤ i → made ≡ steps
  left_done made at i steps l le = by l.rest l.both l.long
    where
      by : (rest : List Step) → made ++ rest ≡ steps → length rest + i ≡ length steps → made ≡ steps
      by [] b n = sym (append-nil made) ∙ b
      by (x ∷ xs) b n = absurd (omega (arith, n, le))
