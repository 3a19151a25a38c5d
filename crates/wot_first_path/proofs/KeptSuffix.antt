-- Which of two suffixes from one issuer is kept.
use Rattle.std.proofs.Common.{◌≡◌, inl, inr, ℕ, suc, ◌≤◌, Bool, true, false, List, [], ◌∷◌, length, Option, Some, None}
use Rattle.std.proofs.Common.{refl, sym, ap, subst, ◌∙◌, arith}
use Rattle.std.specs.Prelude.{◌&&◌, nat_eq}
use Rattle.std.proofs.lemmas.Bool.{cases_lt, ltb-true, ltb-false, eqb-true, eq-eqb, and_parts}
use Rattle.wot_types.specs.declared.fpr.Fpr.{Fpr}
use Rattle.wot_edge.specs.declared.path.Step.{Step}
use Rattle.wot_edge.specs.Record.{IsRecord}
use Rattle.wot_edge.specs.Path.{start}
use Rattle.wot_first_path.specs.declared.node.Node.{Node}
use Rattle.wot_first_path.specs.declared.node.Goal.{Goal}
use Rattle.wot_first_path.specs.declared.node.Goal.TheVariants.{Widest, Least}
use Rattle.wot_first_path.specs.Quest.{Quest}
use Rattle.wot_first_path.specs.Suffix.{Serves, Found, Kept, node_of, width}
use Rattle.wot_first_path.specs.Layer.{AtMost, IsAsGood, Covered, IsGrowing, is_better, is_kept, link_cmp}
use Rattle.wot_edge.specs.StepLaws.{is_lt-Less}
use Rattle.wot_first_path.proofs.Order.{not_lt-Less, less_not}
use Rattle.wot_first_path.proofs.Suffixes.{links}
use Rattle.wot_first_path.proofs.OneSuffixMore.{entry_is}

module _ (quest : Quest) (good : IsRecord quest.question.network) (found : Found) (step : Step) (rest : List Step)
    (kept : Kept quest found rest) (serves : Serves quest step rest) where
  -- the better one is as good as the other
  better_good : (goal : Goal) (x : Step) (xs : List Step) → Kept quest found (x ∷ xs) → x.issuer ≡ step.issuer
      → length xs ≡ length rest
      → is_better goal (node_of quest.used step rest) (node_of quest.used x xs) ≡ true
      → IsAsGood quest.used goal (step ∷ rest) (x ∷ xs)
  better_good Widest x xs k e l b =
      (let lt = ltb-true (width quest.used (x ∷ xs)) (width quest.used (step ∷ rest)) b in omega (arith, lt))
  better_good Least x xs k e l b =
      less_not (step ∷ rest) (x ∷ xs)
      (links quest good found step rest x xs (sym e) (sym l) serves k.1 kept k.2 ∙ is_lt-Less (link_cmp step x) b)

  other_good : (goal : Goal) (x : Step) (xs : List Step) → Kept quest found (x ∷ xs) → x.issuer ≡ step.issuer
      → length xs ≡ length rest
      → is_better goal (node_of quest.used step rest) (node_of quest.used x xs) ≡ false
      → IsAsGood quest.used goal (x ∷ xs) (step ∷ rest)
  other_good Widest x xs k e l b = ltb-false (width quest.used (x ∷ xs)) (width quest.used (step ∷ rest)) b
  other_good Least x xs k e l b =
      λ less. not_lt-Less (link_cmp step x) b
      (sym (links quest good found step rest x xs (sym e) (sym l) serves k.1 kept k.2) ∙ less)

  -- if it is kept, what was there has as many edges, and isn't better
  pub kept_free : is_kept quest.goal (node_of quest.used step rest) (found step.issuer) ≡ true → (node : Node)
      → found step.issuer ≡ Some node → node.size ≡ length (step ∷ rest)
  kept_free t node e =
      let f : is_kept quest.goal (node_of quest.used step rest) (Some node) ≡ true =
      subst (λ (o : Option Node). is_kept quest.goal (node_of quest.used step rest) o ≡ true) e t in
      eqb-true node.size (length (step ∷ rest))
      (and_parts (nat_eq node.size (length (step ∷ rest))) (is_better quest.goal (node_of quest.used step rest) node)
      f).0

  pub kept_worse : is_kept quest.goal (node_of quest.used step rest) (found step.issuer) ≡ true → (steps : List Step)
      → 1 ≤ length steps → Kept quest found steps → start quest.question.target steps ≡ step.issuer
      → AtMost quest.used quest.goal (step ∷ rest) steps
  kept_worse t [] some k e = absurd (omega arith)
  kept_worse t (x ∷ xs) some k e =
      let at : found step.issuer ≡ Some (node_of quest.used x xs) = ap found (sym e) ∙ k.0 in
      let f : is_kept quest.goal (node_of quest.used step rest) (Some (node_of quest.used x xs)) ≡ true =
      subst (λ (o : Option Node). is_kept quest.goal (node_of quest.used step rest) o ≡ true) at t in
      let l : length (x ∷ xs) ≡ length (step ∷ rest) = kept_free t (node_of quest.used x xs) at in
      inr (
        sym l,
        better_good quest.goal x xs k e (omega (arith, l))
            (and_parts (nat_eq (length (x ∷ xs)) (length (step ∷ rest)))
            (is_better quest.goal (node_of quest.used step rest) (node_of quest.used x xs)) f).1,
      )

  -- if it isn't kept, it is covered
  pub unkept_covered : (size : ℕ) (next : List Fpr) → IsGrowing quest size found next → length rest ≡ size
      → is_kept quest.goal (node_of quest.used step rest) (found step.issuer) ≡ false
      → Covered quest found (step ∷ rest)
  unkept_covered size next growing long t = by (found step.issuer) refl
    where
      by : (o : Option Node) → found step.issuer ≡ o → Covered quest found (step ∷ rest)
      by None e = absurd
          (let f : is_kept quest.goal (node_of quest.used step rest) None ≡ false = subst
          (λ (o : Option Node). is_kept quest.goal (node_of quest.used step rest) o ≡ false) e t in cc)
      by (Some node) e =
          let f : is_kept quest.goal (node_of quest.used step rest) (Some node) ≡ false =
          subst (λ (o : Option Node). is_kept quest.goal (node_of quest.used step rest) o ≡ false) e t in
          let o = growing.entries step.issuer node e in
          let is = entry_is quest found (suc size) step.issuer node e o in
          let l : node.size ≡ length (node.step ∷ o.rest) = ap (λ (n : Node). n.size) is in
          let few = o.few in
          elim (cases_lt node.size (suc size)) [
            | inl lt ↦ record {
              steps = node.step ∷ o.rest;
              kept = o.kept;
              some = omega arith;
              same = o.there;
              most = inl (omega (arith, lt, l, long));
            }
            | inr le ↦
                let eq : nat_eq node.size (length (step ∷ rest)) ≡ true =
                eq-eqb node.size (length (step ∷ rest)) (omega (arith, le, few, long)) in
                let b : is_better quest.goal (node_of quest.used step rest) node ≡ false =
                subst (λ (z : Bool). (z && is_better quest.goal (node_of quest.used step rest) node) ≡ false) eq
                f in
                let b' : is_better quest.goal (node_of quest.used step rest)
                (node_of quest.used node.step o.rest) ≡ false =
                subst (λ (n : Node). is_better quest.goal (node_of quest.used step rest) n ≡ false) is b in
                record {
                  steps = node.step ∷ o.rest;
                  kept = o.kept;
                  some = omega arith;
                  same = o.there;
                  most = inr (
                    omega (arith, le, few, l, long),
                    other_good quest.goal node.step o.rest o.kept o.there (omega (arith, le, few, l, long)) b',
                  );
                }
          ]
