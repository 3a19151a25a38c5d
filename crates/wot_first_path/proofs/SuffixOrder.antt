-- Suffixes that are at most others.
use Rattle.std.proofs.Common.{inl, inr, ◌≤◌, List, ◌∷◌, length, refl, ◌∙◌, arith}
use Rattle.wot_edge.specs.declared.path.Step.{Step}
use Rattle.wot_edge.specs.Path.{Use}
use Rattle.wot_first_path.specs.declared.node.Goal.{Goal}
use Rattle.wot_first_path.specs.declared.node.Goal.TheVariants.{Widest, Least}
use Rattle.wot_first_path.specs.Layer.{IsAsGood, AtMost}
use Rattle.wot_first_path.proofs.Order.{not_less_itself, not_less-trans, cons_less}

as_good-refl : (used : Use) (goal : Goal) (a : List Step) → IsAsGood used goal a a
as_good-refl used Widest a = omega arith
as_good-refl used Least a = not_less_itself a

as_good-trans : (used : Use) (goal : Goal) (a b c : List Step) → IsAsGood used goal a b → IsAsGood used goal b c
    → IsAsGood used goal a c
as_good-trans used Widest a b c m n = omega (arith, m, n)
as_good-trans used Least a b c m n = not_less-trans a b c m n

as_good-cons : (used : Use) (goal : Goal) (x : Step) (a b : List Step) → IsAsGood used goal a b
    → IsAsGood used goal (x ∷ a) (x ∷ b)
as_good-cons used Widest x a b m = omega (arith, m)
as_good-cons used Least x a b m = λ l. m (cons_less x b a l)

module _ (used : Use) (goal : Goal) where
  pub AtMost-refl : (a : List Step) → AtMost used goal a a
  AtMost-refl a = inr (refl, as_good-refl used goal a)

  pub AtMost-trans : (a b c : List Step) → AtMost used goal a b → AtMost used goal b c → AtMost used goal a c
  AtMost-trans a b c (inl x) (inl y) = inl (omega (arith, x, y))
  AtMost-trans a b c (inl x) (inr y) = inl (let e = y.0 in omega (arith, x, e))
  AtMost-trans a b c (inr x) (inl y) = inl (let e = x.0 in omega (arith, e, y))
  AtMost-trans a b c (inr x) (inr y) = inr (x.0 ∙ y.0, as_good-trans used goal a b c x.1 y.1)

  pub AtMost-le : (a b : List Step) → AtMost used goal a b → length a ≤ length b
  AtMost-le a b (inl x) = omega (arith, x)
  AtMost-le a b (inr x) = let e = x.0 in omega (arith, e)

  pub AtMost-cons : (x : Step) (a b : List Step) → AtMost used goal a b → AtMost used goal (x ∷ a) (x ∷ b)
  AtMost-cons x a b (inl lt) = inl (omega (arith, lt))
  AtMost-cons x a b (inr m) = inr (let e = m.0 in omega (arith, e), as_good-cons used goal x a b m.1)
