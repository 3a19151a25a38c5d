-- The amount of the next path, of the widest one.
use Rattle.std.proofs.Common.{◌≡◌, ◌⊎◌, inl, inr, ℕ, ◌<◌, true, List, [], ◌∷◌, length, sym, subst, ◌∙◌, arith}
use Rattle.std.proofs.lemmas.Bool.{cases_lt}
use Rattle.wot_types.specs.declared.fpr.Fpr.{Fpr}
use Rattle.wot_edge.specs.declared.path.Path.{Path}
use Rattle.wot_edge.specs.declared.path.Step.{Step}
use Rattle.wot_edge.specs.Path.{Question, Use, IsNextPath, IsOpen, path_amount}
use Rattle.wot_edge.specs.Record.{entry_at}
use Rattle.wot_search.specs.declared.below.Next.{Next}
use Rattle.wot_search.specs.Below.{IsNextAmount, IsNextBelow, next_of}
use Rattle.wot_search.specs.Offers.{AreNextFor, first_path}
use Rattle.wot_first_path.specs.declared.node.Goal.TheVariants.{Widest}
use Rattle.wot_first_path.specs.Rooted.{IsFirst, IsGood}
use Rattle.wot_first_path.proofs.Rooted.{widest_quest, first_open, valid_rooted}
use Rattle.wot_reach.proofs.Within.{Holds}

module _ (reach : Fpr → ℕ) (q : Question) (used : Use) (holds : Holds reach q used)
    (ok : (entry_at q.network q.target).in_order ≡ true) (wide : List Step) (f : IsFirst (widest_quest reach q used) wide)
  where
    wide_open : IsOpen q used wide
    wide_open = first_open (widest_quest reach q used) wide (omega arith) ok f

    same_amount : (steps : List Step) → IsOpen q used steps
        → ((other : List Step) → IsOpen q used other
        → (length other < length steps)
        ⊎ ((length other ≡ length steps) × (path_amount q used steps < path_amount q used other)) → ⊥)
        → path_amount q used steps ≡ path_amount q used wide
    same_amount steps o first =
        by (f.first steps
        (valid_rooted (widest_quest reach q used) steps o.0 (holds steps o) (let p = o.1 in omega (arith, p))))
      where
        by : (length wide < length steps) ⊎ ((length wide ≡ length steps) × IsGood q used Widest wide steps)
            → path_amount q used steps ≡ path_amount q used wide
        by (inl lt) = absurd (first wide wide_open (inl lt))
        by (inr m) = elim (cases_lt (path_amount q used steps) (path_amount q used wide)) [
          | inl lt ↦ absurd (first wide wide_open (inr (m.0, lt)))
          | inr le ↦ let le' = m.1 in omega (arith, le, le')
        ]

    pub next_amount : (path : Path) → IsNextPath q used path → path.amount ≡ path_amount q used wide
    next_amount path n =
        n.amount ∙ same_amount path.steps n.steps.0
        (λ other o h. n.steps.1 other o (elim h [ inl lt ↦ inl lt | inr m ↦ inr (m.0, inl m.1) ]))

    pub is_next_amount : (amount : ℕ) → amount ≡ path_amount q used wide → IsNextAmount q used amount
    is_next_amount amount e =
        record { left = λ spent. spent wide wide_open; amount = λ path n. next_amount path n ∙ sym e }

-- the first of the next paths, or that none is left
pub next_of_paths : (q : Question) (used : Use) (enough : ℕ) (paths : List Path) (next : Next)
    → next ≡ next_of (first_path paths) → AreNextFor q used paths → IsNextBelow q used enough next
next_of_paths q used enough [] next e n = subst (IsNextBelow q used enough) (sym e) n
next_of_paths q used enough (path ∷ paths) next e n = subst (IsNextBelow q used enough) (sym e) n.0
