-- Suffixes that begin at a root, and the next path.
use Rattle.std.proofs.Common.{◌≡◌, ◌⊎◌, inl, inr, ℕ, ◌<◌, ◌≤◌, min, true, false, List, [], ◌∷◌, length, refl, sym, ap}
use Rattle.std.proofs.Common.{subst, ◌∙◌, arith}
use Rattle.std.proofs.lemmas.Bool.{cases_lt}
use Rattle.wot_types.specs.declared.fpr.Fpr.{Fpr}
use Rattle.wot_edge.specs.declared.path.Step.{Step}
use Rattle.wot_edge.specs.Record.{Has, entry_at}
use Rattle.wot_edge.specs.Path.{Question, Use, Chain, start, issuers, Distinct, IsValid, IsOpen, IsNext, IsSpent}
use Rattle.wot_edge.specs.Path.{Precedes, path_amount, least_left, root_left}
use Rattle.wot_first_path.specs.declared.node.Goal.{Goal}
use Rattle.wot_first_path.specs.declared.node.Goal.TheVariants.{Widest, Least}
use Rattle.wot_first_path.specs.Quest.{Quest}
use Rattle.wot_first_path.specs.Suffix.{Suffix, width}
use Rattle.wot_first_path.specs.Layer.{IsAsGood}
use Rattle.wot_first_path.specs.Rooted.{Rooted, IsGood, IsFirst}
use Rattle.wot_reach.proofs.Within.{Within, Holds}
use Rattle.wot_first_path.proofs.Order.{not_less-trans}
use Rattle.wot_first_path.proofs.Suffixes.{serves_shorter}

-- the quests of the two searches: for the widest path, and for the least list with this residual amount
abbrev pub widest_quest : (Fpr → ℕ) → Question → Use → Quest
widest_quest reach q used = record { question = q; used = used; reach = reach; least = 1; goal = Widest }

abbrev pub least_quest : (Fpr → ℕ) → Question → Use → ℕ → Quest
least_quest reach q used amount = record { question = q; used = used; reach = reach; least = amount; goal = Least }

-- ---- shortest suffixes have distinct issuers

abbrev pub IsShortest : Quest → List Step → Type 0
IsShortest quest steps =
    (other : List Step) → 1 ≤ length other → Suffix quest other
    → start quest.question.target other ≡ start quest.question.target steps → length steps ≤ length other

rest_shortest : (quest : Quest) (step : Step) (rest : List Step) → 1 ≤ length rest → Suffix quest (step ∷ rest)
    → IsShortest quest (step ∷ rest) → IsShortest quest rest
rest_shortest quest step rest some t s other some' t' e = elim (cases_lt (length other) (length rest)) [
  | inl lt ↦ absurd
      (let le : length (step ∷ rest) ≤ length (step ∷ other) = s (step ∷ other) (omega arith)
      (serves_shorter quest step rest other some some' (omega (arith, lt)) e t.0, t') refl in omega (arith, le, lt))
  | inr le ↦ le
]

-- a suffix from an issuer on it
from_issuer : (quest : Quest) (rest : List Step) (fpr : Fpr) → Has (issuers rest) fpr → Suffix quest rest
    → (other : List Step) × Suffix quest other × (1 ≤ length other) × (length other ≤ length rest)
    × (start quest.question.target other ≡ fpr)
from_issuer quest [] fpr h t = absurd h
from_issuer quest (step ∷ rest) fpr (inl e) t = (step ∷ rest, t, omega arith, omega arith, sym e)
from_issuer quest (step ∷ rest) fpr (inr h) t =
    let o = from_issuer quest rest fpr h t.1 in (o.0, o.1, o.2, let l = o.3 in omega (arith, l), o.4)

pub shortest_distinct : (quest : Quest) (steps : List Step) → Suffix quest steps → IsShortest quest steps
    → Distinct (issuers steps)
shortest_distinct quest [] t s = tt
shortest_distinct quest (step ∷ []) t s = (λ h. h, tt)
shortest_distinct quest (step ∷ next ∷ rest) t s = (
  λ h. let o = from_issuer quest (next ∷ rest) step.issuer h t.1 in let le : length (step ∷ next ∷ rest) ≤ length o.0 =
      s o.0 o.2 o.1 o.4 in let l = o.3 in absurd (omega (arith, le, l)),
  shortest_distinct quest (next ∷ rest) t.1 (rest_shortest quest step (next ∷ rest) (omega arith) t s),
)

-- ---- suffixes and valid paths

pub suffix_chain : (quest : Quest) (steps : List Step) → Suffix quest steps → Chain quest.question steps
suffix_chain quest [] t = tt
suffix_chain quest (step ∷ rest) t = (t.0.usable_edge, suffix_chain quest rest t.1)

suffix_least : (quest : Quest) (most : ℕ) (steps : List Step) → Suffix quest steps → quest.least ≤ most
    → quest.least ≤ least_left quest.used most steps
suffix_least quest most [] t le = le
suffix_least quest most (step ∷ rest) t le =
    let a = suffix_least quest most rest t.1 le in let b = t.0.left in omega (arith, a, b)

suffix_within : (quest : Quest) (steps : List Step) → Suffix quest steps → Within quest.reach steps
suffix_within quest [] t = tt
suffix_within quest (step ∷ rest) t = (t.0.high, suffix_within quest rest t.1)

chain_suffix : (quest : Quest) (most : ℕ) (steps : List Step) → Chain quest.question steps → Within quest.reach steps
    → quest.least ≤ least_left quest.used most steps → Suffix quest steps × (quest.least ≤ most)
chain_suffix quest most [] c w le = (tt, le)
chain_suffix quest most (step ∷ rest) c w le =
    let o = chain_suffix quest most rest c.1 w.1 (omega (arith, le)) in
    ((record { usable_edge = c.0; left = omega (arith, le); high = w.0 }, o.0), o.1)

pub valid_suffix : (reach : Fpr → ℕ) (q : Question) (used : Use) → Holds reach q used → (steps : List Step)
    → IsOpen q used steps → Suffix (widest_quest reach q used) steps
valid_suffix reach q used holds steps o =
    (chain_suffix (widest_quest reach q used) (root_left q used (start q.target steps)) steps o.0.chain (holds steps o)
    (let p = o.1 in omega (arith, p))).0

pub suffix_valid : (reach : Fpr → ℕ) (q : Question) (used : Use) (steps : List Step)
    → Suffix (widest_quest reach q used) steps → Chain q steps
suffix_valid reach q used steps t = suffix_chain (widest_quest reach q used) steps t

pub valid_rooted : (quest : Quest) (steps : List Step) → IsValid quest.question steps → Within quest.reach steps
    → quest.least ≤ path_amount quest.question quest.used steps → Rooted quest steps
valid_rooted quest steps v w le =
    let t = chain_suffix quest (root_left quest.question quest.used (start quest.question.target steps)) steps v.chain w
    le in
    record { some = v.some; few = v.few; suffix = t.0; root = t.1 }

pub rooted_amount : (quest : Quest) (steps : List Step) → Rooted quest steps
    → quest.least ≤ path_amount quest.question quest.used steps
rooted_amount quest steps r =
    suffix_least quest (root_left quest.question quest.used (start quest.question.target steps)) steps r.suffix r.root

-- its own amount is left of all of it
pub rooted_wide : (reach : Fpr → ℕ) (q : Question) (used : Use) (steps : List Step)
    → Rooted (widest_quest reach q used) steps → Rooted (least_quest reach q used (path_amount q used steps)) steps
rooted_wide reach q used steps r =
    let quest = widest_quest reach q used in
    let t = chain_suffix (least_quest reach q used (path_amount q used steps)) (root_left q used (start q.target steps))
    steps (suffix_chain quest steps r.suffix) (suffix_within quest steps r.suffix) (omega arith) in
    record { some = r.some; few = r.few; suffix = t.0; root = t.1 }

suffix_fewer : (reach : Fpr → ℕ) (q : Question) (used : Use) (amount : ℕ) (steps : List Step) → 1 ≤ amount
    → Suffix (least_quest reach q used amount) steps → Suffix (widest_quest reach q used) steps
suffix_fewer reach q used amount [] le t = tt
suffix_fewer reach q used amount (step ∷ rest) le t = (
  record { usable_edge = t.0.usable_edge; left = let a = t.0.left in omega (arith, le, a); high = t.0.high },
  suffix_fewer reach q used amount rest le t.1,
)

pub rooted_fewer : (reach : Fpr → ℕ) (q : Question) (used : Use) (amount : ℕ) (steps : List Step) → 1 ≤ amount
    → Rooted (least_quest reach q used amount) steps → Rooted (widest_quest reach q used) steps
rooted_fewer reach q used amount steps le r =
    record {
      some = r.some;
      few = r.few;
      suffix = suffix_fewer reach q used amount steps le r.suffix;
      root = let a = r.root in omega (arith, le, a);
    }

-- ---- the first

pub good-trans : (q : Question) (used : Use) (goal : Goal) (a b c : List Step) → IsGood q used goal a b
    → IsGood q used goal b c → IsGood q used goal a c
good-trans q used Widest a b c m n = omega (arith, m, n)
good-trans q used Least a b c m n = not_less-trans a b c m n

least_min : (used : Use) (a m : ℕ) (steps : List Step)
    → least_left used (min a m) steps ≡ min a (least_left used m steps)
least_min used a m [] = refl
least_min used a m (step ∷ rest) = let ih = least_min used a m rest in omega (arith, ih)

-- a path's amount, by the width of its edges
pub amount_width : (q : Question) (used : Use) (steps : List Step) → root_left q used (start q.target steps) ≤ 255
    → path_amount q used steps ≡ min (root_left q used (start q.target steps)) (width used steps)
amount_width q used steps le =
    let r = root_left q used (start q.target steps) in
    let e : r ≡ min r 255 = omega (arith, le) in
    ap (λ (n : ℕ). least_left used n steps) e ∙ least_min used r 255 steps

-- Of two suffixes that begin at one root, the path that is as good.
pub as_good_good : (q : Question) (used : Use) (goal : Goal) (a b : List Step)
    → root_left q used (start q.target a) ≤ 255 → start q.target a ≡ start q.target b → IsAsGood used goal a b
    → IsGood q used goal a b
as_good_good q used Least a b le e m = m
as_good_good q used Widest a b le e m =
    let f = amount_width q used a le in
    let same : root_left q used (start q.target a) ≡ root_left q used (start q.target b) = ap (root_left q used) e in
    let g = amount_width q used b (omega (arith, le, same)) in
    omega (arith, f, g, m, same)

pub first_le : (quest : Quest) (steps other : List Step) → IsFirst quest steps → Rooted quest other
    → length steps ≤ length other
first_le quest steps other f r = by (f.first other r)
  where
    by : (length steps < length other)
        ⊎ ((length steps ≡ length other) × IsGood quest.question quest.used quest.goal steps other)
        → length steps ≤ length other
    by (inl lt) = omega (arith, lt)
    by (inr m) = let e = m.0 in omega (arith, e)

pub first_open : (quest : Quest) (steps : List Step) → 0 < quest.least
    → (entry_at quest.question.network quest.question.target).in_order ≡ true → IsFirst quest steps
    → IsOpen quest.question quest.used steps
first_open quest steps pos ok f = (
  record {
    some = f.rooted.some;
    few = f.rooted.few;
    chain = suffix_chain quest steps f.rooted.suffix;
    distinct = shortest_distinct quest steps f.rooted.suffix shortest;
    root = let a = f.rooted.root in omega (arith, a, pos);
    in_order = ok;
  },
  let a = rooted_amount quest steps f.rooted in omega (arith, a, pos),
)
  where
    shortest : IsShortest quest steps
    shortest other some t e = elim (cases_lt 255 (length other)) [
      | inl lt ↦ let b = f.rooted.few in omega (arith, b, lt)
      | inr le ↦ first_le quest steps other f
          (record {
            some = some;
            few = le;
            suffix = t;
            root = subst (λ (x : Fpr). quest.least ≤ root_left quest.question quest.used x) (sym e) f.rooted.root;
          })
    ]

-- The next path: the least of those with the residual amount of the widest one.
pub first_next : (reach : Fpr → ℕ) (q : Question) (used : Use) → Holds reach q used → (wide steps : List Step)
    → (entry_at q.network q.target).in_order ≡ true → IsFirst (widest_quest reach q used) wide
    → IsFirst (least_quest reach q used (path_amount q used wide)) steps → IsNext q used steps
first_next reach q used holds wide steps ok f g =
    (first_open (least_quest reach q used (path_amount q used wide)) steps (omega (arith, pos)) ok g, no)
  where
    pos : 1 ≤ path_amount q used wide
    pos = rooted_amount (widest_quest reach q used) wide f.rooted

    enough : path_amount q used wide ≤ path_amount q used steps
    enough = rooted_amount (least_quest reach q used (path_amount q used wide)) steps g.rooted

    no_longer : length steps ≤ length wide
    no_longer = first_le (least_quest reach q used (path_amount q used wide)) steps wide g
        (rooted_wide reach q used wide f.rooted)

    no_shorter : length wide ≤ length steps
    no_shorter = first_le (widest_quest reach q used) wide steps f
        (rooted_fewer reach q used (path_amount q used wide) steps pos g.rooted)

    no : (other : List Step) → IsOpen q used other → Precedes q used other steps → ⊥
    no other o (inl lt) =
        let le = first_le (widest_quest reach q used) wide other f
        (valid_rooted (widest_quest reach q used) other o.0 (holds other o) (let p = o.1 in omega (arith, p))) in
        let a = no_longer in omega (arith, lt, le, a)
    no other o (inr (e, inl lt)) =
        by (f.first other
        (valid_rooted (widest_quest reach q used) other o.0 (holds other o) (let p = o.1 in omega (arith, p))))
      where
        by : (length wide < length other) ⊎ ((length wide ≡ length other) × IsGood q used Widest wide other) → ⊥
        by (inl l) = let a = no_shorter in let b = no_longer in omega (arith, l, e, a, b)
        by (inr m) = let a = enough in let b = m.1 in omega (arith, a, b, lt)
    no other o (inr (e, inr (am, less))) =
        by (g.first other
        (valid_rooted (least_quest reach q used (path_amount q used wide)) other o.0 (holds other o)
        (let a = enough in omega (arith, a, am))))
      where
        by : (length steps < length other) ⊎ ((length steps ≡ length other) × IsGood q used Least steps other) → ⊥
        by (inl l) = omega (arith, l, e)
        by (inr m) = m.1 less

-- No rooted suffix, no path.
pub none_spent : (reach : Fpr → ℕ) (q : Question) (used : Use) → Holds reach q used
    → ((other : List Step) → Rooted (widest_quest reach q used) other → ⊥) → IsSpent q used
none_spent reach q used holds n steps o =
    n steps (valid_rooted (widest_quest reach q used) steps o.0 (holds steps o) (let p = o.1 in omega (arith, p)))

pub disordered_spent : (q : Question) (used : Use) → (entry_at q.network q.target).in_order ≡ false → IsSpent q used
disordered_spent q used e steps o = let f = o.0.in_order in cc
