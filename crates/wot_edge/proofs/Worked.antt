-- Worked questions, each with wrong answers next to it.
use Rattle.std.proofs.Common.{◌≡◌, ◌≤◌, inl, inr, ℕ, true, false, cond, List, [], ◌∷◌, Option, Some, None, refl, subst}
use Rattle.std.proofs.Common.{arith}
use Rattle.std.specs.Option.{unwrap_or}
use Rattle.wot_types.specs.declared.fpr.Fpr.{Fpr}
use Rattle.wot_types.specs.declared.fpr.Fpr.TheVariants.{V4}
use Rattle.wot_types.specs.Fpr.{same_fpr}
use Rattle.wot_edge.specs.declared.edge.EdgeFacts.{EdgeFacts}
use Rattle.wot_edge.specs.declared.path.Path.{Path}
use Rattle.wot_edge.specs.declared.path.Step.{Step}
use Rattle.wot_edge.specs.Record.{Row, Entry, Record}
use Rattle.wot_edge.specs.Roots.{root_amount}
use Rattle.wot_edge.specs.Path.{Question, use_of, asks, step_of, start, IsNextPath, IsSpent}
use Rattle.wot_edge.specs.Answer.{IsAnswer}
use Rattle.wot_edge.proofs.Layers.{next_of, first_from, climbed}
use Rattle.wot_edge.proofs.Exists.{AreNextOrSpent, next_of_is}
use Rattle.wot_edge.proofs.AnswerByPaths.{taken_answer}

-- ---- how a question is written

abbrev key : ℕ → Fpr
key n = V4 (n ∷ [])

abbrev R : Fpr
R = key 1

abbrev A : Fpr
A = key 2

abbrev B : Fpr
B = key 3

abbrev T : Fpr
T = key 4

abbrev C : Fpr
C = key 5

-- X certifies the one user ID of Y, with a depth and an amount
abbrev edge : Fpr → Fpr → ℕ → ℕ → EdgeFacts
edge x y depth amount =
    record { issuer = x; target = y; uid = 0; sig = 0; made = 2000; depth = depth; amount = amount; scoped = false }

abbrev step : Fpr → Fpr → ℕ → ℕ → Step
step x y depth amount = step_of (edge x y depth amount)

abbrev row : Fpr → Fpr → ℕ → ℕ → Row
row x y depth amount = record { edge = edge x y depth amount; usable = true; scope = true }

-- such a certification whose scope doesn't hold, and one that isn't usable
abbrev row_elsewhere : Fpr → Fpr → ℕ → ℕ → Row
row_elsewhere x y depth amount = record { edge = edge x y depth amount; usable = true; scope = false }

abbrev row_unusable : Fpr → Fpr → ℕ → ℕ → Row
row_unusable x y depth amount = record { edge = edge x y depth amount; usable = false; scope = true }

-- rows into a certificate without the wanted user ID, and into one with it
abbrev into : List Row → Entry
into rows = record { rows = rows; place = None; in_order = false }

abbrev asked : List Row → Entry
asked rows = record { rows = rows; place = Some 0; in_order = true }

-- R is the only root, with full trust
abbrev ask : Record → Question
ask network = asks network ((R, 120) ∷ []) T

abbrev path : ℕ → List Step → Path
path amount steps = record { amount = amount; root = start T steps; steps = steps }

one_root : (fpr : Fpr) → root_amount ((R, 120) ∷ []) fpr ≤ 120
one_root fpr =
    elim (same_fpr fpr R) as (λ b. unwrap_or (cond b (Some 120) None) 0 ≤ 120)
    [ true ↦ omega arith | false ↦ omega arith ]

-- what comes next after these paths, as the search by layers finds it
next_is : (network : Record) (earlier : List Path) (o : Option (List Step)) → next_of 120 (ask network) (use_of earlier) ≡ o
    → AreNextOrSpent (ask network) (use_of earlier) o
next_is network earlier o e =
    subst (AreNextOrSpent (ask network) (use_of earlier)) e (next_of_is (ask network) (use_of earlier) 120 one_root)

-- an answer of one path that reaches the wanted amount, or after which no path is left
reaches_it : (network : Record) (p : Path) → IsNextPath (ask network) (use_of []) p → 120 ≤ p.amount
    → IsAnswer (ask network) 120 (p ∷ [])
reaches_it network p n le = taken_answer (ask network) 120 (p ∷ []) (omega arith) (omega arith, n, inl (omega (arith, le)))

leaves_none : (network : Record) (p : Path) → IsNextPath (ask network) (use_of []) p → IsSpent (ask network) (use_of (p ∷ []))
    → IsAnswer (ask network) 120 (p ∷ [])
leaves_none network p n s = taken_answer (ask network) 120 (p ∷ []) (omega arith) (omega arith, n, inr s)

no_path : (network : Record) → IsSpent (ask network) (use_of []) → IsAnswer (ask network) 120 []
no_path network s = taken_answer (ask network) 120 [] (omega arith) (inr s)

-- no answer begins with a path if none is left
not_any : (network : Record) → IsSpent (ask network) (use_of []) → (p : Path) (paths : List Path)
    → IsAnswer (ask network) 120 (p ∷ paths) → ⊥
not_any network s p paths a = s p.steps a.each.0.steps.0

-- 0 is no answer if there is a path
not_none : (network : Record) (p : Path) → IsNextPath (ask network) (use_of []) p → IsAnswer (ask network) 120 [] → ⊥
not_none network p n a = elim a.ends [ inl le ↦ absurd (omega (arith, le)) | inr s ↦ s p.steps n.steps.0 ]

-- ---- a root that is the target: it certifies its own user ID, and its amount as a root is 100

abbrev own : Question
own = asks ((R, asked (row R R 0 120 ∷ [])) ∷ []) ((R, 100) ∷ []) R

own_root : (fpr : Fpr) → root_amount ((R, 100) ∷ []) fpr ≤ 100
own_root fpr =
    elim (same_fpr fpr R) as (λ b. unwrap_or (cond b (Some 100) None) 0 ≤ 100)
    [ true ↦ omega arith | false ↦ omega arith ]

own_next : (earlier : List Path) (o : Option (List Step)) → next_of 100 own (use_of earlier) ≡ o
    → AreNextOrSpent own (use_of earlier) o
own_next earlier o e = subst (AreNextOrSpent own (use_of earlier)) e (next_of_is own (use_of earlier) 100 own_root)

abbrev own_path : Path
own_path = record { amount = 100; root = R; steps = step R R 0 120 ∷ [] }

pub own_answer : IsAnswer own 200 (own_path ∷ [])
unfolding first_from climbed
own_answer = taken_answer own 200 (own_path ∷ []) (omega arith) (
  omega arith,
  record { steps = own_next [] (Some own_path.steps) refl; root = refl; amount = refl },
  inr (own_next (own_path ∷ []) None refl),
)

-- not the edge's amount
pub own_whole : (paths : List Path)
    → IsAnswer own 200 (record { amount = 120; root = R; steps = step R R 0 120 ∷ [] } ∷ paths) → ⊥
own_whole paths a = absurd (let e = a.each.0.amount in omega (arith, e))

-- ---- one step

abbrev one_step : Record
one_step = (T, asked (row R T 0 120 ∷ [])) ∷ []

abbrev one_step_path : Path
one_step_path = path 120 (step R T 0 120 ∷ [])

one_step_next : IsNextPath (ask one_step) (use_of []) one_step_path
unfolding first_from climbed
one_step_next = record { steps = next_is one_step [] (Some one_step_path.steps) refl; root = refl; amount = refl }

pub one_step_answer : IsAnswer (ask one_step) 120 (one_step_path ∷ [])
one_step_answer = reaches_it one_step one_step_path one_step_next (omega arith)

pub one_step_none : IsAnswer (ask one_step) 120 [] → ⊥
one_step_none = not_none one_step one_step_path one_step_next

-- another user ID, and an absent certificate
pub other_uid : IsAnswer (ask ((T, into (row R T 0 120 ∷ [])) ∷ [])) 120 []
unfolding first_from climbed
other_uid = no_path ((T, into (row R T 0 120 ∷ [])) ∷ []) (next_is ((T, into (row R T 0 120 ∷ [])) ∷ []) [] None refl)

pub absent : IsAnswer (ask []) 120 []
unfolding first_from climbed
absent = no_path [] (next_is [] [] None refl)

-- an edge that isn't usable
pub unusable : (p : Path) (paths : List Path)
    → IsAnswer (ask ((T, asked (row_unusable R T 0 120 ∷ [])) ∷ [])) 120 (p ∷ paths) → ⊥
unfolding first_from climbed
unusable = not_any ((T, asked (row_unusable R T 0 120 ∷ [])) ∷ [])
    (next_is ((T, asked (row_unusable R T 0 120 ∷ [])) ∷ []) [] None refl)

-- ---- two steps need a depth of 1

abbrev two_steps : ℕ → Record
two_steps depth = (T, asked (row A T 0 120 ∷ [])) ∷ (A, into (row R A depth 120 ∷ [])) ∷ []

abbrev two_steps_path : Path
two_steps_path = path 120 (step R A 1 120 ∷ step A T 0 120 ∷ [])

two_steps_next : IsNextPath (ask (two_steps 1)) (use_of []) two_steps_path
unfolding first_from climbed
two_steps_next =
    record { steps = next_is (two_steps 1) [] (Some two_steps_path.steps) refl; root = refl; amount = refl }

pub two_steps_answer : IsAnswer (ask (two_steps 1)) 120 (two_steps_path ∷ [])
two_steps_answer = reaches_it (two_steps 1) two_steps_path two_steps_next (omega arith)

pub two_steps_none : IsAnswer (ask (two_steps 1)) 120 [] → ⊥
two_steps_none = not_none (two_steps 1) two_steps_path two_steps_next

shallow_spent : IsSpent (ask (two_steps 0)) (use_of [])
unfolding first_from climbed
shallow_spent = next_is (two_steps 0) [] None refl

pub shallow : IsAnswer (ask (two_steps 0)) 120 []
shallow = no_path (two_steps 0) shallow_spent

pub shallow_taken : (p : Path) (paths : List Path) → IsAnswer (ask (two_steps 0)) 120 (p ∷ paths) → ⊥
shallow_taken = not_any (two_steps 0) shallow_spent

-- ---- three steps: the first edge needs a depth of 2, and 255 is unlimited

abbrev three_steps : ℕ → ℕ → Record
three_steps first second =
    (T, asked (row B T 0 120 ∷ [])) ∷ (B, into (row A B second 120 ∷ [])) ∷ (A, into (row R A first 120 ∷ [])) ∷ []

abbrev three_steps_path : Path
three_steps_path = path 120 (step R A 255 120 ∷ step A B 1 120 ∷ step B T 0 120 ∷ [])

three_steps_next : IsNextPath (ask (three_steps 255 1)) (use_of []) three_steps_path
unfolding first_from climbed
three_steps_next =
    record { steps = next_is (three_steps 255 1) [] (Some three_steps_path.steps) refl; root = refl; amount = refl }

pub three_steps_answer : IsAnswer (ask (three_steps 255 1)) 120 (three_steps_path ∷ [])
three_steps_answer = reaches_it (three_steps 255 1) three_steps_path three_steps_next (omega arith)

depth_last_spent : IsSpent (ask (three_steps 1 255)) (use_of [])
unfolding first_from climbed
depth_last_spent = next_is (three_steps 1 255) [] None refl

pub depth_last : IsAnswer (ask (three_steps 1 255)) 120 []
depth_last = no_path (three_steps 1 255) depth_last_spent

pub depth_last_taken : (p : Path) (paths : List Path) → IsAnswer (ask (three_steps 1 255)) 120 (p ∷ paths) → ⊥
depth_last_taken = not_any (three_steps 1 255) depth_last_spent

-- ---- the shortest comes first, not the widest

abbrev narrow : Record
narrow = (T, asked (row R T 0 1 ∷ row A T 0 120 ∷ [])) ∷ (A, into (row R A 1 119 ∷ [])) ∷ []

abbrev direct : Path
direct = path 1 (step R T 0 1 ∷ [])

abbrev round : Path
round = path 119 (step R A 1 119 ∷ step A T 0 120 ∷ [])

direct_next : IsNextPath (ask narrow) (use_of []) direct
unfolding first_from climbed
direct_next = record { steps = next_is narrow [] (Some direct.steps) refl; root = refl; amount = refl }

round_next : IsNextPath (ask narrow) (use_of (direct ∷ [])) round
unfolding first_from climbed
round_next = record { steps = next_is narrow (direct ∷ []) (Some round.steps) refl; root = refl; amount = refl }

pub narrow_answer : IsAnswer (ask narrow) 120 (direct ∷ round ∷ [])
narrow_answer =
    taken_answer (ask narrow) 120 (direct ∷ round ∷ []) (omega arith)
    (omega arith, direct_next, (omega arith, round_next, inl refl))

pub widest_first : (paths : List Path) → IsAnswer (ask narrow) 120 (round ∷ paths) → ⊥
widest_first paths a = a.each.0.steps.1 direct.steps direct_next.steps.0 (inl (omega arith))

-- the first alone doesn't reach the wanted amount, and a third is one too many
pub narrow_short : IsAnswer (ask narrow) 120 (direct ∷ []) → ⊥
narrow_short a = elim a.ends [ inl le ↦ absurd (omega (arith, le)) | inr s ↦ s round.steps round_next.steps.0 ]

pub narrow_more : (p : Path) → IsAnswer (ask narrow) 120 (direct ∷ round ∷ p ∷ []) → ⊥
narrow_more p a = absurd (let short = a.short in omega (arith, short))

-- ---- an edge that two paths share is used once: of B and C the lesser is taken, and then nothing is left

abbrev fork : Record
fork = (T, asked (row B T 0 120 ∷ row C T 0 120 ∷ [])) ∷ (A, into (row R A 2 60 ∷ [])) ∷ (B, into (row A B 1 120 ∷ []))
    ∷ (C, into (row A C 1 120 ∷ [])) ∷ []

abbrev through : Fpr → Path
through x = path 60 (step R A 2 60 ∷ step A x 1 120 ∷ step x T 0 120 ∷ [])

fork_next : IsNextPath (ask fork) (use_of []) (through B)
unfolding first_from climbed
fork_next = record { steps = next_is fork [] (Some (through B).steps) refl; root = refl; amount = refl }

fork_spent : IsSpent (ask fork) (use_of (through B ∷ []))
unfolding first_from climbed
fork_spent = next_is fork (through B ∷ []) None refl

pub fork_answer : IsAnswer (ask fork) 120 (through B ∷ [])
fork_answer = leaves_none fork (through B) fork_next fork_spent

pub fork_greater : (paths : List Path) → IsAnswer (ask fork) 120 (through C ∷ paths) → ⊥
fork_greater paths a = a.each.0.steps.1 (through B).steps fork_next.steps.0 (inr (refl, inr (refl, refl)))

pub fork_twice : (p : Path) (paths : List Path) → IsAnswer (ask fork) 120 (through B ∷ p ∷ paths) → ⊥
fork_twice p paths a = fork_spent p.steps a.each.1.0.steps.0

-- ---- the scope of every edge but the last holds for the wanted user ID, or the path isn't valid

abbrev scope_holds : Record
scope_holds = two_steps 1

abbrev scope_fails : Record
scope_fails = (T, asked (row A T 0 120 ∷ [])) ∷ (A, into (row_elsewhere R A 1 120 ∷ [])) ∷ []

scope_spent : IsSpent (ask scope_fails) (use_of [])
unfolding first_from climbed
scope_spent = next_is scope_fails [] None refl

pub out_of_scope : IsAnswer (ask scope_fails) 120 []
out_of_scope = no_path scope_fails scope_spent

pub out_of_scope_taken : (p : Path) (paths : List Path) → IsAnswer (ask scope_fails) 120 (p ∷ paths) → ⊥
out_of_scope_taken = not_any scope_fails scope_spent

-- the scope of the last edge doesn't matter
pub last_scope : IsAnswer (ask ((T, asked (row_elsewhere R T 0 120 ∷ [])) ∷ [])) 120 (one_step_path ∷ [])
unfolding first_from climbed
last_scope = reaches_it ((T, asked (row_elsewhere R T 0 120 ∷ [])) ∷ []) one_step_path
    (record {
      steps = next_is ((T, asked (row_elsewhere R T 0 120 ∷ [])) ∷ []) [] (Some one_step_path.steps) refl;
      root = refl;
      amount = refl;
    }) (omega arith)

-- ---- the first suffix found may lack depth: R into A would need a depth of 2

abbrev lacking : List Row → Record
lacking more = (T, asked (row B T 0 120 ∷ [])) ∷ (B, into (row A B 2 120 ∷ more)) ∷ (A, into (row R A 1 120 ∷ [])) ∷ []

lacking_spent : IsSpent (ask (lacking [])) (use_of [])
unfolding first_from climbed
lacking_spent = next_is (lacking []) [] None refl

pub lacking_answer : IsAnswer (ask (lacking [])) 120 []
lacking_answer = no_path (lacking []) lacking_spent

pub lacking_taken : (p : Path) (paths : List Path) → IsAnswer (ask (lacking [])) 120 (p ∷ paths) → ⊥
lacking_taken = not_any (lacking []) lacking_spent

abbrev shorter : Path
shorter = path 70 (step R B 1 70 ∷ step B T 0 120 ∷ [])

shorter_next : IsNextPath (ask (lacking (row R B 1 70 ∷ []))) (use_of []) shorter
unfolding first_from climbed
shorter_next =
    record { steps = next_is (lacking (row R B 1 70 ∷ [])) [] (Some shorter.steps) refl; root = refl; amount = refl }

shorter_spent : IsSpent (ask (lacking (row R B 1 70 ∷ []))) (use_of (shorter ∷ []))
unfolding first_from climbed
shorter_spent = next_is (lacking (row R B 1 70 ∷ [])) (shorter ∷ []) None refl

pub shorter_answer : IsAnswer (ask (lacking (row R B 1 70 ∷ []))) 120 (shorter ∷ [])
shorter_answer = leaves_none (lacking (row R B 1 70 ∷ [])) shorter shorter_next shorter_spent

pub shorter_none : IsAnswer (ask (lacking (row R B 1 70 ∷ []))) 120 [] → ⊥
shorter_none = not_none (lacking (row R B 1 70 ∷ [])) shorter shorter_next

-- ---- a path may end with the target's own certification of its user ID, and then the edge into the target needs a
-- depth of 1

-- of two user IDs, the wanted one is certified only by the target
abbrev own_uid : EdgeFacts
own_uid = record { issuer = T; target = T; uid = 1; sig = 0; made = 2000; depth = 0; amount = 120; scoped = false }

abbrev wanted_own : ℕ → Record
wanted_own depth = (
  T,
  record {
    rows = row R T depth 60 ∷ record { edge = own_uid; usable = true; scope = true } ∷ [];
    place = Some 1;
    in_order = true;
  },
) ∷ []

abbrev own_end : Path
own_end = path 60 (step R T 1 60 ∷ step_of own_uid ∷ [])

own_end_next : IsNextPath (ask (wanted_own 1)) (use_of []) own_end
unfolding first_from climbed
own_end_next = record { steps = next_is (wanted_own 1) [] (Some own_end.steps) refl; root = refl; amount = refl }

own_end_spent : IsSpent (ask (wanted_own 1)) (use_of (own_end ∷ []))
unfolding first_from climbed
own_end_spent = next_is (wanted_own 1) (own_end ∷ []) None refl

pub own_end_answer : IsAnswer (ask (wanted_own 1)) 120 (own_end ∷ [])
own_end_answer = leaves_none (wanted_own 1) own_end own_end_next own_end_spent

own_end_shallow_spent : IsSpent (ask (wanted_own 0)) (use_of [])
unfolding first_from climbed
own_end_shallow_spent = next_is (wanted_own 0) [] None refl

pub own_end_shallow : (p : Path) (paths : List Path) → IsAnswer (ask (wanted_own 0)) 120 (p ∷ paths) → ⊥
own_end_shallow = not_any (wanted_own 0) own_end_shallow_spent

-- ---- among paths of one length the greatest amount comes first, and only then the least list

abbrev wider : Record
wider = (T, asked (row B T 0 120 ∷ row C T 0 120 ∷ [])) ∷ (B, into (row R B 1 30 ∷ [])) ∷ (C, into (row R C 1 90 ∷ []))
    ∷ []

abbrev by_B : Path
by_B = path 30 (step R B 1 30 ∷ step B T 0 120 ∷ [])

abbrev by_C : Path
by_C = path 90 (step R C 1 90 ∷ step C T 0 120 ∷ [])

by_C_next : IsNextPath (ask wider) (use_of []) by_C
unfolding first_from climbed
by_C_next = record { steps = next_is wider [] (Some by_C.steps) refl; root = refl; amount = refl }

by_B_next : IsNextPath (ask wider) (use_of (by_C ∷ [])) by_B
unfolding first_from climbed
by_B_next = record { steps = next_is wider (by_C ∷ []) (Some by_B.steps) refl; root = refl; amount = refl }

pub wider_answer : IsAnswer (ask wider) 120 (by_C ∷ by_B ∷ [])
wider_answer =
    taken_answer (ask wider) 120 (by_C ∷ by_B ∷ []) (omega arith)
    (omega arith, by_C_next, (omega arith, by_B_next, inl refl))

pub lesser_first : (paths : List Path) → IsAnswer (ask wider) 120 (by_B ∷ paths) → ⊥
lesser_first paths a = a.each.0.steps.1 by_C.steps by_C_next.steps.0 (inr (refl, inl (omega arith)))

-- ---- one issuer certifies two user IDs of an introducer: what is used of the pair is used of both edges

abbrev second_uid : EdgeFacts
second_uid = record { issuer = R; target = A; uid = 1; sig = 0; made = 2000; depth = 1; amount = 100; scoped = false }

abbrev two_uids : Record
two_uids = (T, asked (row A T 0 120 ∷ []))
    ∷ (A, into (row R A 1 60 ∷ record { edge = second_uid; usable = true; scope = true } ∷ [])) ∷ []

abbrev by_second : Path
by_second = path 100 (step_of second_uid ∷ step A T 0 120 ∷ [])

by_second_next : IsNextPath (ask two_uids) (use_of []) by_second
unfolding first_from climbed
by_second_next = record { steps = next_is two_uids [] (Some by_second.steps) refl; root = refl; amount = refl }

by_second_spent : IsSpent (ask two_uids) (use_of (by_second ∷ []))
unfolding first_from climbed
by_second_spent = next_is two_uids (by_second ∷ []) None refl

pub two_uids_answer : IsAnswer (ask two_uids) 120 (by_second ∷ [])
two_uids_answer = leaves_none two_uids by_second by_second_next by_second_spent

pub used_by_edge : (p : Path) (paths : List Path) → IsAnswer (ask two_uids) 120 (by_second ∷ p ∷ paths) → ⊥
used_by_edge p paths a = by_second_spent p.steps a.each.1.0.steps.0

-- of two edges of one amount the one on the lesser user ID is taken

abbrev even_uids : Record
even_uids = (T, asked (row A T 0 120 ∷ []))
    ∷ (A, into (row R A 1 100 ∷ record { edge = second_uid; usable = true; scope = true } ∷ [])) ∷ []

by_first_next : IsNextPath (ask even_uids) (use_of []) (path 100 (step R A 1 100 ∷ step A T 0 120 ∷ []))
unfolding first_from climbed
by_first_next =
    record {
      steps = next_is even_uids [] (Some (step R A 1 100 ∷ step A T 0 120 ∷ [])) refl;
      root = refl;
      amount = refl;
    }

pub greater_uid : (paths : List Path) → IsAnswer (ask even_uids) 120 (by_second ∷ paths) → ⊥
greater_uid paths a =
    a.each.0.steps.1 (step R A 1 100 ∷ step A T 0 120 ∷ []) by_first_next.steps.0 (inr (refl, inr (refl, refl)))
