-- Trails: steps to the target that may follow one another, each with a positive residual amount.
use Rattle.std.proofs.Common.{◌≡◌, inl, inr, ℕ, ◌+◌, ◌<◌, ◌≤◌, false, List, [], ◌∷◌, length, sym, ap, subst, arith}
use Rattle.wot_types.specs.declared.fpr.Fpr.{Fpr}
use Rattle.wot_edge.specs.declared.path.Step.{Step}
use Rattle.wot_edge.specs.Path.{Question, Use, Chain, Stands, IsOpen, IsSpent, start, step_left, root_left, least_left}
use Rattle.wot_check.specs.Table.{Labels, label_at, IsAtMost}
use Rattle.wot_check.specs.Absence.{Closes, Excludes, Carries, MayPrecede, IsAbsence, is_in_order}
use Rattle.wot_check.proofs.Demands.{within_some, some_within}

abbrev pub Trail : Question → Use → List Step → Type 0
Trail q used [] = Unit {0}
Trail q used (step ∷ rest) = Stands q step rest × (0 < step_left used step) × Trail q used rest

pub trail_chain : (q : Question) (used : Use) (steps : List Step) → Trail q used steps → Chain q steps
trail_chain q used [] t = tt
trail_chain q used (step ∷ rest) t = (t.0, trail_chain q used rest t.2)

pub chain_trail : (q : Question) (used : Use) (most : ℕ) (steps : List Step) → Chain q steps
    → 0 < least_left used most steps → Trail q used steps
chain_trail q used most [] c pos = tt
chain_trail q used most (step ∷ rest) c pos =
    (c.0, omega (arith, pos), chain_trail q used most rest c.1 (omega (arith, pos)))

pub least_most : (used : Use) (most : ℕ) (steps : List Step) → least_left used most steps ≤ most
least_most used most [] = omega arith
least_most used most (step ∷ rest) = let le = least_most used most rest in omega (arith, le)

pub trail_positive : (q : Question) (used : Use) (most : ℕ) (steps : List Step) → Trail q used steps → 0 < most
    → 0 < least_left used most steps
trail_positive q used most [] t pos = pos
trail_positive q used most (step ∷ rest) t pos =
    let a = trail_positive q used most rest t.2 pos in let b = t.1 in omega (arith, a, b)

-- ---- what a table says of a trail

carries_step : (q : Question) (used : Use) (step : Step) (rest : List Step) (s : Stands q step rest)
    → 0 < step_left used step → Carries q used (start q.target rest) s.row
carries_step q used step rest s pos =
    record { into = s.into; usable = s.usable; left = subst (λ (x : Step). 0 < step_left used x) (sym s.shown) pos }

issuer_is : (q : Question) (step : Step) (rest : List Step) (s : Stands q step rest) → s.row.edge.issuer ≡ step.issuer
issuer_is q step rest s = ap (λ (x : Step). x.issuer) s.shown

-- A table that meets the first two points has a label at the start of a trail, of at most its length.
pub trail_within : (q : Question) (used : Use) (table : Labels) → Closes q used table → (steps : List Step)
    → Trail q used steps → 1 ≤ length steps → length steps ≤ 255
    → IsAtMost (length steps) (label_at table (start q.target steps))
trail_within q used table c [] t some few = absurd (omega (arith, some))
trail_within q used table c (x ∷ []) t some few =
    let e = c.last t.0.row (carries_step q used x [] t.0 t.1) t.0.reaches in
    subst (λ (f : Fpr). IsAtMost 1 (label_at table f)) (issuer_is q x [] t.0)
    (some_within 1 1 (label_at table t.0.row.edge.issuer) e (omega arith))
trail_within q used table c (x ∷ y ∷ rest) t some few =
    let ih = within_some (length (y ∷ rest)) (label_at table y.issuer)
    (trail_within q used table c (y ∷ rest) t.2 (omega arith) (omega (arith, few))) in
    let r = t.0.reaches in
    let d = r.0 in
    let m : MayPrecede q used y.issuer ih.0 t.0.row =
    record {
      carries = carries_step q used x (y ∷ rest) t.0 t.1;
      depth = omega (arith, ih.2, d);
      scope = r.1;
      issuer = r.2;
    } in
    let w = within_some (ih.0 + 1) (label_at table t.0.row.edge.issuer)
    (c.others y.issuer ih.0 t.0.row ih.1 (omega (arith, ih.2, few)) m) in
    subst (λ (f : Fpr). IsAtMost (length (x ∷ y ∷ rest)) (label_at table f)) (issuer_is q x (y ∷ rest) t.0)
    (some_within (length (x ∷ y ∷ rest)) w.0 (label_at table t.0.row.edge.issuer) w.1 (omega (arith, w.2, ih.2)))

pub open_trail : (q : Question) (used : Use) (steps : List Step) → IsOpen q used steps → Trail q used steps
open_trail q used steps o = chain_trail q used (root_left q used (start q.target steps)) steps o.0.chain o.1

-- A table that meets the three points proves that no path is left.
pub excludes_spent : (q : Question) (used : Use) (table : Labels) → Excludes q used table → IsSpent q used
excludes_spent q used table x steps o =
    let w = within_some (length steps) (label_at table (start q.target steps))
    (trail_within q used table x.closes steps (open_trail q used steps o) o.0.some o.0.few) in
    let none = x.roots (start q.target steps) w.0 w.1 in
    let le = least_most used (root_left q used (start q.target steps)) steps in
    let pos = o.1 in
    omega (arith, none, le, pos)

pub disordered_spent : (q : Question) (used : Use) → is_in_order q ≡ false → IsSpent q used
disordered_spent q used e steps o = let f = o.0.in_order in cc

pub absence_spent : (q : Question) (used : Use) (table : Labels) → IsAbsence q used table → IsSpent q used
absence_spent q used table (inl e) = disordered_spent q used e
absence_spent q used table (inr x) = excludes_spent q used table x
