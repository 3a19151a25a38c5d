-- What is demanded of an edge, as its parts.
use Rattle.std.proofs.Common.{◌≡◌, ◌≢◌, ◌⊎◌, inl, inr, ℕ, suc, zero, ◌+◌, ◌<◌, ◌≤◌, Bool, true, false, List, []}
use Rattle.std.proofs.Common.{◌∷◌, length, Option, Some, None, refl, sym, ap, subst, ◌∙◌, arith, leb-true, le-leb, not}
use Rattle.std.specs.Prelude.{◌&&◌, ◌||◌, nat_le, nat_lt}
use Rattle.std.proofs.lemmas.Bool.{not-true, ltb-true, lt-ltb, and_parts, and_from, or_cases}
use Rattle.wot_types.specs.declared.fpr.Fpr.{Fpr}
use Rattle.wot_types.specs.Fpr.{same_fpr}
use Rattle.wot_edge.specs.declared.path.Step.{Step}
use Rattle.wot_edge.specs.DemandLaws.{apart-false, demand_some, false-apart, place-true, true-place}
use Rattle.wot_edge.specs.Record.{Row, entry_at}
use Rattle.wot_edge.specs.Path.{Question, Use, Reaches, step_of, step_left}
use Rattle.wot_edge.specs.declared.demand.Demand.{Demand}
use Rattle.wot_edge.specs.declared.demand.Demand.TheVariants.{On, Before}
use Rattle.wot_edge.specs.Demand.{is_met, demand_of}
use Rattle.wot_check.specs.Demand.{is_in_scope, promises, may_stand, is_within, is_covered}
use Rattle.wot_check.specs.Demand.{Covers}
use Rattle.wot_check.specs.Table.{Labels, label_at, IsAtMost}
use Rattle.wot_check.specs.Absence.{MayPrecede, LastLabelled}

-- a usable edge with a positive residual amount
pub record IsOpenRow (used : Use) (row : Row) : Type 0 where
  pub usable : row.usable ≡ true
  pub left : 0 < step_left used (step_of row.edge)

module _ (target : Fpr) (used : Use) (row : Row) where
  parts : (demand : Demand) → may_stand target used demand row ≡ true
      → (is_met target demand row.edge ≡ true) × IsOpenRow used row × (is_in_scope demand row ≡ true)
  parts demand s =
      let a = and_parts (promises target used demand row.edge) (row.usable && is_in_scope demand row) s in
      let b = and_parts (is_met target demand row.edge) (nat_lt 0 (step_left used (step_of row.edge))) a.0 in
      let c = and_parts row.usable (is_in_scope demand row) a.1 in
      (b.0, record { usable = c.0; left = ltb-true 0 (step_left used (step_of row.edge)) b.1 }, c.1)

  whole : (demand : Demand) → is_met target demand row.edge ≡ true → IsOpenRow used row → is_in_scope demand row ≡ true
      → may_stand target used demand row ≡ true
  whole demand m o s =
      and_from (promises target used demand row.edge) (row.usable && is_in_scope demand row)
      (and_from (is_met target demand row.edge) (nat_lt 0 (step_left used (step_of row.edge))) m
      (lt-ltb 0 (step_left used (step_of row.edge)) o.left))
      (and_from row.usable (is_in_scope demand row) o.usable s)

  pub on_parts : (place : Option ℕ) → may_stand target used (On place) row ≡ true
      → (place ≡ Some row.edge.uid) × IsOpenRow used row
  on_parts place s = let p = parts (On place) s in (place-true place row.edge.uid p.0, p.1)

  pub on_whole : (place : Option ℕ) → place ≡ Some row.edge.uid → IsOpenRow used row
      → may_stand target used (On place) row ≡ true
  on_whole place e o = whole (On place) (true-place place row.edge.uid e) o refl

  pub before_parts : (size : ℕ) → may_stand target used (Before size) row ≡ true
      → (size ≤ row.edge.depth) × (row.scope ≡ true) × (row.edge.issuer ≢ target) × IsOpenRow used row
  before_parts size s =
      let p = parts (Before size) s in
      let a = and_parts (nat_le size row.edge.depth) (not (same_fpr row.edge.issuer target)) p.0 in (
        leb-true size row.edge.depth a.0,
        p.2,
        false-apart row.edge.issuer target (not-true (same_fpr row.edge.issuer target) a.1),
        p.1,
      )

  pub before_whole : (size : ℕ) → size ≤ row.edge.depth → row.scope ≡ true → row.edge.issuer ≢ target
      → IsOpenRow used row → may_stand target used (Before size) row ≡ true
  before_whole size d s n o =
      whole (Before size)
      (and_from (nat_le size row.edge.depth) (not (same_fpr row.edge.issuer target)) (le-leb size row.edge.depth d)
      (ap not (apart-false row.edge.issuer target n))) o s

-- ---- before steps

pub stands_reaches : (q : Question) (used : Use) (row : Row) (rest : List Step)
    → may_stand q.target used (demand_of q (length rest)) row ≡ true → Reaches q row rest × IsOpenRow used row
stands_reaches q used row [] s = on_parts q.target used row (entry_at q.network q.target).place s
stands_reaches q used row (next ∷ rest) s =
    let p = before_parts q.target used row (length (next ∷ rest))
    (subst (λ (d : Demand). may_stand q.target used d row ≡ true) (demand_some q (length rest)) s) in
    ((p.0, p.1, p.2), p.3)

pub reaches_stands : (q : Question) (used : Use) (row : Row) (rest : List Step) → Reaches q row rest
    → IsOpenRow used row → may_stand q.target used (demand_of q (length rest)) row ≡ true
reaches_stands q used row [] r o = on_whole q.target used row (entry_at q.network q.target).place r o
reaches_stands q used row (next ∷ rest) r o =
    subst (λ (d : Demand). may_stand q.target used d row ≡ true) (sym (demand_some q (length rest)))
    (before_whole q.target used row (length (next ∷ rest)) r.0 r.1 r.2 o)

-- ---- labels

pub within-true : (most : ℕ) (label : Option ℕ) → is_within most label ≡ true → IsAtMost most label
within-true most None e = absurd cc
within-true most (Some label) e = leb-true label most e

pub true-within : (most : ℕ) (label : Option ℕ) → IsAtMost most label → is_within most label ≡ true
true-within most None w = absurd w
true-within most (Some label) w = le-leb label most w

pub within_some : (most : ℕ) (o : Option ℕ) → IsAtMost most o → (label : ℕ) × (o ≡ Some label) × (label ≤ most)
within_some most None w = absurd w
within_some most (Some label) w = (label, refl, w)

pub some_within : (most label : ℕ) (o : Option ℕ) → o ≡ Some label → label ≤ most → IsAtMost most o
some_within most label o e le = subst (IsAtMost most) (sym e) le

-- a covered edge that may come there
pub covered_within : (target : Fpr) (used : Use) (demand : Demand) (most : ℕ) (table : Labels) (row : Row)
    → is_covered target used demand most table row ≡ true → may_stand target used demand row ≡ true
    → IsAtMost most (label_at table row.edge.issuer)
covered_within target used demand most table row c s =
    elim (or_cases (is_within most (label_at table row.edge.issuer)) (not (may_stand target used demand row)) c) [
      | inl w ↦ within-true most (label_at table row.edge.issuer) w
      | inr n ↦ let f = not-true (may_stand target used demand row) n in absurd cc
    ]

true-or : (a b : Bool) → (a ≡ true) ⊎ (b ≡ true) → (a || b) ≡ true
true-or true b e = refl
true-or false b (inl e) = absurd cc
true-or false b (inr e) = e

pub within_covered : (target : Fpr) (used : Use) (demand : Demand) (most : ℕ) (table : Labels) (row : Row)
    → (may_stand target used demand row ≡ true → IsAtMost most (label_at table row.edge.issuer))
    → is_covered target used demand most table row ≡ true
within_covered target used demand most table row f = by (may_stand target used demand row) refl
  where
    by : (b : Bool) → may_stand target used demand row ≡ b → is_covered target used demand most table row ≡ true
    by true e = true-or (is_within most (label_at table row.edge.issuer)) (not (may_stand target used demand row))
        (inl (true-within most (label_at table row.edge.issuer) (f e)))
    by false e = true-or (is_within most (label_at table row.edge.issuer)) (not (may_stand target used demand row))
        (inr (ap not e))

-- ---- the first two points, edge by edge

one_is : (o : Option ℕ) → ((label : ℕ) → o ≡ Some label → 1 ≤ label) → IsAtMost 1 o → o ≡ Some 1
one_is o some w = let s = within_some 1 o w in let le = some s.0 s.1 in s.1 ∙ ap Some (omega (arith, le, s.2))

module _ (q : Question) (used : Use) (table : Labels) where
  pub covers_last : ((fpr : Fpr) (label : ℕ) → label_at table fpr ≡ Some label → 1 ≤ label)
      → Covers q used 0 table q.target → LastLabelled q used table
  covers_last some c row r e =
      one_is (label_at table row.edge.issuer) (some row.edge.issuer)
      (covered_within q.target used (demand_of q 0) 1 table row (c row r.into)
      (on_whole q.target used row (entry_at q.network q.target).place e (record { usable = r.usable; left = r.left })))

  pub last_covers : LastLabelled q used table → Covers q used 0 table q.target
  last_covers l row h = within_covered q.target used (demand_of q 0) 1 table row (λ s.
      let p = on_parts q.target used row (entry_at q.network q.target).place s in
      let e = l row (record { into = h; usable = p.1.usable; left = p.1.left }) p.0 in
      some_within 1 1 (label_at table row.edge.issuer) e (omega arith))

  -- the edges into one fingerprint of a label
  abbrev pub LabelledAt : Fpr → ℕ → Type 0
  LabelledAt at label =
      (row : Row) → MayPrecede q used at label row → IsAtMost (label + 1) (label_at table row.edge.issuer)

  pub covers_at : (at : Fpr) (label : ℕ) → 1 ≤ label → Covers q used label table at → LabelledAt at label
  covers_at at zero some c row m = absurd (omega (arith, some))
  covers_at at (suc n) some c row m =
      let s = before_whole q.target used row (suc n) m.depth m.scope m.issuer
      (record { usable = m.carries.usable; left = m.carries.left }) in
      covered_within q.target used (demand_of q (suc n)) (suc n + 1) table row (c row m.carries.into)
      (subst (λ (d : Demand). may_stand q.target used d row ≡ true) (sym (demand_some q n)) s)

  pub at_covers : (at : Fpr) (label : ℕ) → 1 ≤ label → LabelledAt at label → Covers q used label table at
  at_covers at zero some l row h = absurd (omega (arith, some))
  at_covers at (suc n) some l row h = within_covered q.target used (demand_of q (suc n)) (suc n + 1) table row (λ s.
      let p = before_parts q.target used row (suc n)
      (subst (λ (d : Demand). may_stand q.target used d row ≡ true) (demand_some q n) s) in
      l row (record {
        carries = record { into = h; usable = p.3.usable; left = p.3.left };
        depth = p.0;
        scope = p.1;
        issuer = p.2;
      }))
