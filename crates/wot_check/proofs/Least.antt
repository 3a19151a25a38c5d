-- After any use there is exactly one least table.
use Rattle.std.proofs.Common.{◌≡◌, ◌⊎◌, inl, inr, ℕ, suc, zero, ◌+◌, ◌<◌, ◌≤◌, Bool, true, false, cond, List, [], ◌∷◌}
use Rattle.std.proofs.Common.{◌++◌, length, map, Ordering, Option, Some, None, refl, sym, ap, subst, ◌∙◌, arith}
use Rattle.std.proofs.lemmas.Bool.{cases_lt}
use Rattle.std.specs.declared.cmp.Ordering.TheVariants.{Less, Equal, Greater}
use Rattle.std.specs.Ordering.{is_eq, match_ordering, ordering_reverse}
use Rattle.std.specs.BTreeMap.{insert_entry, is_at}
use Rattle.std.specs.Map.{keys_of, lookup}
use Rattle.std.specs.Option.{unwrap_or}
use Rattle.std.specs.List.{AllByRecursion, flat_map}
use Rattle.std.specs.List.Sorted.{IsStrictlySortedBy}
use Rattle.std.proofs.lemmas.Cmp.{tied_itself}
use Rattle.wot_types.specs.declared.fpr.Fpr.{Fpr}
use Rattle.wot_types.specs.Fpr.{fpr_cmp, same_fpr}
use Rattle.wot_types.specs.FprLaws.{fpr_exact, fpr_total, same_fpr-refl, same_fpr-true}
use Rattle.wot_edge.specs.declared.path.Path.{Path}
use Rattle.wot_edge.specs.declared.path.Step.{Step}
use Rattle.wot_edge.specs.Answer.{IsAnswer, amount_of}
use Rattle.wot_edge.specs.Record.{blank, Has, Record, Row, rows_into}
use Rattle.wot_edge.specs.Path.{IsSpent, Question, Use, Stands, root_left, start, step_left, step_of, use_of}
use Rattle.wot_edge.specs.declared.demand.Demand.{Demand}
use Rattle.wot_check.specs.Absence.{Accepts, IsAbsence, IsLeast, IsLeastTable, LeastBy, RootsSpent, is_in_order}
use Rattle.wot_check.specs.Claim.{claim_of}
use Rattle.wot_check.specs.Growth.{IsLabel, IsSettled, Labelled}
use Rattle.wot_check.proofs.AfterALayer.{each_next_shows, rooted_left}
use Rattle.wot_edge.specs.Demand.{demand_of}
use Rattle.wot_check.specs.Demand.{Covers, may_stand}
use Rattle.wot_check.specs.Table.{IsTable, IsAtMost, Labels, label_at}
use Rattle.wot_edge.specs.DemandLaws.{demand_some}
use Rattle.wot_check.proofs.Demands.{before_whole, covers_at, covers_last, reaches_stands, stands_reaches}
use Rattle.wot_check.proofs.Demands.{within_covered, within_some}
use Rattle.wot_check.proofs.Entries.{all_has, has_lookup, labels_insert, label_small, lookup_has}
use Rattle.wot_check.proofs.Finite.{Both, Dec, Found, both, decided, find, is_so}
use Rattle.wot_check.proofs.Trails.{Trail, trail_within}

-- ---- tables

less_not : (a b : Fpr) → fpr_cmp a b ≡ Less → same_fpr a b ≡ false
less_not a b less = ap is_eq less

self_not_less : (a : Fpr) → fpr_cmp a a ≡ Less → ⊥
self_not_less a less = let clash : Less ≡ Equal = sym less ∙ tied_itself fpr_total a in absurd cc

turn_back : (a b : Fpr) → fpr_cmp a b ≡ Greater → fpr_cmp b a ≡ Less
turn_back a b greater = fpr_total.antisymm b a ∙ ap ordering_reverse greater

both_less : (a b : Fpr) → fpr_cmp a b ≡ Less → fpr_cmp b a ≡ Less → ⊥
both_less a b one two = self_not_less a (fpr_total.trans a b a one two)

abbrev Above : Fpr → List Fpr → Type 0
Above fpr keys = AllByRecursion (λ k. fpr_cmp fpr k ≡ Less) keys

all_above : (a b : Fpr) (keys : List Fpr) → fpr_cmp a b ≡ Less → Above b keys → Above a keys
all_above a b [] less above = tt
all_above a b (k ∷ keys) less above = (fpr_total.trans a b k less above.0, all_above a b keys less above.1)

-- what is above all keys stays so after an insertion above
above_insert : (low : Fpr) (table : Labels) (fpr : Fpr) (label : ℕ) → fpr_cmp low fpr ≡ Less → Above low (keys_of table)
    → Above low (keys_of (insert_entry fpr_cmp table fpr label))
above_insert low [] fpr label less above = (less, tt)
above_insert low (e ∷ table) fpr label less above =
    elim (fpr_cmp fpr e.0) as
    (λ (o : Ordering). Above low
    (keys_of (match_ordering o ((fpr, label) ∷ e ∷ table) ((e.0, label) ∷ table)
    (e ∷ insert_entry fpr_cmp table fpr label)))) [
      | Less ↦ (less, above)
      | Equal ↦ above
      | Greater ↦ (above.0, above_insert low table fpr label less above.1)
    ]

order_insert : (table : Labels) (fpr : Fpr) (label : ℕ) → IsStrictlySortedBy fpr_cmp (keys_of table)
    → IsStrictlySortedBy fpr_cmp (keys_of (insert_entry fpr_cmp table fpr label))
unfolding IsStrictlySortedBy
order_insert [] fpr label s = (tt, tt)
order_insert (e ∷ table) fpr label s =
    (elim (fpr_cmp fpr e.0) as
    (λ (o : Ordering). fpr_cmp fpr e.0 ≡ o
    → IsStrictlySortedBy fpr_cmp
    (keys_of (match_ordering o ((fpr, label) ∷ e ∷ table) ((e.0, label) ∷ table)
    (e ∷ insert_entry fpr_cmp table fpr label)))) [
      | Less ↦ λ less. ((less, all_above fpr e.0 (keys_of table) less s.0), s)
      | Equal ↦ λ same. s
      | Greater ↦ λ greater.
          (above_insert e.0 table fpr label (turn_back fpr e.0 greater) s.0, order_insert table fpr label s.1)
    ]) refl

empty_sorted : IsStrictlySortedBy fpr_cmp []
unfolding IsStrictlySortedBy
empty_sorted = tt

empty_table : IsTable []
empty_table = record { order = empty_sorted; labels = tt }

pub table_insert : (table : Labels) (fpr : Fpr) (label : ℕ) → IsTable table → 1 ≤ label → label ≤ 255
    → IsTable (insert_entry fpr_cmp table fpr label)
table_insert table fpr label good some few = record {
  order = order_insert table fpr label good.order;
  labels = labels_insert table fpr label good.labels (omega (arith, some), few);
}

-- what a table says after one label is inserted
label_insert : (table : Labels) (fpr : Fpr) (label : ℕ) (other : Fpr)
    → label_at (insert_entry fpr_cmp table fpr label) other ≡ cond (same_fpr other fpr) (Some label)
    (label_at table other)
label_insert [] fpr label other = refl
label_insert (e ∷ table) fpr label other =
    (elim (fpr_cmp fpr e.0) as
    (λ (o : Ordering). fpr_cmp fpr e.0 ≡ o
    → label_at (match_ordering o ((fpr, label) ∷ e ∷ table) ((e.0, label) ∷ table)
    (e ∷ insert_entry fpr_cmp table fpr label)) other ≡ cond (same_fpr other fpr) (Some label)
    (label_at (e ∷ table) other)) [
      | Less ↦ λ less. refl
      | Equal ↦ λ same. at_same (fpr_exact fpr e.0 same)
      | Greater ↦ λ greater. at_later greater (label_insert table fpr label other)
    ]) refl
  where
    at_same : fpr ≡ e.0
        → label_at ((e.0, label) ∷ table) other ≡ cond (same_fpr other fpr) (Some label) (label_at (e ∷ table) other)
    at_same same =
        subst (λ (k : Fpr). label_at ((e.0, label) ∷ table) other ≡ cond (same_fpr other k) (Some label)
        (label_at (e ∷ table) other)) (sym same) (by (same_fpr other e.0))
      where
        by : (b : Bool)
            → cond b (Some label) (label_at table other) ≡ cond b (Some label)
            (cond b (Some e.1) (label_at table other))
        by true = refl
        by false = refl

    at_later : fpr_cmp fpr e.0 ≡ Greater
        → label_at (insert_entry fpr_cmp table fpr label) other ≡ cond (same_fpr other fpr) (Some label)
        (label_at table other)
        → label_at (e ∷ insert_entry fpr_cmp table fpr label) other ≡ cond (same_fpr other fpr) (Some label)
        (label_at (e ∷ table) other)
    at_later greater later = by (same_fpr other e.0) refl (same_fpr other fpr) refl
      where
        by : (b : Bool) → same_fpr other e.0 ≡ b → (c : Bool) → same_fpr other fpr ≡ c
            → cond b (Some e.1) (label_at (insert_entry fpr_cmp table fpr label) other) ≡ cond c (Some label)
            (cond b (Some e.1) (label_at table other))
        by true x true y =
            let same : fpr ≡ e.0 = sym (same_fpr-true other fpr y) ∙ same_fpr-true other e.0 x in
            absurd (self_not_less e.0 (subst (λ (k : Fpr). fpr_cmp e.0 k ≡ Less) same (turn_back fpr e.0 greater)))
        by true x false y = refl
        by false x c y = later ∙ ap (λ (b : Bool). cond b (Some label) (label_at table other)) y

-- ---- tables that say the same

abbrev Includes : Labels → Labels → Type 0
Includes a b = (e : Fpr × ℕ) → Has a e → Has b e

key_has : (table : Labels) (e : Fpr × ℕ) → Has table e → Has (keys_of table) e.0
key_has [] e h = absurd h
key_has (x ∷ table) e (inl same) = inl (ap (λ (z : Fpr × ℕ). z.0) same)
key_has (x ∷ table) e (inr h) = inr (key_has table e h)

later_less : (fpr : Fpr) (table : Labels) (e : Fpr × ℕ) → Above fpr (keys_of table) → Has table e
    → fpr_cmp fpr e.0 ≡ Less
later_less fpr table e above h =
    all_has (λ (k : Fpr). fpr_cmp fpr k ≡ Less) (keys_of table) e.0 above (key_has table e h)

same_tables : (a b : Labels) → IsStrictlySortedBy fpr_cmp (keys_of a) → IsStrictlySortedBy fpr_cmp (keys_of b)
    → Includes a b → Includes b a → a ≡ b
unfolding IsStrictlySortedBy
same_tables [] [] s t f g = refl
same_tables [] (y ∷ b) s t f g = absurd (g y (inl refl))
same_tables (x ∷ a) [] s t f g = absurd (f x (inl refl))
same_tables (x ∷ a) (y ∷ b) s t f g =
    ap (λ (e : Fpr × ℕ). e ∷ a) first ∙ ap (λ (es : Labels). y ∷ es) (same_tables a b s.1 t.1 onward backward)
  where
    first : x ≡ y
    first = elim (f x (inl refl)) [
      | inl same ↦ same
      | inr h ↦ elim (g y (inl refl)) [
        | inl same ↦ sym same
        | inr k ↦ absurd (both_less y.0 x.0 (later_less y.0 b x t.0 h) (later_less x.0 a y s.0 k))
      ]
    ]

    apart : (table : Labels) (z e : Fpr × ℕ) → Above z.0 (keys_of table) → Has table e → e ≡ z → ⊥
    apart table z e above h same =
        self_not_less z.0 (subst (λ (d : Fpr × ℕ). fpr_cmp z.0 d.0 ≡ Less) same (later_less z.0 table e above h))

    onward : Includes a b
    onward e h = elim (f e (inr h)) [ inl same ↦ absurd (apart a x e s.0 h (same ∙ sym first)) | inr k ↦ k ]

    backward : Includes b a
    backward e h = elim (g e (inr h)) [ inl same ↦ absurd (apart b y e t.0 h (same ∙ first)) | inr k ↦ k ]

pub tables_same : (a b : Labels) → IsTable a → IsTable b → ((fpr : Fpr) → label_at a fpr ≡ label_at b fpr) → a ≡ b
tables_same a b s t same =
    same_tables a b s.order t.order (λ e h. lookup_has b e.0 e.1 (sym (same e.0) ∙ has_lookup a s.order e.0 e.1 h))
    (λ e h. lookup_has a e.0 e.1 (same e.0 ∙ has_lookup b t.order e.0 e.1 h))

-- ---- the least table is one

same_labels : (a b : Option ℕ) → ((label : ℕ) → a ≡ Some label → IsAtMost label b)
    → ((label : ℕ) → b ≡ Some label → IsAtMost label a) → a ≡ b
same_labels None None f g = refl
same_labels None (Some y) f g = absurd (g y refl)
same_labels (Some x) None f g = absurd (f x refl)
same_labels (Some x) (Some y) f g = let le = f x refl in let ge = g y refl in ap Some (omega (arith, le, ge))

pub least_one : (q : Question) (used : Use) (a b : Labels) → IsTable a → IsTable b → IsLeastTable q used a
    → IsLeastTable q used b → a ≡ b
least_one q used a b s t = by (is_in_order q)
  where
    by : (o : Bool) → LeastBy o q used a → LeastBy o q used b → a ≡ b
    by false x y = x ∙ sym y
    by true x y =
        tables_same a b s t
        (λ fpr. same_labels (label_at a fpr) (label_at b fpr) (x.least b t y.closes fpr) (y.least a s x.closes fpr))

-- ---- trails of a length

row_key : (network : Record) (at : Fpr) (row : Row) → Has (rows_into network at) row → Has (keys_of network) at
row_key [] at row h = absurd h
row_key (e ∷ network) at row h = by (same_fpr at e.0) refl h (row_key network at row)
  where
    by : (b : Bool) → same_fpr at e.0 ≡ b
        → Has (unwrap_or (cond b (Some e.1) (lookup (is_at (fpr_cmp at)) network)) blank).rows row
        → (Has (rows_into network at) row → Has (keys_of network) at) → Has (keys_of (e ∷ network)) at
    by true same h later = inl (same_fpr-true at e.0 same)
    by false apart h later = inr (later h)

module _ (q : Question) (used : Use) where
  -- a trail of this many steps begins there
  record Led (size : ℕ) (fpr : Fpr) : Type 0 where
    steps : List Step
    trail : Trail q used steps
    long : length steps ≡ size
    there : start q.target steps ≡ fpr

  -- one more step
  led_on : (size : ℕ) (at : Fpr) (row : Row) → Has (rows_into q.network at) row → Led size at
      → may_stand q.target used (demand_of q size) row ≡ true
      → Led (suc size) row.edge.issuer
  led_on size at row h l s =
      let r = stands_reaches q used row l.steps
      (subst (λ (n : ℕ). may_stand q.target used (demand_of q n) row ≡ true) (sym l.long) s) in
      let carries : Stands q (step_of row.edge) l.steps = record {
        row = row;
        into = subst (λ (f : Fpr). Has (rows_into q.network f) row) (sym l.there) h;
        usable = r.1.usable;
        shown = refl;
        reaches = r.0;
      } in
      record {
        steps = step_of row.edge ∷ l.steps;
        trail = (carries, r.1.left, l.trail);
        long = ap suc l.long;
        there = refl;
      }

  -- a row that makes the trail one step longer
  abbrev Leads : ℕ → Fpr → Fpr → Row → Type 0
  Leads size fpr at row =
      Both (may_stand q.target used (demand_of q size) row ≡ true) (same_fpr row.edge.issuer fpr ≡ true)

  abbrev LeadsFrom : ℕ → Fpr → Fpr → Type 0
  LeadsFrom size fpr at = Both (Led size at) (Found (Leads size fpr at) (rows_into q.network at))

  led_by : (size : ℕ) (fpr : Fpr) → Found (LeadsFrom size fpr) (keys_of q.network) → Led (suc size) fpr
  led_by size fpr f =
      let r = f.so.two in
      subst (Led (suc size)) (same_fpr-true r.it.edge.issuer fpr r.so.two)
      (led_on size f.it r.it r.there f.so.one r.so.one)

  by_led : (size : ℕ) (fpr : Fpr) → Led (suc size) fpr → Found (LeadsFrom size fpr) (keys_of q.network)
  by_led size fpr l = by l.steps l.trail l.long l.there
    where
      by : (steps : List Step) → Trail q used steps → length steps ≡ suc size → start q.target steps ≡ fpr
          → Found (LeadsFrom size fpr) (keys_of q.network)
      by [] t long there = absurd (omega (arith, long))
      by (x ∷ rest) t long there =
          let s = t.0 in
          let size_is : length rest ≡ size = omega (arith, long) in
          let left = subst (λ (y : Step). 0 < step_left used y) (sym s.shown) t.1 in
          let carries = reaches_stands q used s.row rest s.reaches (record { usable = s.usable; left = left }) in
          let issuer : s.row.edge.issuer ≡ fpr = ap (λ (y : Step). y.issuer) s.shown ∙ there in
          record {
            it = start q.target rest;
            there = row_key q.network (start q.target rest) s.row s.into;
            so = record {
              one = record { steps = rest; trail = t.2; long = size_is; there = refl };
              two = record {
                it = s.row;
                there = s.into;
                so = record {
                  one = subst (λ (n : ℕ). may_stand q.target used (demand_of q n) s.row ≡ true) size_is carries;
                  two = subst (λ (f : Fpr). same_fpr s.row.edge.issuer f ≡ true) issuer
                      (same_fpr-refl s.row.edge.issuer);
                };
              };
            };
          }

  led_none : (fpr : Fpr) → Led 0 fpr → same_fpr q.target fpr ≡ true
  led_none fpr l = by l.steps l.long l.there
    where
      by : (steps : List Step) → length steps ≡ 0 → start q.target steps ≡ fpr → same_fpr q.target fpr ≡ true
      by [] long there = subst (λ (f : Fpr). same_fpr q.target f ≡ true) there (same_fpr-refl q.target)
      by (x ∷ rest) long there = absurd (omega (arith, long))

  led_so : (size : ℕ) (fpr : Fpr) → Dec (Led size fpr)
  led_so zero fpr =
      decided (λ e. record { steps = []; trail = tt; long = refl; there = same_fpr-true q.target fpr e }) (led_none fpr)
      (is_so (same_fpr q.target fpr))
  led_so (suc size) fpr =
      decided (led_by size fpr) (by_led size fpr) (find (LeadsFrom size fpr)
      (λ at. both (led_so size at)
      (find (Leads size fpr at)
      (λ row. both (is_so (may_stand q.target used (demand_of q size) row))
      (is_so (same_fpr row.edge.issuer fpr))) (rows_into q.network at)))
      (keys_of q.network))

  -- a shortest trail from there has this many steps
  record Shortest (size : ℕ) (fpr : Fpr) : Type 0 where
    led : Led size fpr
    least : (other : ℕ) → 1 ≤ other → Led other fpr → size ≤ other

  -- it has at most this many
  record Nearest (most : ℕ) (fpr : Fpr) : Type 0 where
    size : ℕ
    some : 1 ≤ size
    few : size ≤ most
    short : Shortest size fpr

  abbrev NoneNear : ℕ → Fpr → Type 0
  NoneNear most fpr = (other : ℕ) → 1 ≤ other → other ≤ most → Led other fpr → ⊥

  nearest : (most : ℕ) (fpr : Fpr) → Nearest most fpr ⊎ NoneNear most fpr
  nearest zero fpr = inr (λ other some few l. omega (arith, some, few))
  nearest (suc most) fpr = by (nearest most fpr) (led_so (suc most) fpr)
    where
      by : Nearest most fpr ⊎ NoneNear most fpr → Dec (Led (suc most) fpr)
          → Nearest (suc most) fpr ⊎ NoneNear (suc most) fpr
      by (inl n) d =
          let few = n.few in inl (record { size = n.size; some = n.some; few = omega (arith, few); short = n.short })
      by (inr never) (inl l) = inl (record {
        size = suc most;
        some = omega arith;
        few = omega arith;
        short = record {
          led = l;
          least = λ other some o. elim (cases_lt other (suc most))
              [ inl lt ↦ absurd (never other some (omega (arith, lt)) o) | inr le ↦ le ];
        };
      })
      by (inr never) (inr m) = inr (λ other some few o. elim (cases_lt other (suc most)) [
        | inl lt ↦ never other some (omega (arith, lt)) o
        | inr le ↦ m (subst (λ (n : ℕ). Led n fpr) (omega (arith, le, few)) o)
      ])

  -- ---- the table of the shortest trails

  -- labels of these fingerprints, each by its shortest trail
  record Built (of : List Fpr) : Type 0 where
    table : Labels
    good : IsTable table
    only : (fpr : Fpr) (label : ℕ) → label_at table fpr ≡ Some label → Shortest label fpr
    each : (fpr : Fpr) (size : ℕ) → Has of fpr → 1 ≤ size → size ≤ 255 → Led size fpr
        → IsAtMost size (label_at table fpr)

  built_more : (fpr : Fpr) (of : List Fpr) → Nearest 255 fpr → Built of → Built (fpr ∷ of)
  built_more fpr of n b = record {
    table = insert_entry fpr_cmp b.table fpr n.size;
    good = table_insert b.table fpr n.size b.good n.some n.few;
    only = λ other label e. only other label (same_fpr other fpr) refl
        (sym (label_insert b.table fpr n.size other) ∙ e);
    each = λ other size h some few l.
        subst (IsAtMost size) (sym (label_insert b.table fpr n.size other))
        (each other size (same_fpr other fpr) refl h some few l);
  }
    where
      only : (other : Fpr) (label : ℕ) (s : Bool) → same_fpr other fpr ≡ s
          → cond s (Some n.size) (label_at b.table other) ≡ Some label → Shortest label other
      only other label true same e =
          let size : n.size ≡ label = cc in
          subst (Shortest label) (sym (same_fpr-true other fpr same)) (subst (λ (m : ℕ). Shortest m fpr) size n.short)
      only other label false apart e = b.only other label e

      each : (other : Fpr) (size : ℕ) (s : Bool) → same_fpr other fpr ≡ s → Has (fpr ∷ of) other → 1 ≤ size → size ≤ 255
          → Led size other
          → IsAtMost size (cond s (Some n.size) (label_at b.table other))
      each other size true same h some few l =
          n.short.least size some (subst (Led size) (same_fpr-true other fpr same) l)
      each other size false apart (inl e) some few l =
          let same : same_fpr other fpr ≡ true = subst (λ (f : Fpr). same_fpr other f ≡ true) e (same_fpr-refl other) in
          absurd cc
      each other size false apart (inr h) some few l = b.each other size h some few l

  built : (of : List Fpr) → Built of
  built [] = record
      { table = []; good = empty_table; only = λ fpr label e. absurd cc; each = λ fpr size h some few l. absurd h }
  built (fpr ∷ of) = by (nearest 255 fpr) (built of)
    where
      by : Nearest 255 fpr ⊎ NoneNear 255 fpr → Built of → Built (fpr ∷ of)
      by (inl n) b = built_more fpr of n b
      by (inr never) b = record { table = b.table; good = b.good; only = b.only; each = each }
        where
          each : (other : Fpr) (size : ℕ) → Has (fpr ∷ of) other → 1 ≤ size → size ≤ 255 → Led size other
              → IsAtMost size (label_at b.table other)
          each other size (inl e) some few l = absurd (never size some few (subst (Led size) e l))
          each other size (inr h) some few l = b.each other size h some few l

  -- all who certify
  abbrev issuers_into : Fpr → List Fpr
  issuers_into at = map (λ (row : Row). row.edge.issuer) (rows_into q.network at)

  abbrev all_issuers : List Fpr
  all_issuers = flat_map issuers_into (keys_of q.network)

  issuer_there : (rows : List Row) (row : Row) → Has rows row
      → Has (map (λ (r : Row). r.edge.issuer) rows) row.edge.issuer
  issuer_there [] row h = absurd h
  issuer_there (x ∷ rows) row (inl e) = inl (ap (λ (r : Row). r.edge.issuer) e)
  issuer_there (x ∷ rows) row (inr h) = inr (issuer_there rows row h)

  has_left : (a b : List Fpr) (x : Fpr) → Has a x → Has (a ++ b) x
  has_left [] b x h = absurd h
  has_left (y ∷ a) b x (inl e) = inl e
  has_left (y ∷ a) b x (inr h) = inr (has_left a b x h)

  has_right : (a b : List Fpr) (x : Fpr) → Has b x → Has (a ++ b) x
  has_right [] b x h = h
  has_right (y ∷ a) b x h = inr (has_right a b x h)

  issuer_among : (keys : List Fpr) (at : Fpr) (row : Row) → Has keys at → Has (rows_into q.network at) row
      → Has (flat_map issuers_into keys) row.edge.issuer
  issuer_among [] at row h r = absurd h
  issuer_among (k ∷ keys) at row (inl e) r =
      has_left (issuers_into k) (flat_map issuers_into keys) row.edge.issuer
      (issuer_there (rows_into q.network k) row (subst (λ (f : Fpr). Has (rows_into q.network f) row) e r))
  issuer_among (k ∷ keys) at row (inr h) r =
      has_right (issuers_into k) (flat_map issuers_into keys) row.edge.issuer (issuer_among keys at row h r)

  module _ (b : Built all_issuers) where
    covers_led : (size : ℕ) (at : Fpr) → size < 255 → Led size at → Covers q used size b.table at
    covers_led size at lt l row h = within_covered q.target used (demand_of q size) (size + 1) b.table row (λ s.
        b.each row.edge.issuer (size + 1) (issuer_among (keys_of q.network) at row (row_key q.network at row h) h)
        (omega arith) (omega (arith, lt))
        (subst (λ (n : ℕ). Led n row.edge.issuer) (omega arith) (led_on size at row h l s)))

    some_label : (fpr : Fpr) (label : ℕ) → label_at b.table fpr ≡ Some label → (1 ≤ label) × (label ≤ 255)
    some_label fpr label e =
        let small = label_small b.table b.good.labels fpr label e in
        (let some = small.0 in omega (arith, some), small.1)

    built_least : IsLeast q used b.table
    built_least = record {
      closes = record {
        last = covers_last q used b.table (λ fpr label e. (some_label fpr label e).0)
            (covers_led 0 q.target (omega arith) (record { steps = []; trail = tt; long = refl; there = refl }));
        others = λ at label row e lt m.
            covers_at q used b.table at label (some_label at label e).0 (covers_led label at lt (b.only at label e).led)
            row m;
      };
      least = λ other good c fpr label e.
          let l = (b.only fpr label e).led in
          let small = some_label fpr label e in
          let long = l.long in
          let w = trail_within q used other c l.steps l.trail (omega (arith, long, small.0))
          (omega (arith, long, small.1)) in
          subst (λ (n : ℕ). IsAtMost n (label_at other fpr)) long
          (subst (λ (f : Fpr). IsAtMost (length l.steps) (label_at other f)) l.there w);
    }

    -- ---- its trails

    -- a step may come before fewer
    stands_before : (other : ℕ) (step : Step) (rest : List Step) (s : Stands q step rest) → 0 < step_left used step
        → 1 ≤ other → other < length rest
        → may_stand q.target used (demand_of q other) s.row ≡ true
    stands_before zero step rest s left some lt = absurd (omega (arith, some))
    stands_before (suc n) step [] s left some lt = absurd (omega (arith, lt))
    stands_before (suc n) step (next ∷ rest) s left some lt =
        let r = s.reaches in
        let depth = r.0 in
        let positive = subst (λ (y : Step). 0 < step_left used y) (sym s.shown) left in
        subst (λ (d : Demand). may_stand q.target used d s.row ≡ true) (sym (demand_some q n))
        (before_whole q.target used s.row (suc n) (omega (arith, depth, lt)) r.1 r.2
        (record { usable = s.usable; left = positive }))

    -- each issuer of a shortest trail has the number of steps from there as its label
    labelled : (steps : List Step) → Trail q used steps → length steps ≤ 255
        → ((other : ℕ) → 1 ≤ other → Led other (start q.target steps) → length steps ≤ other)
        → Labelled q used b.table steps
    labelled [] t few least = tt
    labelled (x ∷ rest) t few least = (label_is, t.0, t.1, labelled rest t.2 (omega (arith, few)) shorter)
      where
        issuer : t.0.row.edge.issuer ≡ x.issuer
        issuer = ap (λ (y : Step). y.issuer) t.0.shown

        among : Has all_issuers x.issuer
        among = subst (Has all_issuers) issuer
            (issuer_among (keys_of q.network) (start q.target rest) t.0.row
            (row_key q.network (start q.target rest) t.0.row t.0.into) t.0.into)

        label_is : label_at b.table x.issuer ≡ Some (length (x ∷ rest))
        label_is =
            let led : Led (suc (length rest)) x.issuer =
            record { steps = x ∷ rest; trail = t; long = refl; there = refl } in
            let w = within_some (suc (length rest)) (label_at b.table x.issuer)
            (b.each x.issuer (suc (length rest)) among (omega arith) (omega (arith, few)) led) in
            let le = least w.0 (some_label x.issuer w.0 w.1).0 (b.only x.issuer w.0 w.1).led in
            let most = w.2 in
            w.1 ∙ ap Some (omega (arith, most, le))

        shorter : (other : ℕ) → 1 ≤ other → Led other (start q.target rest) → length rest ≤ other
        shorter other some l = elim (cases_lt other (length rest)) [
          | inl lt ↦
              let on = led_on other (start q.target rest) t.0.row t.0.into l
              (stands_before other x rest t.0 t.1 some lt) in
              let le = least (suc other) (omega arith) (subst (Led (suc other)) issuer on) in
              omega (arith, lt, le)
          | inr le ↦ le
        ]

    settled : IsSettled q used b.table
    settled = record { closes = built_least.closes; labels = is_label }
      where
        is_label : (fpr : Fpr) (label : ℕ) → label_at b.table fpr ≡ Some label → IsLabel q used 255 b.table fpr label
        is_label fpr label e =
            let s = b.only fpr label e in
            let small = some_label fpr label e in
            let long = s.led.long in
            let least : (other : ℕ) → 1 ≤ other → Led other (start q.target s.led.steps) → length s.led.steps ≤ other =
            λ other some l.
            (let le = s.least other some (subst (Led other) s.led.there l) in omega (arith, le, long)) in
            record {
              leads = record {
                steps = s.led.steps;
                labelled = labelled s.led.steps s.led.trail (omega (arith, long, small.1)) least;
                long = s.led.long;
                there = s.led.there;
              };
              some = small.0;
              few = small.1;
            }

    -- if no path is left, no labelled root has a residual amount
    roots_spent : is_in_order q ≡ true → IsSpent q used → RootsSpent q used b.table
    roots_spent ok spent fpr label e = elim (cases_lt 0 (root_left q used fpr)) [
      | inl left ↦
          let path = rooted_left q used b.table ok settled
          (record { fpr = fpr; label = label; labelled = e; left = left }) in
          absurd (spent path.0 path.1)
      | inr le ↦ omega (arith, le)
    ]

  -- what was built is the least table
  built_is : (b : Built all_issuers) (table : Labels) → IsTable table → IsLeast q used table → b.table ≡ table
  built_is b table good l =
      let other = built_least b in
      tables_same b.table table b.good good
      (λ fpr. same_labels (label_at b.table fpr) (label_at table fpr) (other.least table good l.closes fpr)
      (l.least b.table b.good other.closes fpr))

  -- Each label of the least table says how many steps lead from there.
  pub least_settled : (table : Labels) → IsTable table → IsLeast q used table → IsSettled q used table
  least_settled table good l =
      let b = built all_issuers in subst (IsSettled q used) (built_is b table good l) (settled b)

  -- The least table shows that no path is left, if none is.
  pub least_shows : (table : Labels) → IsTable table → IsLeastTable q used table → IsSpent q used
      → IsAbsence q used table
  least_shows table good least spent = by (is_in_order q) refl
    where
      shows : is_in_order q ≡ true → (b : Built all_issuers) → IsLeast q used table → IsAbsence q used table
      shows ok b l =
          inr (record {
            closes = l.closes;
            roots = subst (RootsSpent q used) (built_is b table good l) (roots_spent b ok spent);
          })

      by : (o : Bool) → is_in_order q ≡ o → IsAbsence q used table
      by false e = inl e
      by true e = shows e (built all_issuers) (subst (λ (o : Bool). LeastBy o q used table) e least)

  -- there is a least table
  pub least_some : (table : Labels) × IsTable table × IsLeastTable q used table
  least_some = by (is_in_order q)
    where
      of_built : (b : Built all_issuers) → (table : Labels) × IsTable table × LeastBy true q used table
      of_built b = (b.table, b.good, built_least b)

      by : (o : Bool) → (table : Labels) × IsTable table × LeastBy o q used table
      by false = ([], empty_table, refl)
      by true = of_built (built all_issuers)

-- the proof that is printed for an answer that isn't reached is accepted
pub least_accepted : (q : Question) (wanted : ℕ) (paths : List Path) (table : Labels) → IsTable table
    → IsAnswer q wanted paths → amount_of paths < wanted
    → IsLeastTable q (use_of paths) table → Accepts q (map claim_of paths) table
least_accepted q wanted paths table good answer lt least =
    (paths, each_next_shows q [] paths answer.each, least_shows q (use_of paths) table good least spent)
  where
    spent : IsSpent q (use_of paths)
    spent = elim answer.ends [ inl le ↦ absurd (omega (arith, le, lt)) | inr none ↦ none ]
