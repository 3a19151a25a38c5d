-- What a component that grew in its place changes.
use Rattle.std.proofs.Common.{◌≡◌, ℕ, zero, suc, ◌+◌, ◌-◌, ◌<◌, ◌≤◌, ◌^◌, min, List, [], ◌∷◌, ◌++◌, length, refl, sym}
use Rattle.std.proofs.Common.{ap, ◌∙◌, arith}
use Rattle.std.specs.Prelude.{slice_set}
use Rattle.std.specs.List.{slice_index_or}
use Rattle.wot_component.specs.declared.adds.Adds.{Adds}
use Rattle.wot_component.specs.declared.growth.PartStep.{PartStep}
use Rattle.wot_component.specs.Certificate.{Component, Signature}
use Rattle.wot_component.specs.Counts.{sum_of}
use Rattle.wot_component.specs.Growing.{changed_at, shrunk_part, parts_back}
use Rattle.wot_component.specs.Sizes.{sig_size, own_size, part_items, part_signatures, part_size}
use Rattle.wot_component.specs.Totals.{Counts, FollowSigs, FollowParts}
use Rattle.wot_component.proofs.Inserted.{set_same}

lower : (n m : ℕ) → suc n < suc m → n < m
lower n m h = omega arith

none : (n : ℕ) → n < 0 → ⊥
none n h = omega arith

changed_set : {A : Type 0} (at : ℕ) (change : A → A) (xs : List A) (y : A) → at < length xs
    → changed_at at change (slice_set xs at y) ≡ slice_set xs at (change y)
changed_set at change [] y h = absurd (none at h)
changed_set zero change (x ∷ xs) y h = refl
changed_set (suc at) change (x ∷ xs) y h = ap (λ zs. x ∷ zs) (changed_set at change xs y (lower at (length xs) h))

-- the log of one that grew leads back
pub grown_back : (log log' : List PartStep) (s : PartStep) (at : ℕ) (inner : List ℕ) (ps qs : List Component)
    (p q : Component) → at < length ps
    → ((rs : List Component) → parts_back (log ++ s ∷ []) rs ≡ parts_back log (changed_at at (shrunk_part inner) rs))
    → log' ≡ log ++ s ∷ [] → qs ≡ slice_set ps at q → p ≡ slice_index_or ps at p → shrunk_part inner q ≡ p
    → parts_back log' qs ≡ parts_back log ps
grown_back log log' s at inner ps qs p q h step e f there back =
    ap (λ l. parts_back l qs) e ∙ step qs
    ∙ ap (parts_back log)
    (ap (changed_at at (shrunk_part inner)) f ∙ changed_set at (shrunk_part inner) ps q h
    ∙ ap (slice_set ps at) (back ∙ there) ∙ set_same ps at p h)

rest_after : (x r s t : ℕ) → s ≡ r + t → x + s ≡ (x + r) + t
rest_after x r s t h = omega arith

swapped : (a s : ℕ) → a + s ≡ s + a
swapped a s = omega arith

pub record Apart (r s t m n : ℕ) : Type 0 where
  pub old : s ≡ r + m
  pub new : t ≡ r + n

-- the sums before and after one was changed
pub sums_set : {A : Type 0} (m : A → ℕ) (xs : List A) (at : ℕ) (x y : A) → at < length xs → x ≡ slice_index_or xs at x
    → (r : ℕ) × Apart r (sum_of m xs) (sum_of m (slice_set xs at y)) (m x) (m y)
sums_set m [] at x y h e = absurd (none at h)
sums_set m (z ∷ xs) zero x y h e = (
  sum_of m xs,
  record {
    old = ap (λ n. n + sum_of m xs) (ap m (sym e)) ∙ swapped (m x) (sum_of m xs);
    new = swapped (m y) (sum_of m xs);
  },
)
sums_set m (z ∷ xs) (suc at) x y h e =
    let found = sums_set m xs at x y (lower at (length xs) h) e in (
      m z + found.0,
      record {
        old = rest_after (m z) found.0 _ (m x) found.1.old;
        new = rest_after (m z) found.0 _ (m y) found.1.new;
      },
    )

regroup : (b n r o s t : ℕ) → t ≡ r + (o + s) → b ≡ min (n + t) (2 ^ 64 - 1) → b ≡ min (((n + r) + o) + s) (2 ^ 64 - 1)
regroup b n r o s t e h = omega arith

group : (b n r o s t : ℕ) → t ≡ r + (o + s) → b ≡ min (((n + r) + o) + s) (2 ^ 64 - 1) → b ≡ min (n + t) (2 ^ 64 - 1)
group b n r o s t e h = omega arith

counts_in : (a b o s t : ℕ) (S T : ℕ) → ((r : ℕ) × Apart r S T (o + s) (o + t)) → Counts a s b t → Counts a S b T
counts_in a b o s t S T found h before e =
    let r = found.0 in
    group b before r o t T found.1.new (h ((before + r) + o) (regroup a before r o s S found.1.old e))

pub follow_set : (a b : Adds) (ps : List Component) (at : ℕ) (p q : Component) → at < length ps
    → p ≡ slice_index_or ps at p → q.body ≡ p.body → FollowSigs a b p.sigs q.sigs
    → FollowParts a b ps (slice_set ps at q)
follow_set a b ps at p q h e same f =
    let own : own_size q ≡ own_size p = ap own_of same in
    let octets : (r : ℕ)
    × Apart r (sum_of part_size ps) (sum_of part_size (slice_set ps at q)) (part_size p) (part_size q) =
    sums_set part_size ps at p q h e in
    record {
      items = counts_in a.items b.items 1 _ _ _ _ (sums_set part_items ps at p q h e) f.items;
      signatures = counts_in a.signatures b.signatures 0 _ _ _ _ (sums_set part_signatures ps at p q h e) f.signatures;
      octets = counts_in a.octets b.octets (own_size p) _ _ _ _ (
        octets.0,
        record
            { old = octets.1.old; new = octets.1.new ∙ ap (λ n. octets.0 + (n + sum_of sig_size q.sigs)) own },
      )
          f.octets;
    }
  where
    own_of : List ℕ → ℕ
    own_of body = own_size (record { body = body; sigs = [] })

asked_in : (k r s t m n : ℕ) → s ≡ r + (0 + m) → t ≡ r + (0 + n) → k + m ≡ n → k + s ≡ t
asked_in k r s t m n e f h = omega arith

asked_up_to : (k r s t m n : ℕ) → s ≡ r + (0 + m) → t ≡ r + (0 + n) → k + m ≤ n → k + s ≤ t
asked_up_to k r s t m n e f h = omega arith

pub weighed_set : (w : Signature → ℕ) (ps : List Component) (at : ℕ) (p q : Component) (k : ℕ) → at < length ps
    → p ≡ slice_index_or ps at p → k + sum_of w p.sigs ≡ sum_of w q.sigs
    → k + sum_of (λ (x : Component). 0 + sum_of w x.sigs) ps ≡ sum_of (λ (x : Component). 0 + sum_of w x.sigs)
    (slice_set ps at q)
weighed_set w ps at p q k h e s =
    let found = sums_set (λ (x : Component). 0 + sum_of w x.sigs) ps at p q h e in
    asked_in k found.0 _ _ _ _ found.1.old found.1.new s

pub weighed_up_to : (w : Signature → ℕ) (ps : List Component) (at : ℕ) (p q : Component) (k : ℕ) → at < length ps
    → p ≡ slice_index_or ps at p → k + sum_of w p.sigs ≤ sum_of w q.sigs
    → k + sum_of (λ (x : Component). 0 + sum_of w x.sigs) ps ≤ sum_of (λ (x : Component). 0 + sum_of w x.sigs)
    (slice_set ps at q)
weighed_up_to w ps at p q k h e s =
    let found = sums_set (λ (x : Component). 0 + sum_of w x.sigs) ps at p q h e in
    asked_up_to k found.0 _ _ _ _ found.1.old found.1.new s
