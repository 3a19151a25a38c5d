-- What paths use, as sums that are kept.
use Rattle.std.proofs.Common.{◌≡◌, ℕ, ◌+◌, ◌*◌, ◌<◌, ◌≤◌, ◌^◌, Bool, true, false, cond, List, [], ◌∷◌, ◌++◌, length}
use Rattle.std.proofs.Common.{refl, sym, ap, subst, ◌∙◌, arith, append_assoc}
use Rattle.std.specs.List.{list_any}
use Rattle.std.proofs.lemmas.List.{append-nil}
use Rattle.std.proofs.lemmas.List.Sums.{sum_by_push}
use Rattle.wot_types.specs.declared.fpr.Fpr.{Fpr}
use Rattle.wot_types.specs.Fpr.{same_fpr}
use Rattle.wot_edge.specs.declared.path.Path.{Path}
use Rattle.wot_edge.specs.Path.{Use, use_of, path_pair, path_root, is_of}
use Rattle.wot_edge.specs.Sums.{Sums, pair_sum, root_sum, use_in}
use Rattle.wot_check.specs.Using.{AreBelow}

pub use_none : (sums : Sums) → ((issuer target : Fpr) → pair_sum sums issuer target ≡ 0)
    → ((fpr : Fpr) → root_sum sums fpr ≡ 0) → use_in sums ≡ use_of []
use_none sums pairs roots = λ i. record { pair = λ issuer target. pairs issuer target i; root = λ fpr. roots fpr i }

module _ (old new : Sums) (path : Path)
    (pairs : (issuer target : Fpr)
    → pair_sum new issuer target ≡ pair_sum old issuer target + path_pair issuer target path)
    (roots : (fpr : Fpr) → root_sum new fpr ≡ root_sum old fpr + path_root fpr path) where
  pub use_more : (paths : List Path) → use_in old ≡ use_of paths → use_in new ≡ use_of (paths ++ path ∷ [])
  use_more paths e = λ i. record { pair = λ issuer target. pair issuer target i; root = λ fpr. root fpr i }
    where
      pair : (issuer target : Fpr) → pair_sum new issuer target ≡ (use_of (paths ++ path ∷ [])).pair issuer target
      pair issuer target =
          pairs issuer target ∙ ap (λ (u : Use). u.pair issuer target + path_pair issuer target path) e
          ∙ sym (sum_by_push (path_pair issuer target) paths path)

      root : (fpr : Fpr) → root_sum new fpr ≡ (use_of (paths ++ path ∷ [])).root fpr
      root fpr = roots fpr ∙ ap (λ (u : Use). u.root fpr + path_root fpr path) e
          ∙ sym (sum_by_push (path_root fpr) paths path)

  part_le : (b : Bool) (n : ℕ) → n ≤ 255 → cond b n 0 ≤ 255
  part_le true n le = le
  part_le false n le = omega arith

  pub below_more : path.amount ≤ 255 → (most : ℕ) → AreBelow most old → AreBelow (most + 255) new
  below_more le most b = record {
    pairs = λ issuer target.
        let e = pairs issuer target in
        let p = part_le (list_any (is_of issuer target) path.steps) path.amount le in
        let old' = b.pairs issuer target in
        omega (arith, e, p, old');
    roots = λ fpr.
        let e = roots fpr in
        let p = part_le (same_fpr fpr path.root) path.amount le in
        let old' = b.roots fpr in
        omega (arith, e, p, old');
  }

-- ---- so far

-- these paths are used, and the others are still to be gone through
pub record UsedSoFar (sums : Sums) (all done rest : List Path) : Type 0 where
  pub split : done ++ rest ≡ all
  pub used : use_in sums ≡ use_of done
  pub below : AreBelow (255 * length done) sums

push_length : {X : Type 0} (xs : List X) (x : X) → length (xs ++ x ∷ []) ≡ length xs + 1
push_length [] x = refl
push_length (y ∷ xs) x = let e = push_length xs x in omega (arith, e)

parts_length : {X : Type 0} (xs ys : List X) → length (xs ++ ys) ≡ length xs + length ys
parts_length [] ys = omega arith
parts_length (x ∷ xs) ys = let e = parts_length xs ys in omega (arith, e)

pub below_push : (sums : Sums) {X : Type 0} (done : List X) (x : X) → AreBelow (255 * length done + 255) sums
    → AreBelow (255 * length (done ++ x ∷ [])) sums
below_push sums done x b =
    let e = push_length done x in
    subst (λ (n : ℕ). AreBelow n sums) (omega (arith, e)) b

pub below_few : (sums : Sums) (count : ℕ) → count < 2 ^ 24 → AreBelow (255 * count) sums → AreBelow (255 * 2 ^ 24) sums
below_few sums count lt b = record {
  pairs = λ issuer target. let le = b.pairs issuer target in omega (arith, le, lt);
  roots = λ fpr. let le = b.roots fpr in omega (arith, le, lt);
}

pub soon : {X : Type 0} (done rest later all : List X) (x : X) → rest ≡ x ∷ later → done ++ rest ≡ all
    → length done < length all
soon done rest later all x e split =
    let a : length (done ++ rest) ≡ length all = ap length split in
    let b = parts_length done rest in
    let c : length rest ≡ length (x ∷ later) = ap length e in
    omega (arith, a, b, c)

pub used_more : (old new : Sums) (all done rest later : List Path) (path : Path) → rest ≡ path ∷ later
    → UsedSoFar old all done rest
    → use_in new ≡ use_of (done ++ path ∷ []) → AreBelow (255 * length done + 255) new
    → UsedSoFar new all (done ++ path ∷ []) later
used_more old new all done rest later path e u now below = record {
  split = append_assoc done (path ∷ []) later ∙ ap (λ (xs : List Path). done ++ xs) (sym e) ∙ u.split;
  used = now;
  below = below_push new done path below;
}

pub used_all : (sums : Sums) (all done rest : List Path) → length rest ≡ 0 → UsedSoFar sums all done rest
    → use_in sums ≡ use_of all
used_all sums all done [] e u = u.used ∙ ap use_of (sym (append-nil done) ∙ u.split)
used_all sums all done (x ∷ rest) e u = absurd (omega (arith, e))
