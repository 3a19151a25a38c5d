-- What each result of a check means.
use Rattle.std.proofs.Common.{◌≡◌, ◌↔◌, true, false, List, [], ◌∷◌, Some, inl, inr, refl, sym, subst}
use Rattle.wot_edge.specs.declared.path.Path.{Path}
use Rattle.wot_edge.specs.Record.{IsRecord}
use Rattle.wot_edge.specs.Path.{Question, Use, use_of}
use Rattle.wot_edge.specs.Sums.{Sums, use_in}
use Rattle.wot_check.specs.declared.checking.Checked.{Checked}
use Rattle.wot_check.specs.declared.checking.Checked.TheVariants.{Yes, BadPaths, BadTable}
use Rattle.wot_check.specs.Claim.{Claim, AreGood, EachShows}
use Rattle.wot_check.specs.Table.{Labels}
use Rattle.wot_check.specs.Absence.{Accepts, Excludes, Rejects, AreSpent, IsChecked, IsAbsence, is_in_order}
use Rattle.wot_check.specs.Trace.{AreUsedBy}
use Rattle.wot_check.proofs.ShownPaths.{each_shows_one}
use Rattle.wot_check.proofs.Trails.{absence_spent}

module _ (q : Question) (good : IsRecord q.network) (claims : List Claim) (table : Labels) where
  clash : Accepts q claims table → Rejects q claims table → ⊥
  clash a r = r.2
      (subst (λ (paths : List Path). IsAbsence q (use_of paths) table) (each_shows_one q good [] claims a.0 r.0 a.1 r.1)
      a.2)

  pub checked_yes : (checked : Checked) → IsChecked q claims table checked → (checked ≡ Yes) ↔ Accepts q claims table
  checked_yes Yes m = (λ e. m, λ a. refl)
  checked_yes BadPaths m = (λ e. absurd cc, λ a. absurd (m (a.0, a.1)))
  checked_yes BadTable m = (λ e. absurd cc, λ a. absurd (clash a m))

  pub checked_bad_paths : (checked : Checked) → IsChecked q claims table checked
      → (checked ≡ BadPaths) ↔ (AreGood q claims → ⊥)
  checked_bad_paths Yes m = (λ e. absurd cc, λ n. absurd (n (m.0, m.1)))
  checked_bad_paths BadPaths m = (λ e. m, λ n. refl)
  checked_bad_paths BadTable m = (λ e. absurd cc, λ n. absurd (n (m.0, m.1)))

  pub checked_bad_table : (checked : Checked) → IsChecked q claims table checked
      → (checked ≡ BadTable) ↔ Rejects q claims table
  checked_bad_table Yes m = (λ e. absurd cc, λ r. absurd (clash m r))
  checked_bad_table BadPaths m = (λ e. absurd cc, λ r. absurd (m (r.0, r.1)))
  checked_bad_table BadTable m = (λ e. m, λ r. refl)

  pub accepts_spent : Accepts q claims table → AreSpent q claims
  accepts_spent a paths each =
      absence_spent q (use_of paths) table
      (subst (λ (ps : List Path). IsAbsence q (use_of ps) table) (each_shows_one q good [] claims a.0 paths a.1 each)
      a.2)

pub disordered_yes : (q : Question) (claims : List Claim) (table : Labels) → is_in_order q ≡ false → claims ≡ []
    → Accepts q claims table
disordered_yes q claims table f e = subst (λ (cs : List Claim). Accepts q cs table) (sym e) ([], tt, inl f)

-- if the target isn't valid, no claim shows a path
pub disordered_bad : (q : Question) (claims : List Claim) → is_in_order q ≡ false → (claims ≡ [] → ⊥) → AreGood q claims
    → ⊥
disordered_bad q [] f some good = some refl
disordered_bad q (claim ∷ claims) f some good = by good.0 good.1
  where
    by : (paths : List Path) → EachShows q [] (claim ∷ claims) paths → ⊥
    by [] s = s
    by (path ∷ paths) s = let g = s.0.valid.in_order in cc

-- the claims are good, and their paths are used
module _ (q : Question) (claims : List Claim) (used : Sums) (table : Labels) (u : AreUsedBy q claims (Some used)) where
  pub accepted : Excludes q (use_in used) table → Accepts q claims table
  accepted x = (u.0, u.1, inr (subst (λ (w : Use). Excludes q w table) u.2 x))

  pub rejected : is_in_order q ≡ true → (Excludes q (use_in used) table → ⊥) → Rejects q claims table
  rejected ok n =
      (u.0, u.1, λ a. elim a [ inl f ↦ cc | inr x ↦ n (subst (λ (w : Use). Excludes q w table) (sym u.2) x) ])

-- each check has exactly one result
pub check_one : (q : Question) (claims : List Claim) (table : Labels) (a b : Checked) → IsRecord q.network
    → IsChecked q claims table a → IsChecked q claims table b → a ≡ b
check_one q claims table Yes b good m n = sym ((checked_yes q good claims table b n).1 m)
check_one q claims table BadPaths b good m n = sym ((checked_bad_paths q good claims table b n).1 m)
check_one q claims table BadTable b good m n = sym ((checked_bad_table q good claims table b n).1 m)
