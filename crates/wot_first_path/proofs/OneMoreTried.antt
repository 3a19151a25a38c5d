-- One more of the layer is tried.
use Rattle.std.proofs.Common.{◌≡◌, ℕ, ◌+◌, ◌<◌, ◌≤◌, Bool, true, false, cond, List, length, get_or, drop, Option, Some}
use Rattle.std.proofs.Common.{refl, sym, ap, ◌∙◌, arith, le-leb, leb-true}
use Rattle.std.specs.Prelude.{nat_le}
use Rattle.std.proofs.lemmas.List.{drop_more}
use Rattle.wot_types.specs.declared.fpr.Fpr.{Fpr}
use Rattle.wot_edge.specs.Path.{root_left}
use Rattle.wot_first_path.specs.declared.node.Choice.{Choice}
use Rattle.wot_first_path.specs.Quest.{Quest}
use Rattle.wot_first_path.specs.Suffix.{Found}
use Rattle.wot_first_path.specs.Choice.{choice_at, ahead_of, taken, chosen}

pub leb_gt : (a b : ℕ) → b < a → nat_le a b ≡ false
leb_gt a b lt = by (nat_le a b) refl
  where
    by : (t : Bool) → nat_le a b ≡ t → t ≡ false
    by true e = absurd (let f = leb-true a b e in omega (arith, f, lt))
    by false e = refl

module _ (quest : Quest) (found : Found) where
  pub taken_not : (best : Option Choice) (fpr : Fpr) (left : ℕ) → left ≡ root_left quest.question quest.used fpr
      → left < quest.least → best ≡ taken quest found best fpr
  taken_not best fpr left e lt =
      sym (ap (λ (b : Bool). cond b (Some (ahead_of quest.goal (choice_at quest found fpr) best)) best)
      (leb_gt quest.least (root_left quest.question quest.used fpr) (omega (arith, e, lt))))

  pub taken_is : (best : Option Choice) (fpr : Fpr) (left : ℕ) (choice : Choice)
      → left ≡ root_left quest.question quest.used fpr → quest.least ≤ left → choice ≡ choice_at quest found fpr
      → Some (ahead_of quest.goal choice best) ≡ taken quest found best fpr
  taken_is best fpr left choice e le f =
      ap (λ (c : Choice). Some (ahead_of quest.goal c best)) f
      ∙ sym (ap (λ (b : Bool). cond b (Some (ahead_of quest.goal (choice_at quest found fpr) best)) best)
      (le-leb quest.least (root_left quest.question quest.used fpr) (omega (arith, e, le))))

  pub chosen_more : (best best' : Option Choice) (layer : List Fpr) (i : ℕ) (d : Fpr) → i < length layer
      → best' ≡ taken quest found best (get_or layer i d)
      → chosen quest found best' (drop (i + 1) layer) ≡ chosen quest found best (drop i layer)
  chosen_more best best' layer i d lt e =
      ap (λ (b : Option Choice). chosen quest found b (drop (i + 1) layer)) e
      ∙ sym (ap (chosen quest found best) (drop_more layer i d lt))
