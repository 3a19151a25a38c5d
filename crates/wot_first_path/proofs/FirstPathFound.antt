-- From the first layer to the first path.
use Rattle.std.proofs.Common.{◌≡◌, inl, inr, ℕ, suc, ◌+◌, ◌<◌, ◌≤◌, min, List, [], ◌∷◌, length, Option, Some, None}
use Rattle.std.proofs.Common.{refl, sym, ap, subst, ◌∙◌, arith}
use Rattle.std.specs.BTreeMap.{is_at}
use Rattle.std.specs.Map.{lookup}
use Rattle.std.proofs.lemmas.Bool.{cases_lt}
use Rattle.wot_types.specs.declared.fpr.Fpr.{Fpr}
use Rattle.wot_types.specs.Fpr.{fpr_cmp}
use Rattle.wot_edge.specs.declared.path.Path.{Path}
use Rattle.wot_edge.specs.declared.path.Step.{Step}
use Rattle.wot_edge.specs.Record.{Has, IsRecord}
use Rattle.wot_edge.specs.Path.{start, root_left, path_amount}
use Rattle.wot_first_path.specs.declared.node.Choice.{Choice}
use Rattle.wot_first_path.specs.declared.reached.Reached.{Reached}
use Rattle.wot_first_path.specs.Quest.{Quest}
use Rattle.wot_first_path.specs.Suffix.{Found, Kept, node_of, width}
use Rattle.wot_first_path.specs.Choice.{node_width, chosen}
use Rattle.wot_first_path.specs.Layer.{Begins, IsComplete, IsLayer}
use Rattle.wot_first_path.specs.Looked.{IsLooked}
use Rattle.wot_first_path.specs.Reached.{look}
use Rattle.wot_first_path.specs.Rooted.{IsFirst}
use Rattle.wot_first_path.specs.Growth.{IsAfter, IsUnrooted, IsSmall, IsFirstPath, IsTurn, TurnsTo, IsResult}
use Rattle.wot_first_path.proofs.SuffixOrder.{AtMost-le}
use Rattle.wot_first_path.proofs.Layers.{complete_all, looked_all}
use Rattle.wot_first_path.proofs.PickedRoot.{IsPicked, picked, picked_first, picked_none}
use Rattle.wot_first_path.proofs.Rooted.{amount_width}

-- ---- before the first layer

nothing : (reached : Reached) → reached.nodes.entries ≡ [] → (fpr : Fpr) → look reached.nodes fpr ≡ None
nothing reached e fpr = ap (lookup (is_at (fpr_cmp fpr))) e

none_kept : (quest : Quest) (found : Found) → ((fpr : Fpr) → found fpr ≡ None) → (steps : List Step)
    → Kept quest found steps → length steps ≡ 0
none_kept quest found n [] k = refl
none_kept quest found n (x ∷ xs) k =
    absurd (let e : None ≡ Some (node_of quest.used x xs) = sym (n x.issuer) ∙ k.0 in cc)

pub after_begin : (quest : Quest) (reached : Reached) (set : Fpr → Type 0) → reached.nodes.entries ≡ []
    → reached.layer.items ≡ quest.question.target ∷ [] → IsAfter quest 0 reached set
after_begin quest reached set e f = record {
  entries = λ fpr node g. absurd (let h : None ≡ Some node = sym (nothing reached e fpr) ∙ g in cc);
  complete = λ other some few s. absurd (omega (arith, some, few));
  layer = record { each = each; all = all };
  noted = λ fpr node g. absurd (let h : None ≡ Some node = sym (nothing reached e fpr) ∙ g in cc);
  looked = λ rest lt s. absurd (omega (arith, lt));
}
  where
    each : (fpr : Fpr) → Has reached.layer.items fpr → Begins quest (look reached.nodes) 0 fpr
    each fpr h = elim (subst (λ (xs : List Fpr). Has xs fpr) f h) [
      | inl g ↦ record { steps = []; kept = tt; long = refl; there = sym g }
      | inr n ↦ absurd n
    ]

    all : (steps : List Step) → Kept quest (look reached.nodes) steps → length steps ≡ 0
        → Has reached.layer.items (start quest.question.target steps)
    all [] k l = subst (λ (xs : List Fpr). Has xs quest.question.target) (sym f) (inl refl)
    all (x ∷ xs) k l = absurd (omega (arith, l))

pub unrooted_begin : (quest : Quest) (found : Found) → IsUnrooted quest found 1
unrooted_begin quest found steps k some few left = omega (arith, some, few)

-- ---- a turn

pub turn_none : (quest : Quest) (good : IsRecord quest.question.network) (small : IsSmall quest) (found : Found) (size : ℕ)
    (layer : List Fpr)
    → IsLayer quest found size layer → IsUnrooted quest found size → None ≡ chosen quest found None layer
    → IsUnrooted quest found (suc size)
turn_none quest good small found size layer is u e =
    picked_none quest good small found size layer is u
    (subst (IsPicked quest found layer) (sym e) (picked quest found layer))

pub turn_some : (quest : Quest) (good : IsRecord quest.question.network) (small : IsSmall quest) (found : Found) (size : ℕ)
    (layer : List Fpr)
    → IsLayer quest found size layer → IsComplete quest found size → IsUnrooted quest found size → 1 ≤ size → size ≤ 255
    → (choice : Choice) → Some choice ≡ chosen quest found None layer
    → (path : Path)
    → ((steps : List Step) → Kept quest found steps → length steps ≡ size
    → start quest.question.target steps ≡ choice.fpr → path.steps ≡ steps) → path.root ≡ choice.fpr
    → path.amount ≡ choice.width → IsFirstPath quest size path
turn_some quest good small found size layer is complete u pos most choice e path made root amount =
    let c = subst (IsPicked quest found layer) (sym e) (picked quest found layer) in
    let has : Has layer choice.fpr = elim c.1 [ inl n ↦ absurd n | inr h ↦ h ] in
    let b = is.each choice.fpr has in
    let same = made b.steps b.kept b.long b.there in
    let at : start quest.question.target path.steps ≡ choice.fpr = ap (start quest.question.target) same ∙ b.there in
    record {
      first = subst (IsFirst quest) (sym same)
          (picked_first quest good small found size layer is complete u pos most choice c b.steps b.kept b.long
          b.there);
      root = root ∙ sym at;
      amount = amount ∙ ap (λ (x : Choice). x.width) c.0 ∙ by b.steps b.kept b.long b.there
          ∙ sym (ap (path_amount quest.question quest.used) same);
      long = ap length same ∙ b.long;
    }
  where
    by : (steps : List Step) → Kept quest found steps → length steps ≡ size
        → start quest.question.target steps ≡ choice.fpr
        → min (root_left quest.question quest.used choice.fpr) (node_width (found choice.fpr)) ≡ path_amount
        quest.question quest.used steps
    by [] k l t = absurd (omega (arith, l, pos))
    by (x ∷ xs) k l t =
        let w : node_width (found x.issuer) ≡ width quest.used (x ∷ xs) = ap node_width k.0 in
        ap (λ (f : Fpr). min (root_left quest.question quest.used f) (node_width (found f))) (sym t)
        ∙ ap (λ (n : ℕ). min (root_left quest.question quest.used x.issuer) n) w
        ∙ sym (amount_width quest.question quest.used (x ∷ xs) (small x.issuer))

-- what a turn returns after a layer
pub turned : (quest : Quest) (size : ℕ) (reached : Reached) (set : Fpr → Type 0) (found : Option Path)
    → IsRecord quest.question.network → IsSmall quest → IsAfter quest (suc size) reached set
    → IsUnrooted quest (look reached.nodes) (suc size) → TurnsTo quest (size + 1) reached found
    → IsTurn quest (look reached.nodes) (size + 1) found
turned quest size reached set found good small after unrooted turns =
    let n : suc size ≡ size + 1 = omega arith in
    turns good small (subst (λ (m : ℕ). IsLayer quest (look reached.nodes) m reached.layer.items) n after.layer)
    (subst (λ (m : ℕ). IsComplete quest (look reached.nodes) m) n after.complete)
    (subst (λ (m : ℕ). IsUnrooted quest (look reached.nodes) m) n unrooted)

-- ---- the end

module _ (quest : Quest) (size : ℕ) (reached : Reached) (set : Fpr → Type 0)
    (after : IsAfter quest (suc size) reached set) (unrooted : IsUnrooted quest (look reached.nodes) (suc size)) where
  kept_few : (steps : List Step) → Kept quest (look reached.nodes) steps → 1 ≤ length steps → length steps ≤ suc size
  kept_few [] k some = absurd (omega (arith, some))
  kept_few (x ∷ xs) k some = (after.entries x.issuer (node_of quest.used x xs) k.0).few

  kept_fewer : reached.layer.items ≡ [] → (steps : List Step) → Kept quest (look reached.nodes) steps → 1 ≤ length steps
      → length steps < suc size
  kept_fewer e steps k some = elim (cases_lt (length steps) (suc size)) [
    | inl lt ↦ lt
    | inr le ↦
        let few = kept_few steps k some in
        absurd (subst (λ (xs : List Fpr). Has xs (start quest.question.target steps)) e
        (after.layer.all steps k (omega (arith, le, few))))
  ]

  -- If a layer is empty, there is no path.
  pub empty_result : reached.layer.items ≡ [] → IsResult quest None
  empty_result e other r =
      let c = complete_all quest (look reached.nodes) (suc size) (omega arith) after.complete (kept_fewer e) other
      r.some r.suffix in
      let lt = kept_fewer e c.steps c.kept c.some in
      unrooted c.steps c.kept c.some (omega (arith, lt))
      (subst (λ (f : Fpr). quest.least ≤ root_left quest.question quest.used f) (sym c.same) r.root)

  pub empty_looked : reached.layer.items ≡ [] → IsLooked quest 255 set
  empty_looked e =
      looked_all quest (look reached.nodes) (suc size) set (omega arith) after.complete after.looked (kept_fewer e) 255

-- After all layers there is none.
pub last_result : (quest : Quest) (size : ℕ) (reached : Reached) (set : Fpr → Type 0) → 255 ≤ size
    → IsAfter quest size reached set → IsUnrooted quest (look reached.nodes) (suc size) → IsResult quest None
last_result quest size reached set le after u other r =
    let c = after.complete other r.some (let f = r.few in omega (arith, f, le)) r.suffix in
    let m = AtMost-le quest.used quest.goal c.steps other c.most in
    u c.steps c.kept c.some (let f = r.few in omega (arith, m, f, le))
    (subst (λ (f : Fpr). quest.least ≤ root_left quest.question quest.used f) (sym c.same) r.root)

pub looked_fewer : (quest : Quest) (few size : ℕ) (set : Fpr → Type 0) → few ≤ size → IsLooked quest size set
    → IsLooked quest few set
looked_fewer quest few size set le l rest lt s = l rest (omega (arith, lt, le)) s

pub first_result : (quest : Quest) (size : ℕ) (path : Path) → IsFirstPath quest size path → IsResult quest (Some path)
first_result quest size path f = record { first = f.first; root = f.root; amount = f.amount; long = refl }

pub none_there : (xs : List Fpr) → length xs ≡ 0 → xs ≡ []
none_there [] e = refl
none_there (x ∷ xs) e = absurd (omega (arith, e))
