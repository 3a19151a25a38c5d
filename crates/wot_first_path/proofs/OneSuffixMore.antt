-- One more suffix is kept.
use Rattle.std.proofs.Common.{◌≡◌, ◌≢◌, ◌⊎◌, inl, inr, ℕ, suc, ◌<◌, ◌≤◌, List, [], ◌∷◌, length, Some, refl, sym, ap}
use Rattle.std.proofs.Common.{subst, ◌∙◌, arith}
use Rattle.wot_types.specs.declared.fpr.Fpr.{Fpr}
use Rattle.wot_edge.specs.declared.path.Step.{Step}
use Rattle.wot_edge.specs.Record.{Has}
use Rattle.wot_edge.specs.Path.{start}
use Rattle.wot_first_path.specs.declared.node.Node.{Node}
use Rattle.wot_first_path.specs.Quest.{Quest}
use Rattle.wot_first_path.specs.Suffix.{Serves, Found, Kept, node_of}
use Rattle.wot_first_path.specs.Layer.{AtMost, Covered, Begins, IsEntry, IsGrowing, Onward}
use Rattle.wot_first_path.proofs.Order.{fpr_cases}
use Rattle.wot_first_path.proofs.SuffixOrder.{AtMost-refl, AtMost-trans}

module _ (quest : Quest) where
  -- what was found at other fingerprints stays
  pub carried : (at : Fpr) (most : ℕ) (old new : Found) → ((fpr : Fpr) → fpr ≢ at → new fpr ≡ old fpr)
      → ((node : Node) → old at ≡ Some node → most < node.size)
      → (steps : List Step) → length steps ≤ most → Kept quest old steps → Kept quest new steps
  carried at most old new same size [] le k = tt
  carried at most old new same size (step ∷ rest) le k =
      let apart : step.issuer ≢ at =
      λ e. let lt : most < length (step ∷ rest) =
      size (node_of quest.used step rest) (ap old (sym e) ∙ k.0) in absurd (omega (arith, lt, le)) in
      (same step.issuer apart ∙ k.0, k.1, carried at most old new same size rest (omega (arith, le)) k.2)

  pub carried_apart : (at : Fpr) (most : ℕ) (old new : Found) → ((fpr : Fpr) → fpr ≢ at → new fpr ≡ old fpr)
      → ((node : Node) → old at ≡ Some node → most < node.size)
      → (step : Step) (rest : List Step) → length rest ≤ most → step.issuer ≢ at → Kept quest old (step ∷ rest)
      → Kept quest new (step ∷ rest)
  carried_apart at most old new same size step rest le apart k =
      (same step.issuer apart ∙ k.0, k.1, carried at most old new same size rest le k.2)

  pub entry_is : (found : Found) (most : ℕ) (fpr : Fpr) (node : Node) → found fpr ≡ Some node
      → (e : IsEntry quest found most fpr node) → node ≡ node_of quest.used node.step e.rest
  entry_is found most fpr node f e =
      let g : Some node ≡ Some (node_of quest.used node.step e.rest) = sym f ∙ ap found (sym e.there) ∙ e.kept.0 in cc

module _ (quest : Quest) (size : ℕ) (old new : Found) (next next' : List Fpr) (step : Step) (rest : List Step)
    (growing : IsGrowing quest size old next) (kept : Kept quest old rest) (long : length rest ≡ size)
    (serves : Serves quest step rest)
    (free : (node : Node) → old step.issuer ≡ Some node → node.size ≡ suc size)
    (worse : (steps : List Step) → 1 ≤ length steps → Kept quest old steps
    → start quest.question.target steps ≡ step.issuer → AtMost quest.used quest.goal (step ∷ rest) steps)
    (at : new step.issuer ≡ Some (node_of quest.used step rest))
    (same : (fpr : Fpr) → fpr ≢ step.issuer → new fpr ≡ old fpr) where
  long' : length (step ∷ rest) ≡ suc size
  long' = omega (arith, long)

  old_size : (node : Node) → old step.issuer ≡ Some node → size < node.size
  old_size node e = let f = free node e in omega (arith, f)

  new_size : (node : Node) → new step.issuer ≡ Some node → size < node.size
  new_size node e =
      let same' : node_of quest.used step rest ≡ node =
      (let f : Some (node_of quest.used step rest) ≡ Some node = sym at ∙ e in cc) in
      let l : length (step ∷ rest) ≡ node.size = ap (λ (n : Node). n.size) same' in
      omega (arith, l, long)

  back : (fpr : Fpr) → fpr ≢ step.issuer → old fpr ≡ new fpr
  back fpr n = sym (same fpr n)

  mine : Kept quest new (step ∷ rest)
  mine = (at, serves, carried quest step.issuer size old new same old_size rest (omega (arith, long)) kept)

  few : (x : Step) (xs : List Step) → Kept quest old (x ∷ xs) → length xs ≤ size
  few x xs k = let e : length (x ∷ xs) ≤ suc size =
      (growing.entries x.issuer (node_of quest.used x xs) k.0).few in omega (arith, e)

  covers : (other : List Step) → Covered quest old other → Covered quest new other
  covers other c = by c.steps c.kept c.some c.same c.most
    where
      by : (steps : List Step) → Kept quest old steps → 1 ≤ length steps
          → start quest.question.target steps ≡ start quest.question.target other
          → AtMost quest.used quest.goal steps other → Covered quest new other
      by [] k some e m = absurd (omega arith)
      by (x ∷ xs) k some e m = elim (fpr_cases x.issuer step.issuer) [
        | inl f ↦ record {
          steps = step ∷ rest;
          kept = mine;
          some = omega arith;
          same = sym f ∙ e;
          most = AtMost-trans quest.used quest.goal (step ∷ rest) (x ∷ xs) other (worse (x ∷ xs) some k f) m;
        }
        | inr n ↦ record {
          steps = x ∷ xs;
          kept = carried_apart quest step.issuer size old new same old_size x xs (few x xs k) n k;
          some = some;
          same = e;
          most = m;
        }
      ]

  pub put_onward : Onward quest size old new
  put_onward = record {
    keeps = λ steps le k. carried quest step.issuer size old new same old_size steps le k;
    kept = λ steps le k. carried quest step.issuer size new old back new_size steps le k;
    covers = covers;
  }

  pub put_covered : Covered quest new (step ∷ rest)
  put_covered =
      record {
        steps = step ∷ rest;
        kept = mine;
        some = omega arith;
        same = refl;
        most = AtMost-refl quest.used quest.goal (step ∷ rest);
      }

  entries : (fpr : Fpr) (node : Node) → new fpr ≡ Some node → IsEntry quest new (suc size) fpr node
  entries fpr node e = elim (fpr_cases fpr step.issuer) [
    | inl f ↦
        let is : node_of quest.used step rest ≡ node =
        (let g : Some (node_of quest.used step rest) ≡ Some node = sym at ∙ ap new (sym f) ∙ e in cc) in
        subst (λ (n : Node). IsEntry quest new (suc size) fpr n) is
        (record { rest = rest; kept = mine; few = omega (arith, long'); there = sym f })
    | inr n ↦
        let g : old fpr ≡ Some node = sym (same fpr n) ∙ e in
        let o = growing.entries fpr node g in
        let is = entry_is quest old (suc size) fpr node g o in
        let l : node.size ≡ length (node.step ∷ o.rest) = ap (λ (x : Node). x.size) is in
        let f = o.few in
        record {
          rest = o.rest;
          kept = carried_apart quest step.issuer size old new same old_size node.step o.rest (omega (arith, l, f))
              (λ h. n (sym o.there ∙ h)) o.kept;
          few = o.few;
          there = o.there;
        }
  ]

  pub put_growing : ((fpr : Fpr) → Has next fpr → Has next' fpr) → Has next' step.issuer
      → ((fpr : Fpr) → Has next' fpr → Has next fpr ⊎ (fpr ≡ step.issuer)) → IsGrowing quest size new next'
  put_growing grows has gains = record {
    entries = entries;
    complete = λ other some le s. covers other (growing.complete other some le s);
    layer = record { each = λ fpr h. each fpr (gains fpr h); all = all };
  }
    where
      me : (fpr : Fpr) → step.issuer ≡ fpr → Begins quest new (suc size) fpr
      me fpr e = record { steps = step ∷ rest; kept = mine; long = long'; there = e }

      each : (fpr : Fpr) → Has next fpr ⊎ (fpr ≡ step.issuer) → Begins quest new (suc size) fpr
      each fpr (inr e) = me fpr (sym e)
      each fpr (inl h) = (let b = growing.layer.each fpr h in by b.steps b.kept b.long b.there)
        where
          by : (steps : List Step) → Kept quest old steps → length steps ≡ suc size
              → start quest.question.target steps ≡ fpr → Begins quest new (suc size) fpr
          by [] k l e = absurd (omega (arith, l))
          by (x ∷ xs) k l e = elim (fpr_cases x.issuer step.issuer) [
            | inl f ↦ me fpr (sym f ∙ e)
            | inr n ↦ record {
              steps = x ∷ xs;
              kept = carried_apart quest step.issuer size old new same old_size x xs (omega (arith, l)) n k;
              long = l;
              there = e;
            }
          ]

      all : (steps : List Step) → Kept quest new steps → length steps ≡ suc size
          → Has next' (start quest.question.target steps)
      all [] k l = absurd (omega (arith, l))
      all (x ∷ xs) k l = elim (fpr_cases x.issuer step.issuer) [
        | inl f ↦ subst (λ (z : Fpr). Has next' z) (sym f) has
        | inr n ↦ grows x.issuer
            (growing.layer.all (x ∷ xs)
            (carried_apart quest step.issuer size new old back new_size x xs (omega (arith, l)) n k) l)
      ]
