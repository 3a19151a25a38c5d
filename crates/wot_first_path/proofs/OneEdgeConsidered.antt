-- One edge is considered.
use Rattle.std.proofs.Common.{◌≡◌, ◌≢◌, ◌⊎◌, inl, inr, ℕ, suc, ◌+◌, ◌<◌, ◌≤◌, min, Bool, true, false, cond, List, []}
use Rattle.std.proofs.Common.{◌∷◌, ◌++◌, length, Option, Some, None, refl, sym, ap, subst, ◌∙◌, arith, leb-true}
use Rattle.std.proofs.Common.{le-leb, not}
use Rattle.std.specs.Prelude.{◌&&◌, ◌||◌, nat_le, nat_lt, nat_eq, is_some}
use Rattle.std.proofs.lemmas.Bool.{lt-ltb, ltb-true, not-true, and_parts, and_from}
use Rattle.wot_types.specs.declared.fpr.Fpr.{Fpr}
use Rattle.wot_types.specs.Fpr.{same_fpr}
use Rattle.wot_types.specs.FprLaws.{same_fpr-true, same_fpr-refl}
use Rattle.wot_edge.specs.declared.demand.Demand.{Demand}
use Rattle.wot_edge.specs.declared.edge.EdgeFacts.{EdgeFacts}
use Rattle.wot_edge.specs.declared.path.Step.{Step}
use Rattle.wot_edge.specs.Demand.{is_met, demand_of}
use Rattle.wot_edge.specs.DemandLaws.{apart-false, demand_some, place-true, suc-zero, true-place}
use Rattle.wot_edge.specs.Record.{Row, Has, IsRecord, rows_into, edges_into, entry_at}
use Rattle.wot_edge.specs.RowLaws.{row_there}
use Rattle.wot_edge.specs.Path.{Question, Reaches, start, step_of, step_left}
use Rattle.wot_first_path.specs.declared.node.Node.{Node}
use Rattle.wot_first_path.specs.declared.node.Goal.{Goal}
use Rattle.wot_first_path.specs.declared.reached.Reached.{Reached}
use Rattle.wot_first_path.specs.Quest.{Quest}
use Rattle.wot_first_path.specs.Suffix.{Serves, Found, Kept, node_of, width}
use Rattle.wot_first_path.specs.Layer.{AtMost, Covered, IsGrowing, is_kept}
use Rattle.wot_first_path.specs.Demand.{is_enough, candidate_of}
use Rattle.wot_first_path.specs.Reached.{look}
use Rattle.wot_first_path.specs.Growth.{if_kept, wanted_of, may_stand_of, IsPut, IsPutIf, IsRest, Advances, IsTaken, IsNoted}
use Rattle.wot_first_path.specs.Growth.{AreNoted}
use Rattle.wot_first_path.proofs.OneSuffixMore.{put_onward, put_covered, put_growing}
use Rattle.wot_first_path.proofs.KeptSuffix.{kept_free, kept_worse, unkept_covered}
use Rattle.wot_first_path.proofs.Layers.{onward_refl}

-- ---- the demand

reaches_met : (q : Question) (row : Row) (rest : List Step) → Reaches q row rest
    → is_met q.target (demand_of q (length rest)) row.edge ≡ true
reaches_met q row [] r = true-place (entry_at q.network q.target).place row.edge.uid r
reaches_met q row (next ∷ rest) r =
    subst (λ (d : Demand). is_met q.target d row.edge ≡ true) (sym (demand_some q (length rest)))
    (and_from (nat_le (length (next ∷ rest)) row.edge.depth) (not (same_fpr row.edge.issuer q.target))
    (le-leb (length (next ∷ rest)) row.edge.depth r.0) (ap not (apart-false row.edge.issuer q.target r.2)))

met_reaches : (q : Question) (row : Row) (rest : List Step)
    → is_met q.target (demand_of q (length rest)) row.edge ≡ true → (nat_eq (length rest) 0 || row.scope) ≡ true
    → Reaches q row rest
met_reaches q row [] m s = place-true (entry_at q.network q.target).place row.edge.uid m
met_reaches q row (next ∷ rest) m s =
    let a = and_parts (nat_le (length (next ∷ rest)) row.edge.depth) (not (same_fpr row.edge.issuer q.target))
    (subst (λ (d : Demand). is_met q.target d row.edge ≡ true) (demand_some q (length rest)) m) in (
      leb-true (length (next ∷ rest)) row.edge.depth a.0,
      subst (λ (b : Bool). (b || row.scope) ≡ true) (suc-zero (length rest)) s,
      λ same. let f =
          not-true (same_fpr row.edge.issuer q.target) a.1 in let g : same_fpr row.edge.issuer q.target ≡ true =
          subst (λ (x : Fpr). same_fpr row.edge.issuer x ≡ true) same (same_fpr-refl row.edge.issuer) in cc,
    )

scope_stands : (q : Question) (row : Row) (rest : List Step) → Reaches q row rest
    → (nat_eq (length rest) 0 || row.scope) ≡ true
scope_stands q row [] r = refl
scope_stands q row (next ∷ rest) r = by (nat_eq (length (next ∷ rest)) 0) row.scope r.1
  where
    by : (a b : Bool) → b ≡ true → (a || b) ≡ true
    by true b e = refl
    by false b e = e

-- ---- the candidate

pub and_not : (a b : Bool) → b ≡ false → (a && b) ≡ false
and_not true b e = e
and_not false b e = refl

pub none_if : (a b : Bool) (x : Node) → b ≡ false → None ≡ cond (a && b) (Some x) None
none_if true b x e = sym (ap (λ (t : Bool). cond t (Some x) None) e)
none_if false b x e = refl

pub some_if : (a b : Bool) (x y : Node) → a ≡ true → b ≡ true → x ≡ y → Some x ≡ cond (a && b) (Some y) None
some_if a b x y e f same = ap Some same ∙ sym (ap (λ (t : Bool). cond t (Some y) None) (and_from a b e f))

cond_some : (b : Bool) (x y : Node) → cond b (Some x) None ≡ Some y → (b ≡ true) × (x ≡ y)
cond_some true x y e = (refl, cc)
cond_some false x y e = absurd cc

cond_none : (b : Bool) (x : Node) → cond b (Some x) None ≡ None → b ≡ false
cond_none true x e = absurd cc
cond_none false x e = refl

if_kept_some : (goal : Goal) (found : Found) (o : Option Node) (node : Node) → if_kept goal found o ≡ Some node
    → (o ≡ Some node) × (is_kept goal node (found node.step.issuer) ≡ true)
if_kept_some goal found None node e = absurd cc
if_kept_some goal found (Some x) node e =
    let s = cond_some (is_kept goal x (found x.step.issuer)) x node e in
    (ap Some s.1, subst (λ (n : Node). is_kept goal n (found n.step.issuer) ≡ true) s.1 s.0)

if_kept_none : (goal : Goal) (found : Found) (node : Node) → if_kept goal found (Some node) ≡ None
    → is_kept goal node (found node.step.issuer) ≡ false
if_kept_none goal found node e = cond_none (is_kept goal node (found node.step.issuer)) node e

-- what is wanted, by the candidate and whether it is kept
pub wanted_none : (goal : Goal) (found : Found) (o : Option Node) → None ≡ o → None ≡ if_kept goal found o
wanted_none goal found o e = ap (if_kept goal found) e

pub wanted_kept : (goal : Goal) (found : Found) (o : Option Node) (node : Node) → Some node ≡ o
    → is_kept goal node (found node.step.issuer) ≡ true → Some node ≡ if_kept goal found o
wanted_kept goal found o node e k = sym (ap (λ (b : Bool). cond b (Some node) None) k) ∙ ap (if_kept goal found) e

pub wanted_unkept : (goal : Goal) (found : Found) (o : Option Node) (node : Node) → Some node ≡ o
    → is_kept goal node (found node.step.issuer) ≡ false → None ≡ if_kept goal found o
wanted_unkept goal found o node e k = sym (ap (λ (b : Bool). cond b (Some node) None) k) ∙ ap (if_kept goal found) e

unkept_found : (goal : Goal) (node : Node) (o : Option Node) → is_kept goal node o ≡ false
    → (old : Node) × (o ≡ Some old)
unkept_found goal node None e = absurd cc
unkept_found goal node (Some old) e = (old, refl)

module _ (quest : Quest) (size wide : ℕ) (edge : EdgeFacts) where
  abbrev made : Node
  made = record { step = step_of edge; size = size + 1; width = min (step_left quest.used (step_of edge)) wide }

  enough : quest.least ≤ step_left quest.used (step_of edge) → size < quest.reach edge.issuer
      → is_enough quest size edge ≡ true
  enough le far =
      and_from (nat_le quest.least (step_left quest.used (step_of edge))) (nat_lt size (quest.reach edge.issuer))
      (le-leb quest.least (step_left quest.used (step_of edge)) le) (lt-ltb size (quest.reach edge.issuer) far)

  candidate_is : (row : Row) (rest : List Step) → length rest ≡ size → row.edge ≡ edge → Reaches quest.question row rest
      → quest.least ≤ step_left quest.used (step_of edge) → length rest < quest.reach edge.issuer
      → candidate_of quest (demand_of quest.question size) size wide edge ≡ Some made
  candidate_is row rest long e r le far =
      let m : is_met quest.question.target (demand_of quest.question size) edge ≡ true =
      subst (λ (n : ℕ). is_met quest.question.target (demand_of quest.question n) edge ≡ true) long
      (subst (λ (x : EdgeFacts). is_met quest.question.target (demand_of quest.question (length rest)) x ≡ true) e
      (reaches_met quest.question row rest r)) in
      ap (λ (b : Bool). cond b (Some made) None)
      (and_from (is_met quest.question.target (demand_of quest.question size) edge) (is_enough quest size edge) m
      (enough le (omega (arith, long, far))))

  candidate_met : (node : Node) → candidate_of quest (demand_of quest.question size) size wide edge ≡ Some node
      → (is_met quest.question.target (demand_of quest.question size) edge ≡ true)
      × (quest.least ≤ step_left quest.used (step_of edge)) × (size < quest.reach edge.issuer) × (made ≡ node)
  candidate_met node e =
      let s = cond_some (is_met quest.question.target (demand_of quest.question size) edge && is_enough quest size edge)
      made node e in
      let a = and_parts (is_met quest.question.target (demand_of quest.question size) edge) (is_enough quest size edge)
      s.0 in
      let b = and_parts (nat_le quest.least (step_left quest.used (step_of edge)))
      (nat_lt size (quest.reach edge.issuer)) a.1 in (
        a.0,
        leb-true quest.least (step_left quest.used (step_of edge)) b.0,
        ltb-true size (quest.reach edge.issuer) b.1,
        s.1,
      )

  made_is : (found : Found) (rest : List Step) → IsRest quest found size edge.target wide rest
      → made ≡ node_of quest.used (step_of edge) rest
  made_is found rest r =
      let l : size + 1 ≡ length (step_of edge ∷ rest) = (let m = r.long in omega (arith, m)) in
      let w : min (step_left quest.used (step_of edge)) wide ≡ width quest.used (step_of edge ∷ rest) =
      ap (λ (n : ℕ). min (step_left quest.used (step_of edge)) n) (sym r.width) in
      λ i. record { step = step_of edge; size = l i; width = w i }

  -- ---- nothing is wanted of it

  pub taken_none : IsRecord quest.question.network → (found : Found) (next : List Fpr)
      → wanted_of quest found (demand_of quest.question size) size wide edge ≡ None
      → (rest : List Step) → IsRest quest found size edge.target wide rest → IsGrowing quest size found next
      → IsTaken quest found edge rest
  taken_none good found next w rest r growing row h e usable reaches le far =
      let c = candidate_is row rest r.long e reaches le far in
      let n : is_kept quest.goal made (found edge.issuer) ≡ false =
      if_kept_none quest.goal found made (subst (λ (o : Option Node). if_kept quest.goal found o ≡ None) c w) in
      let n' : is_kept quest.goal (node_of quest.used (step_of edge) rest) (found edge.issuer) ≡ false =
      subst (λ (x : Node). is_kept quest.goal x (found edge.issuer) ≡ false) (made_is found rest r) n in
      let serves : Serves quest (step_of edge) rest =
      record {
        usable_edge = record { row = row; into = h; usable = usable; shown = ap step_of e; reaches = reaches };
        left = le;
        high = far;
      } in
      unkept_covered quest good found (step_of edge) rest r.kept serves size next growing r.long n'

  pub noted_none : (found : Found) (set : Fpr → Type 0)
      → wanted_of quest found (demand_of quest.question size) size wide edge ≡ None
      → (rest : List Step) → length rest ≡ size → AreNoted found set → IsNoted quest set edge rest
  noted_none found set w rest long noted row h e reaches le far =
      let c = candidate_is row rest long e reaches le far in
      let n : is_kept quest.goal made (found edge.issuer) ≡ false =
      if_kept_none quest.goal found made (subst (λ (o : Option Node). if_kept quest.goal found o ≡ None) c w) in
      let o = unkept_found quest.goal made (found edge.issuer) n in
      noted edge.issuer o.0 o.1

  -- ---- it is wanted

  pub wanted_issuer : (found : Found) (node : Node)
      → wanted_of quest found (demand_of quest.question size) size wide edge ≡ Some node
      → node.step.issuer ≡ edge.issuer
  wanted_issuer found node w =
      let k = if_kept_some quest.goal found (candidate_of quest (demand_of quest.question size) size wide edge) node
      w in
      ap (λ (n : Node). n.step.issuer) (sym (candidate_met node k.0).3)

  module _ (good : IsRecord quest.question.network) (old new : Reached) (node : Node)
      (w : wanted_of quest (look old.nodes) (demand_of quest.question size) size wide edge ≡ Some node) where
    advances_unput : old ≡ new → IsGrowing quest size (look old.nodes) old.layer.items → Advances quest size old new
    advances_unput e growing =
        subst (λ (r : Reached). Advances quest size old r) e
        (record { growing = growing; onward = onward_refl quest size (look old.nodes) })

    module _ (rest : List Step) (r : IsRest quest (look old.nodes) size edge.target wide rest)
        (growing : IsGrowing quest size (look old.nodes) old.layer.items) (row : Row)
        (h : Has (rows_into quest.question.network edge.target) row) (e : row.edge ≡ edge)
        (stands : may_stand_of size row ≡ true) (put : IsPut old new node) where
      abbrev parts : (candidate_of quest (demand_of quest.question size) size wide edge ≡ Some node)
          × (is_kept quest.goal node (look old.nodes node.step.issuer) ≡ true)
      parts = if_kept_some quest.goal (look old.nodes)
          (candidate_of quest (demand_of quest.question size) size wide edge) node w

      is_node : node ≡ node_of quest.used (step_of edge) rest
      is_node = sym (candidate_met node parts.0).3 ∙ made_is (look old.nodes) rest r

      serves : Serves quest (step_of edge) rest
      serves =
          let m = candidate_met node parts.0 in
          let a = and_parts row.usable (nat_eq size 0 || row.scope) stands in
          let met : is_met quest.question.target (demand_of quest.question (length rest)) row.edge ≡ true =
          subst (λ (n : ℕ). is_met quest.question.target (demand_of quest.question n) row.edge ≡ true) (sym r.long)
          (subst (λ (x : EdgeFacts). is_met quest.question.target (demand_of quest.question size) x ≡ true) (sym e)
          m.0) in
          let s : (nat_eq (length rest) 0 || row.scope) ≡ true =
          subst (λ (n : ℕ). (nat_eq n 0 || row.scope) ≡ true) (sym r.long) a.1 in
          record {
            usable_edge = record {
              row = row;
              into = subst (λ (f : Fpr). Has (rows_into quest.question.network f) row) (sym r.there) h;
              usable = a.0;
              shown = ap step_of e;
              reaches = met_reaches quest.question row rest met s;
            };
            left = m.1;
            high = let far = m.2 in let l = r.long in omega (arith, far, l);
          }

      keep : is_kept quest.goal (node_of quest.used (step_of edge) rest) (look old.nodes edge.issuer) ≡ true
      keep = subst (λ (n : Node). is_kept quest.goal n (look old.nodes n.step.issuer) ≡ true) is_node parts.1

      at : look new.nodes edge.issuer ≡ Some (node_of quest.used (step_of edge) rest)
      at =
          let f = put.nodes edge.issuer in
          let same : same_fpr node.step.issuer edge.issuer ≡ true =
          subst (λ (x : Node). same_fpr x.step.issuer edge.issuer ≡ true) (sym is_node)
          (same_fpr-refl edge.issuer) in
          f ∙ ap (λ (b : Bool). cond b (Some node) (look old.nodes edge.issuer)) same ∙ ap Some is_node

      others : (fpr : Fpr) → fpr ≢ edge.issuer → look new.nodes fpr ≡ look old.nodes fpr
      others fpr n =
          let apart : same_fpr node.step.issuer fpr ≡ false =
          subst (λ (x : Node). same_fpr x.step.issuer fpr ≡ false) (sym is_node)
          (apart-false edge.issuer fpr (λ f. n (sym f))) in
          put.nodes fpr ∙ ap (λ (b : Bool). cond b (Some node) (look old.nodes fpr)) apart

      free : (x : Node) → look old.nodes edge.issuer ≡ Some x → x.size ≡ suc size
      free x f = let a =
          kept_free quest good (look old.nodes) (step_of edge) rest r.kept serves keep x f in let l =
          r.long in omega (arith, a, l)

      layer_is : new.layer.items ≡ cond (is_some (look old.nodes edge.issuer)) old.layer.items
          (old.layer.items ++ edge.issuer ∷ [])
      layer_is = subst
          (λ (x : Node). new.layer.items ≡ cond (is_some (look old.nodes x.step.issuer)) old.layer.items
          (old.layer.items ++ x.step.issuer ∷ [])) is_node put.layer

      layer_grows : (xs : List Fpr) (fpr x : Fpr) → Has xs x → Has (xs ++ fpr ∷ []) x
      layer_grows [] fpr x k = absurd k
      layer_grows (y ∷ xs) fpr x (inl f) = inl f
      layer_grows (y ∷ xs) fpr x (inr k) = inr (layer_grows xs fpr x k)

      layer_has : (xs : List Fpr) (fpr : Fpr) → Has (xs ++ fpr ∷ []) fpr
      layer_has [] fpr = inl refl
      layer_has (y ∷ xs) fpr = inr (layer_has xs fpr)

      layer_only : (xs : List Fpr) (fpr x : Fpr) → Has (xs ++ fpr ∷ []) x → Has xs x ⊎ (x ≡ fpr)
      layer_only [] fpr x k = elim k [ inl f ↦ inr f | inr m ↦ absurd m ]
      layer_only (y ∷ xs) fpr x (inl f) = inl (inl f)
      layer_only (y ∷ xs) fpr x (inr k) = elim (layer_only xs fpr x k) [ inl m ↦ inl (inr m) | inr f ↦ inr f ]

      abbrev after : Option Node → List Fpr
      after o = cond (is_some o) old.layer.items (old.layer.items ++ edge.issuer ∷ [])

      after_grows : (o : Option Node) (x : Fpr) → Has old.layer.items x → Has (after o) x
      after_grows None x k = layer_grows old.layer.items edge.issuer x k
      after_grows (Some n) x k = k

      after_only : (o : Option Node) (x : Fpr) → Has (after o) x → Has old.layer.items x ⊎ (x ≡ edge.issuer)
      after_only None x k = layer_only old.layer.items edge.issuer x k
      after_only (Some n) x k = inl k

      after_has : (o : Option Node) → look old.nodes edge.issuer ≡ o → Has (after o) edge.issuer
      after_has None f = layer_has old.layer.items edge.issuer
      after_has (Some n) f =
          let en = growing.entries edge.issuer n f in
          let k = en.kept in
          let eq : look old.nodes edge.issuer ≡ Some (node_of quest.used n.step en.rest) =
          ap (look old.nodes) (sym en.there) ∙ k.0 in
          let l = free (node_of quest.used n.step en.rest) eq in
          subst (λ (z : Fpr). Has old.layer.items z) en.there (growing.layer.all (n.step ∷ en.rest) k l)

      worse : (steps : List Step) → 1 ≤ length steps → Kept quest (look old.nodes) steps
          → start quest.question.target steps ≡ edge.issuer → AtMost quest.used quest.goal (step_of edge ∷ rest) steps
      worse = kept_worse quest good (look old.nodes) (step_of edge) rest r.kept serves keep

      pub advances_put : Advances quest size old new
      advances_put = record {
        growing = put_growing quest size (look old.nodes) (look new.nodes) old.layer.items new.layer.items
            (step_of edge) rest growing r.kept r.long serves free worse at others
            (λ x k. subst (λ (xs : List Fpr). Has xs x) (sym layer_is) (after_grows (look old.nodes edge.issuer) x k))
            (subst (λ (xs : List Fpr). Has xs edge.issuer) (sym layer_is) (after_has (look old.nodes edge.issuer) refl))
            (λ x k. after_only (look old.nodes edge.issuer) x (subst (λ (xs : List Fpr). Has xs x) layer_is k));
        onward = put_onward quest size (look old.nodes) (look new.nodes) old.layer.items new.layer.items (step_of edge)
            rest growing r.kept r.long serves free worse at others;
      }

      pub covered_put : Covered quest (look new.nodes) (step_of edge ∷ rest)
      covered_put =
          put_covered quest size (look old.nodes) (look new.nodes) old.layer.items new.layer.items (step_of edge) rest
          growing r.kept r.long serves free worse at others

    -- what may have been put
    pub advances_if : ((row : Row) → Has (rows_into quest.question.network edge.target) row → row.edge ≡ edge
        → IsPutIf (may_stand_of size row) old new node) → Has (edges_into quest.question.network edge.target) edge
        → (rest : List Step) → IsRest quest (look old.nodes) size edge.target wide rest
        → IsGrowing quest size (look old.nodes) old.layer.items → Advances quest size old new
    advances_if if has rest r growing =
        let t = row_there quest.question.network edge.target edge has in
        by t.0 t.1 t.2 (may_stand_of size t.0) refl (if t.0 t.1 t.2)
      where
        by : (row : Row) → Has (rows_into quest.question.network edge.target) row → row.edge ≡ edge → (b : Bool)
            → may_stand_of size row ≡ b → IsPutIf (may_stand_of size row) old new node → Advances quest size old new
        by row h e true s p = advances_put rest r growing row h e s (subst (λ (b : Bool). IsPutIf b old new node) s p)
        by row h e false s p = advances_unput (subst (λ (b : Bool). IsPutIf b old new node) s p) growing

    pub taken_if : ((row : Row) → Has (rows_into quest.question.network edge.target) row → row.edge ≡ edge
        → IsPutIf (may_stand_of size row) old new node)
        → (rest : List Step) → IsRest quest (look old.nodes) size edge.target wide rest
        → IsGrowing quest size (look old.nodes) old.layer.items → IsTaken quest (look new.nodes) edge rest
    taken_if if rest r growing row h e usable reaches le far =
        let h' = subst (λ (f : Fpr). Has (rows_into quest.question.network f) row) r.there h in
        let s : may_stand_of size row ≡ true =
        and_from row.usable (nat_eq size 0 || row.scope) usable
        (subst (λ (n : ℕ). (nat_eq n 0 || row.scope) ≡ true) r.long
        (scope_stands quest.question row rest reaches)) in
        covered_put rest r growing row h' e s (subst (λ (b : Bool). IsPutIf b old new node) s (if row h' e))

    -- what was found is noted
    pub noted_if : ((row : Row) → Has (rows_into quest.question.network edge.target) row → row.edge ≡ edge
        → IsPutIf (may_stand_of size row) old new node) → Has (edges_into quest.question.network edge.target) edge
        → (set : Fpr → Type 0) → AreNoted (look old.nodes) set → set edge.issuer → AreNoted (look new.nodes) set
    noted_if if has set noted it =
        let t = row_there quest.question.network edge.target edge has in
        by t.0 (may_stand_of size t.0) (if t.0 t.1 t.2)
      where
        at : (put : IsPut old new node) (fpr : Fpr) (x : Node) → look new.nodes fpr ≡ Some x → (b : Bool)
            → same_fpr node.step.issuer fpr ≡ b → set fpr
        at put fpr x f true s =
            subst set (sym (wanted_issuer (look old.nodes) node w) ∙ same_fpr-true node.step.issuer fpr s) it
        at put fpr x f false s =
            noted fpr x (sym (put.nodes fpr ∙ ap (λ (b : Bool). cond b (Some node) (look old.nodes fpr)) s) ∙ f)

        by : (row : Row) (b : Bool) → IsPutIf b old new node → AreNoted (look new.nodes) set
        by row true p = λ fpr x f. at p fpr x f (same_fpr node.step.issuer fpr) refl
        by row false p = subst (λ (r : Reached). AreNoted (look r.nodes) set) p noted
