-- One layer, fingerprint by fingerprint.
use Rattle.std.proofs.Common.{◌≡◌, ◌⊎◌, inl, inr, ℕ, suc, ◌+◌, ◌<◌, ◌≤◌, List, [], ◌∷◌, length, get_or, drop, refl, sym}
use Rattle.std.proofs.Common.{ap, subst, ◌∙◌, arith}
use Rattle.std.proofs.lemmas.List.{drop_more, drop_all}
use Rattle.wot_types.specs.declared.fpr.Fpr.{Fpr}
use Rattle.wot_edge.specs.declared.edge.EdgeFacts.{EdgeFacts}
use Rattle.wot_edge.specs.declared.path.Step.{Step}
use Rattle.wot_edge.specs.Leads.{Leads, IsRoute, beginning}
use Rattle.wot_edge.specs.Record.{Has, edges_into}
use Rattle.wot_edge.specs.Path.{start}
use Rattle.wot_first_path.specs.declared.reached.Reached.{Reached}
use Rattle.wot_first_path.specs.Quest.{Quest}
use Rattle.wot_first_path.specs.Suffix.{Suffix, Found, Kept, node_of}
use Rattle.wot_first_path.specs.Layer.{IsLayer, IsGrowing, Onward, Begins}
use Rattle.wot_first_path.specs.Looked.{IsSeen, IsNearOne, Widens}
use Rattle.wot_first_path.specs.Reached.{look}
use Rattle.wot_first_path.specs.Growth.{AreTaken, AreNoted, IsAfter, IsUnrooted, Advances, Considers, IsReady, Only}
use Rattle.wot_edge.specs.RowLaws.{row_edge}
use Rattle.wot_first_path.proofs.Layers.{onward_refl, onward_trans, complete_more, looked_grows, looked_more, seen_grows}
use Rattle.wot_first_path.proofs.Suffixes.{kept_suffix}

module _ (quest : Quest) (size : ℕ) where
  abbrev pub LayerTaken : Found → List Fpr → Type 0
  LayerTaken found layer =
      (rest : List Step) → Kept quest found rest → length rest ≡ size → Has layer (start quest.question.target rest)
      → AreTaken quest found rest

  -- in whatever is found later, what is taken from a place on is taken from the beginning on
  abbrev pub LayerFrom : Found → List Fpr → ℕ → Type 0
  LayerFrom now layer i =
      (found : Found) → Onward quest size now found → LayerTaken found (drop i layer) → LayerTaken found layer

  pub layer_more : (now new : Found) (layer : List Fpr) (i : ℕ) (d : Fpr) → i < length layer → LayerFrom now layer i
      → Onward quest size now new
      → ((rest : List Step) → Kept quest now rest → length rest ≡ size
      → start quest.question.target rest ≡ get_or layer i d → AreTaken quest new rest) → LayerFrom new layer (i + 1)
  layer_more now new layer i d lt from on t found on' all =
      from found (onward_trans quest size now new found on on')
      (subst (λ (xs : List Fpr). LayerTaken found xs) (sym (drop_more layer i d lt)) (λ rest k l h. elim h [
        | inl e ↦ λ step s. on'.covers (step ∷ rest)
            (t rest (on.kept rest (omega (arith, l)) (on'.kept rest (omega (arith, l)) k)) l e step s)
        | inr m ↦ all rest k l m
      ]))

  pub layer_end : (now : Found) (layer : List Fpr) (i : ℕ) → length layer ≤ i → LayerFrom now layer i
      → LayerTaken now layer
  layer_end now layer i le from =
      from now (onward_refl quest size now)
      (subst (λ (xs : List Fpr). LayerTaken now xs) (sym (drop_all i layer le)) (λ rest k l h. absurd h))

  abbrev pub LayerSeen : (Fpr → Type 0) → List Fpr → Type 0
  LayerSeen set layer =
      (rest : List Step) → length rest ≡ size → Has layer (start quest.question.target rest) → IsSeen quest set rest

  abbrev pub SeenFrom : (Fpr → Type 0) → List Fpr → ℕ → Type 0
  SeenFrom now layer i =
      (rest : List Step) → length rest ≡ size → Has layer (start quest.question.target rest)
      → Has (drop i layer) (start quest.question.target rest) ⊎ IsSeen quest now rest

  pub seen_more : (now new : Fpr → Type 0) (layer : List Fpr) (i : ℕ) (d : Fpr) → i < length layer
      → SeenFrom now layer i → Widens now new
      → ((rest : List Step) → length rest ≡ size → start quest.question.target rest ≡ get_or layer i d
      → IsSeen quest new rest) → SeenFrom new layer (i + 1)
  seen_more now new layer i d lt from on t rest l h = elim (from rest l h) [
    | inl there ↦
        elim (subst (λ (xs : List Fpr). Has xs (start quest.question.target rest)) (drop_more layer i d lt) there) [
          | inl e ↦ inr (t rest l e)
          | inr k ↦ inl k
        ]
    | inr s ↦ inr (seen_grows quest now new rest on s)
  ]

  pub seen_end : (now : Fpr → Type 0) (layer : List Fpr) (i : ℕ) → length layer ≤ i → SeenFrom now layer i
      → LayerSeen now layer
  seen_end now layer i le from rest l h = elim (from rest l h) [
    | inl there ↦ absurd
        (subst (λ (xs : List Fpr). Has xs (start quest.question.target rest)) (drop_all i layer le) there)
    | inr s ↦ s
  ]

  -- a fingerprint of the layer is ready as long as the layer grows
  pub ready_at : (old now : Reached) (layer : List Fpr) (at : Fpr) → IsReady quest size (Has layer) old
      → Advances quest size old now → Has layer at → IsReady quest size (Only at) now
  ready_at old now layer at ready a has =
      let b = ready.begins at has in
      let l = b.long in
      record {
        growing = a.growing;
        begins = λ fpr e. record {
          steps = b.steps;
          kept = a.onward.keeps b.steps (omega (arith, l)) b.kept;
          long = b.long;
          there = b.there ∙ sym e;
        };
      }

  -- ---- a layer begins, and ends

  pub growing_start : (reached : Reached) (set : Fpr → Type 0) → IsAfter quest size reached set
      → IsGrowing quest size (look reached.nodes) []
  growing_start reached set a = record {
    entries = λ fpr node e. let n =
        a.entries fpr node e in
        record { rest = n.rest; kept = n.kept; few = (let f = n.few in omega (arith, f)); there = n.there };
    complete = a.complete;
    layer = record { each = λ fpr h. absurd h; all = all };
  }
    where
      all : (steps : List Step) → Kept quest (look reached.nodes) steps → length steps ≡ suc size
          → Has [] (start quest.question.target steps)
      all [] k l = omega (arith, l)
      all (x ∷ xs) k l =
          (let f : length (x ∷ xs) ≤ size = (a.entries x.issuer (node_of quest.used x xs) k.0).few in
          omega (arith, l, f))

  -- before the edges into the last layer are considered, when the next layer is still empty
  pub ready_start : (reached emptied : Reached) (layer : List Fpr) (set : Fpr → Type 0) → IsAfter quest size reached set
      → look emptied.nodes ≡ look reached.nodes → emptied.layer.items ≡ [] → layer ≡ reached.layer.items
      → IsReady quest size (Has layer) emptied
  ready_start reached emptied layer set a same empty last = record {
    growing = subst (λ (f : Found). IsGrowing quest size f emptied.layer.items) (sym same)
        (subst (λ (xs : List Fpr). IsGrowing quest size (look reached.nodes) xs) (sym empty)
        (growing_start reached set a));
    begins = λ fpr h. subst (λ (f : Found). Begins quest f size fpr) (sym same)
        (a.layer.each fpr (subst (λ (xs : List Fpr). Has xs fpr) last h));
  }

  -- after they were considered
  pub after_more : (old emptied new : Reached) (layer : List Fpr) (before after : Fpr → Type 0)
      → Considers quest size (Has layer) emptied new before after → IsAfter quest size old before
      → look emptied.nodes ≡ look old.nodes → emptied.layer.items ≡ [] → layer ≡ old.layer.items → Widens before after
      → IsAfter quest (suc size) new after
  after_more old emptied new layer before after all a same empty last widens =
      let ready = ready_start old emptied layer before a same empty last in
      let grown = all.grows ready in
      let noted = subst (λ (f : Found). AreNoted f before) (sym same) a.noted in
      let in_layer : (rest : List Step) → Kept quest (look emptied.nodes) rest → length rest ≡ size
      → Has layer (start quest.question.target rest) = (λ rest k l.
      subst (λ (xs : List Fpr). Has xs (start quest.question.target rest)) (sym last)
      (a.layer.all rest (subst (λ (f : Found). Kept quest f rest) same k) l)) in
      record {
        entries = grown.growing.entries;
        complete = complete_more quest (look new.nodes) size grown.growing.complete (λ rest k l step s.
            let k' = grown.onward.kept rest (omega (arith, l)) k in
            all.taken ready rest (record { long = l; there = in_layer rest k' l }) k' step s);
        layer = grown.growing.layer;
        noted = all.noted noted;
        looked = looked_more quest (look new.nodes) size after grown.growing.complete
            (looked_grows quest size before after widens a.looked)
            (λ rest k l. all.seen noted rest
            (record { long = l; there = in_layer rest (grown.onward.kept rest (omega (arith, l)) k) l }));
      }

  pub unrooted_more : (old new : Found) → Onward quest size old new → IsUnrooted quest old (suc size)
      → IsUnrooted quest new (suc size)
  unrooted_more old new on u steps k some few left = u steps (on.kept steps (omega (arith, few)) k) some few left

-- ---- what was looked at leads to the target

suffix_route : (quest : Quest) (steps : List Step) → Suffix quest steps
    → (route : List EdgeFacts) × IsRoute quest.question.network quest.question.target route
    × (beginning quest.question.target route ≡ start quest.question.target steps)
suffix_route quest [] s = ([], tt, refl)
suffix_route quest (step ∷ rest) s =
    let r = suffix_route quest rest s.1 in
    let row = s.0.usable_edge.row in (
      row.edge ∷ r.0,
      (
        subst (λ (f : Fpr). Has (edges_into quest.question.network f) row.edge) (sym r.2)
            (row_edge quest.question.network (start quest.question.target rest) row s.0.usable_edge.into),
        r.1,
      ),
      ap
          (λ (x : Step). x.issuer) s.0.usable_edge.shown,
    )

pub near_leads : (quest : Quest) (found : Found) (size : ℕ) (layer : List Fpr) (fpr : Fpr)
    → IsLayer quest found size layer → IsNearOne quest.question.network layer fpr
    → Leads quest.question.network quest.question.target fpr
near_leads quest found size layer fpr is n =
    let b = is.each n.0 n.1 in
    let r = suffix_route quest b.steps (kept_suffix quest found b.steps b.kept) in
    elim n.2 [
      | inl e ↦ (r.0, r.1, e ∙ sym b.there ∙ sym r.2)
      | inr m ↦ (
        m.0.edge ∷ r.0,
        (
          subst (λ (f : Fpr). Has (edges_into quest.question.network f) m.0.edge) (sym (r.2 ∙ b.there))
              (row_edge quest.question.network n.0 m.0 m.1),
          r.1,
        ),
        m.2,
      )
    ]
