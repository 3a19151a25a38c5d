-- The edges into one fingerprint that lead on, gathered one after the other.
use Rattle.std.proofs.Common.{◌≡◌, ◌⊎◌, inl, inr, ℕ, ◌+◌, ◌<◌, ◌≤◌, Bool, true, false, List, [], ◌∷◌, ◌++◌, length}
use Rattle.std.proofs.Common.{get_or, drop, refl, sym, subst, ◌∙◌}
use Rattle.std.proofs.lemmas.List.{drop_more, drop_all}
use Rattle.std.proofs.lemmas.List.Elements.{All-push}
use Rattle.wot_types.specs.declared.fpr.Fpr.{Fpr}
use Rattle.wot_edge.specs.declared.edge.EdgeFacts.{EdgeFacts}
use Rattle.wot_edge.specs.Record.{Record, Has, edges_into}
use Rattle.wot_edge.specs.RowLaws.{has_at}
use Rattle.wot_reach.specs.declared.onward.Onward.{Onward}
use Rattle.wot_reach.specs.Onward.{AddsLead, AreOnward, AreUsableIf, IsUsable, IsUsableIf, LeadsOnInto, leads_on}

-- ---- one more edge

has_more : (xs : List EdgeFacts) (x y : EdgeFacts) → Has xs x → Has (xs ++ y ∷ []) x
has_more [] x y h = absurd h
has_more (z ∷ xs) x y (inl e) = inl e
has_more (z ∷ xs) x y (inr h) = inr (has_more xs x y h)

has_last : (xs : List EdgeFacts) (y : EdgeFacts) → Has (xs ++ y ∷ []) y
has_last [] y = inl refl
has_last (z ∷ xs) y = inr (has_last xs y)

has_either : (xs : List EdgeFacts) (x y : EdgeFacts) → Has (xs ++ y ∷ []) x → Has xs x ⊎ (x ≡ y)
has_either [] x y (inl e) = inr e
has_either [] x y (inr h) = absurd h
has_either (z ∷ xs) x y (inl e) = inl (inl e)
has_either (z ∷ xs) x y (inr h) = elim (has_either xs x y h) [ inl k ↦ inl (inr k) | inr e ↦ inr e ]

module _ (network : List ℕ → Record) (number : Fpr → ℕ) (edge : EdgeFacts) where
  pub adds_edge : (old new : Onward) → new.fpr ≡ old.fpr → new.edges.items ≡ old.edges.items ++ edge ∷ []
      → IsUsableIf network old.usable new.usable edge → IsUsableIf network old.all_usable new.all_usable edge
      → AddsLead network number edge old new
  adds_edge old new same e usable all = record {
    all = all;
    fpr = same;
    put = λ yes. subst (λ (xs : List EdgeFacts). Has xs edge) (sym e) (has_last old.edges.items edge);
    keeps = λ other h. subst (λ (xs : List EdgeFacts). Has xs other) (sym e) (has_more old.edges.items other edge h);
    only = λ other h. has_either old.edges.items other edge (subst (λ (xs : List EdgeFacts). Has xs other) e h);
    usable = λ before yes other h.
        let both = usable yes in
        elim (has_either old.edges.items other edge (subst (λ (xs : List EdgeFacts). Has xs other) e h)) [
          | inl k ↦ before both.0 other k
          | inr f ↦ subst (IsUsable network) (sym f) both.1
        ];
  }

  clash : (b : Bool) → b ≡ true → b ≡ false → ⊥
  clash true e f = absurd cc
  clash false e f = absurd cc

  pub adds_none : (one : Onward) (all : Bool) → IsUsableIf network one.all_usable all edge → leads_on number edge ≡ false
      → AddsLead network number edge one (record one { all_usable = all })
  adds_none one all is not = record {
    all = is;
    fpr = refl;
    put = λ yes. absurd (clash (leads_on number edge) yes not);
    keeps = λ other h. h;
    only = λ other h. inl h;
    usable = λ before. before;
  }

-- ---- of these edges those before a place

-- they were gathered
pub record LeadTo (network : List ℕ → Record) (number : Fpr → ℕ) (fpr : Fpr) (edges : List EdgeFacts) (one : Onward)
    (k : ℕ) : Type 0 where
  pub same : one.fpr ≡ fpr
  pub into : (edge : EdgeFacts) → Has one.edges.items edge → Has edges edge
  pub covers : (edge : EdgeFacts) → Has edges edge → leads_on number edge ≡ true
      → Has (drop k edges) edge ⊎ Has one.edges.items edge
  pub usable : AreUsableIf network one.usable one.edges.items
  pub all : one.all_usable ≡ true → (edge : EdgeFacts) → Has edges edge → Has (drop k edges) edge ⊎ IsUsable network edge

has_get : (edges : List EdgeFacts) (k : ℕ) (edge : EdgeFacts) → k < length edges → edge ≡ get_or edges k edge
    → Has edges edge
has_get edges k edge lt is = subst (λ (e : EdgeFacts). Has edges e) (sym is) (has_at edges k edge lt)

module _ (network : List ℕ → Record) (number : Fpr → ℕ) (fpr : Fpr) (edges : List EdgeFacts) where
  pub lead_start : (one : Onward) → one.fpr ≡ fpr → one.edges.items ≡ [] → LeadTo network number fpr edges one 0
  lead_start one same none = record {
    same = same;
    into = λ edge h. absurd (subst (λ (xs : List EdgeFacts). Has xs edge) none h);
    covers = λ edge h lead. inl h;
    all = λ yes edge h. inl h;
    usable = λ yes edge h. absurd (subst (λ (xs : List EdgeFacts). Has xs edge) none h);
  }

  pub lead_more : (old new : Onward) (k : ℕ) (edge : EdgeFacts) → k < length edges → edge ≡ get_or edges k edge
      → LeadTo network number fpr edges old k → AddsLead network number edge old new
      → LeadTo network number fpr edges new (k + 1)
  lead_more old new k edge lt is from adds = record {
    same = adds.fpr ∙ from.same;
    into = λ other h. elim (adds.only other h) [
      | inl k ↦ from.into other k
      | inr e ↦ subst (λ (x : EdgeFacts). Has edges x) (sym e) (has_get edges k edge lt is)
    ];
    covers = λ other h lead. elim (from.covers other h lead) [
      | inl there ↦ elim (subst (λ (xs : List EdgeFacts). Has xs other) (drop_more edges k edge lt) there) [
        | inl f ↦
            let same : edge ≡ other = is ∙ sym f in
            inr (subst (λ (x : EdgeFacts). Has new.edges.items x) same
            (adds.put (subst (λ (x : EdgeFacts). leads_on number x ≡ true) (sym same) lead)))
        | inr more ↦ inl more
      ]
      | inr done ↦ inr (adds.keeps other done)
    ];
    usable = adds.usable from.usable;
    all = λ yes other h.
        let both = adds.all yes in
        elim (from.all both.0 other h) [
          | inl there ↦ elim (subst (λ (xs : List EdgeFacts). Has xs other) (drop_more edges k edge lt) there) [
            | inl f ↦
                let same : edge ≡ other = is ∙ sym f in
                inr (subst (IsUsable network) same both.1)
            | inr more ↦ inl more
          ]
          | inr done ↦ inr done
        ];
  }

  pub lead_end : (one : Onward) (k : ℕ) → ((uid : List ℕ) → edges ≡ edges_into (network uid) fpr) → length edges ≤ k
      → LeadTo network number fpr edges one k → LeadsOnInto network number one.fpr one
  lead_end one k rows le from = subst (λ (f : Fpr). LeadsOnInto network number f one) (sym from.same) (record {
    into = λ uid edge h. subst (λ (xs : List EdgeFacts). Has xs edge) (rows uid) (from.into edge h);
    covers = λ uid edge h lead.
        elim (from.covers edge (subst (λ (xs : List EdgeFacts). Has xs edge) (sym (rows uid)) h) lead) [
          | inl there ↦ absurd (subst (λ (xs : List EdgeFacts). Has xs edge) (drop_all k edges le) there)
          | inr done ↦ done
        ];
    usable = from.usable;
    all = λ uid yes edge h. elim (from.all yes edge (subst (λ (xs : List EdgeFacts). Has xs edge) (sym (rows uid)) h)) [
      | inl there ↦ absurd (subst (λ (xs : List EdgeFacts). Has xs edge) (drop_all k edges le) there)
      | inr done ↦ done
    ];
  })

pub onward_added : (network : List ℕ → Record) (number : Fpr → ℕ) (old new : List Onward) (one : Onward)
    → AreOnward network number old → LeadsOnInto network number one.fpr one → new ≡ old ++ one ∷ []
    → AreOnward network number new
onward_added network number old new one are leads e =
    subst (AreOnward network number) (sym e) (All-push (λ (x : Onward). LeadsOnInto network number x.fpr x) old one are leads)
