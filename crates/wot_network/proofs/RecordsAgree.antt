-- If certificates and verdicts agree on a set, so do their records.
use Rattle.std.proofs.Common.{◌≡◌, ℕ, Bool, false, List, [], ◌∷◌, map, Option, Some, None, refl, sym, ap, subst, ◌∙◌}
use Rattle.std.specs.List.{AllByRecursion}
use Rattle.std.specs.Map.{lookup}
use Rattle.std.specs.Option.{option_map_or}
use Rattle.wot_types.specs.declared.fpr.Fpr.{Fpr}
use Rattle.wot_verdict.specs.Verdicts.{Entries}
use Rattle.wot_component.specs.Certificate.{Component, Certificate}
use Rattle.wot_component.specs.Counts.{all_sigs}
use Rattle.wot_edge.specs.declared.edge.EdgeFacts.{EdgeFacts}
use Rattle.wot_edge.specs.Agree.{Agree, scoped_edge}
use Rattle.wot_edge.specs.Path.{asks}
use Rattle.wot_edge.specs.Record.{Has, Row, Entry, blank, entry_at, rows_into}
use Rattle.wot_keyring_spec.specs.Keyring.{Certificates, is_fpr}
use Rattle.wot_keyring_spec.specs.Later.{SaysSame}
use Rattle.wot_live.specs.Rows.{edges_of}
use Rattle.wot_standing.specs.Standing.{standing_of}
use Rattle.wot_standing.specs.Usable.{is_usable}
use Rattle.wot_network.specs.Local.{AgreeAt, AgreeOn, SameAmounts}
use Rattle.wot_network.specs.Records.{row_of, entry_of, record_of, is_usable_by, is_in_scope, is_user_id}
use Rattle.wot_network.proofs.LookupsAgree.{entry_some, entry_none, row_told}
use Rattle.wot_network.proofs.Verdicts.{standing_same, edges_same, in_order_same}

-- an edge, and whether its scope covers U, by the user IDs of its target
abbrev scoped_by : List Component → List ℕ → EdgeFacts → EdgeFacts × Bool
scoped_by user_ids u edge = (edge, is_in_scope user_ids u edge)

scoped_kept : (verdicts : Entries) (certs : Certificates) (t : ℕ) (u : List ℕ) (c : Certificate)
    (edges : List EdgeFacts)
    → map scoped_edge (map (row_of verdicts certs t u c) edges) ≡ map (scoped_by c.user_ids u) edges
scoped_kept verdicts certs t u c [] = refl
scoped_kept verdicts certs t u c (edge ∷ edges) =
    ap (λ (rest : List (EdgeFacts × Bool)). scoped_by c.user_ids u edge ∷ rest) (scoped_kept verdicts certs t u c edges)

module _ (certs others : Certificates) (verdicts other : Entries) (t : ℕ) (u : List ℕ) where
  -- what both make of a fingerprint on which they agree
  both : (fpr : Fpr) → AgreeAt certs verdicts others other fpr → (P : Entry → Entry → Type 0) → P blank blank
      → ((c : Certificate) → AllByRecursion (SaysSame verdicts other) (all_sigs c) →
      P (entry_of verdicts certs t u c) (entry_of other others t u c))
      → P (entry_at (record_of certs verdicts t u) fpr) (entry_at (record_of others other t u) fpr)
  both fpr agree P absent present = by (lookup (is_fpr fpr) certs) refl
    where
      by : (found : Option Certificate) → lookup (is_fpr fpr) certs ≡ found →
          P (entry_at (record_of certs verdicts t u) fpr) (entry_at (record_of others other t u) fpr)
      by None e =
          subst (λ (x : Entry). P x (entry_at (record_of others other t u) fpr))
          (sym (entry_none certs verdicts t u fpr e))
          (subst (P blank) (sym (entry_none others other t u fpr (sym agree.same ∙ e))) absent)
      by (Some c) e =
          subst (λ (x : Entry). P x (entry_at (record_of others other t u) fpr))
          (sym (entry_some certs verdicts t u fpr c e))
          (subst (P (entry_of verdicts certs t u c)) (sym (entry_some others other t u fpr c (sym agree.same ∙ e)))
          (present c (agree.said c e)))

  rows_agree : (fpr : Fpr) → AgreeAt certs verdicts others other fpr
      → map scoped_edge (rows_into (record_of certs verdicts t u) fpr) ≡ map scoped_edge
      (rows_into (record_of others other t u) fpr)
  rows_agree fpr agree =
      both fpr agree (λ x y. map scoped_edge x.rows ≡ map scoped_edge y.rows) refl (λ c said.
      scoped_kept verdicts certs t u c (edges_of verdicts c t)
      ∙ ap (λ (es : List EdgeFacts). map (scoped_by c.user_ids u) es) (edges_same verdicts other c t said)
      ∙ sym (scoped_kept other others t u c (edges_of other c t)))

  place_agrees : (fpr : Fpr) → AgreeAt certs verdicts others other fpr →
      (entry_at (record_of certs verdicts t u) fpr).place ≡ (entry_at (record_of others other t u) fpr).place
  place_agrees fpr agree = both fpr agree (λ x y. x.place ≡ y.place) refl (λ c said. refl)

  in_order_agrees : (fpr : Fpr) → AgreeAt certs verdicts others other fpr →
      (entry_at (record_of certs verdicts t u) fpr).in_order ≡ (entry_at (record_of others other t u) fpr).in_order
  in_order_agrees fpr agree = both fpr agree (λ x y. x.in_order ≡ y.in_order) refl
      (λ c said. in_order_same verdicts other c t (is_user_id u) said)

  usable_same : (issuer : Fpr) (made : ℕ) → AgreeAt certs verdicts others other issuer →
      is_usable_by verdicts certs t issuer made ≡ is_usable_by other others t issuer made
  usable_same issuer made agree = by (lookup (is_fpr issuer) certs) refl
    where
      by : (found : Option Certificate) → lookup (is_fpr issuer) certs ≡ found →
          is_usable_by verdicts certs t issuer made ≡ is_usable_by other others t issuer made
      by None e =
          ap (λ (o : Option Certificate). option_map_or (λ (c : Certificate). is_usable (standing_of verdicts c t) made)
          o false) e
          ∙ sym (ap (λ (o : Option Certificate). option_map_or (λ (c : Certificate). is_usable (standing_of other c t)
          made) o false) (sym agree.same ∙ e))
      by (Some c) e =
          ap (λ (o : Option Certificate). option_map_or (λ (x : Certificate). is_usable (standing_of verdicts x t) made)
          o false) e
          ∙ ap (λ s. is_usable s made) (standing_same verdicts other c t (agree.said c e))
          ∙ sym (ap (λ (o : Option Certificate). option_map_or (λ (x : Certificate). is_usable (standing_of other x t)
          made) o false) (sym agree.same ∙ e))

  usable_agrees : (fpr : Fpr) (x y : Row) → Has (rows_into (record_of certs verdicts t u) fpr) x →
      Has (rows_into (record_of others other t u) fpr) y → x.edge ≡ y.edge
      → AgreeAt certs verdicts others other x.edge.issuer → x.usable ≡ y.usable
  usable_agrees fpr x y h k e agree =
      let a = row_told certs verdicts t u fpr x h in
      let b = row_told others other t u fpr y k in
      ap (λ (r : Row). r.usable) a.2 ∙ usable_same x.edge.issuer x.edge.made agree
      ∙ ap (λ (f : EdgeFacts). is_usable_by other others t f.issuer f.made) e ∙ sym (ap (λ (r : Row). r.usable) b.2)

  pub records_agree : (roots amounts : List (Fpr × ℕ)) (target : Fpr) (set : List Fpr) →
      AgreeOn certs verdicts others other set → SameAmounts roots amounts set
      → Agree (asks (record_of certs verdicts t u) roots target) (asks (record_of others other t u) amounts target) set
  records_agree roots amounts target set agree same = record {
    target = refl;
    rows = λ fpr h. rows_agree fpr (agree fpr h);
    place = λ fpr h. place_agrees fpr (agree fpr h);
    in_order = λ fpr h. in_order_agrees fpr (agree fpr h);
    usable = λ fpr h x y a b e issuer. usable_agrees fpr x y a b e (agree x.edge.issuer issuer);
    roots = same;
  }
