-- Look-ups in a network and its keyring return what the certification network says.
use Rattle.std.proofs.Common.{◌≡◌, inl, inr, ℕ, Bool, true, false, List, [], ◌∷◌, map, Option, Some, None, is_some}
use Rattle.std.proofs.Common.{refl, sym, ap, subst, ◌∙◌}
use Rattle.std.specs.Prelude.{not, ◌||◌}
use Rattle.std.specs.List.Sorted.{IsStrictlySortedBy}
use Rattle.std.specs.Map.{lookup}
use Rattle.std.specs.Option.{option_map, option_map_or, unwrap_or}
use Rattle.std.proofs.lemmas.Map.Made.{lookup-map_values}
use Rattle.wot_types.specs.declared.fpr.Fpr.{Fpr}
use Rattle.wot_verdict.specs.Verdicts.{Entries}
use Rattle.wot_component.specs.Certificate.{Certificate}
use Rattle.wot_edge.specs.declared.edge.EdgeFacts.{EdgeFacts}
use Rattle.wot_edge.specs.Order.{edge_cmp}
use Rattle.wot_edge.specs.Record.{Has, Row, Entry, blank, entry_at, rows_into, edges_into}
use Rattle.wot_keyring_spec.specs.declared.kept.Kept.{Kept}
use Rattle.wot_keyring_spec.specs.Keyring.{Keyring, Certificates, is_fpr, cert_at, certificates_in}
use Rattle.wot_keyring_spec.specs.Keyring as keyrings
use Rattle.wot_live.specs.Rows.{edges_of, revoked_of}
use Rattle.wot_standing.specs.Standing.{standing_of}
use Rattle.wot_standing.specs.declared.status.Standing.{Standing}
use Rattle.wot_standing.specs.Usable.{is_usable}
use Rattle.wot_scope.specs.Deciding.{scope_holds}
use Rattle.wot_signature.specs.Signature.{scopes_of}
use Rattle.wot_network.specs.Records.{row_of, entry_of, record_of, is_usable_by, is_in_scope, body_at}
use Rattle.wot_network.specs.Net.{Line, DescribesAt, line_at, Net, IsRight, Present, network_for}

-- ---- the keyring

pub kept_at : (k : Keyring) (fpr : Fpr) → lookup (is_fpr fpr) (certificates_in k) ≡ cert_at k fpr
kept_at k fpr = lookup-map_values (λ (x : Kept). x.cert) (is_fpr fpr) k.certs

-- ---- the edges of rows

module _ (certs : Certificates) (verdicts : Entries) (t : ℕ) where
  pub edges_kept : (u : List ℕ) (c : Certificate) (edges : List EdgeFacts) →
      map (λ (row : Row). row.edge) (map (row_of verdicts certs t u c) edges) ≡ edges
  edges_kept u c [] = refl
  edges_kept u c (edge ∷ edges) = ap (λ (rest : List EdgeFacts). edge ∷ rest) (edges_kept u c edges)

  row_kept : (u : List ℕ) (c : Certificate) (edges : List EdgeFacts) (row : Row) →
      Has (map (row_of verdicts certs t u c) edges) row → row ≡ row_of verdicts certs t u c row.edge
  row_kept u c [] row h = absurd h
  row_kept u c (edge ∷ edges) row (inl e) = e ∙ ap (λ (x : EdgeFacts). row_of verdicts certs t u c x)
      (sym (ap (λ (r : Row). r.edge) e))
  row_kept u c (edge ∷ edges) row (inr h) = row_kept u c edges row h

  -- ---- what is known of a fingerprint

  entry_told : (u : List ℕ) (fpr : Fpr) → entry_at (record_of certs verdicts t u) fpr ≡ unwrap_or
      (option_map (entry_of verdicts certs t u) (lookup (is_fpr fpr) certs)) blank
  entry_told u fpr = ap (λ (found : Option Entry). unwrap_or found blank)
      (lookup-map_values (entry_of verdicts certs t u) (is_fpr fpr) certs)

  pub entry_some : (u : List ℕ) (fpr : Fpr) (c : Certificate) → lookup (is_fpr fpr) certs ≡ Some c →
      entry_at (record_of certs verdicts t u) fpr ≡ entry_of verdicts certs t u c
  entry_some u fpr c e = entry_told u fpr
      ∙ ap (λ (found : Option Certificate). unwrap_or (option_map (entry_of verdicts certs t u) found) blank) e

  pub entry_none : (u : List ℕ) (fpr : Fpr) → lookup (is_fpr fpr) certs ≡ None →
      entry_at (record_of certs verdicts t u) fpr ≡ blank
  entry_none u fpr e = entry_told u fpr
      ∙ ap (λ (found : Option Certificate). unwrap_or (option_map (entry_of verdicts certs t u) found) blank) e

  pub edges_some : (u : List ℕ) (fpr : Fpr) (c : Certificate) → lookup (is_fpr fpr) certs ≡ Some c →
      edges_into (record_of certs verdicts t u) fpr ≡ edges_of verdicts c t
  edges_some u fpr c e = ap (λ (entry : Entry). map (λ (row : Row). row.edge) entry.rows) (entry_some u fpr c e)
      ∙ edges_kept u c (edges_of verdicts c t)

  pub edges_none : (u : List ℕ) (fpr : Fpr) → lookup (is_fpr fpr) certs ≡ None →
      edges_into (record_of certs verdicts t u) fpr ≡ []
  edges_none u fpr e = ap (λ (entry : Entry). map (λ (row : Row). row.edge) entry.rows) (entry_none u fpr e)

  -- each row is one of a kept certificate
  pub row_told : (u : List ℕ) (fpr : Fpr) (row : Row) → Has (rows_into (record_of certs verdicts t u) fpr) row →
      (c : Certificate) × (lookup (is_fpr fpr) certs ≡ Some c) × (row ≡ row_of verdicts certs t u c row.edge)
  row_told u fpr row h = by (lookup (is_fpr fpr) certs) refl
    where
      by : (found : Option Certificate) → lookup (is_fpr fpr) certs ≡ found →
          (c : Certificate) × (lookup (is_fpr fpr) certs ≡ Some c) × (row ≡ row_of verdicts certs t u c row.edge)
      by None e = absurd (subst (λ (entry : Entry). Has entry.rows row) (entry_none u fpr e) h)
      by (Some c) e = (
        c,
        e,
        row_kept u c (edges_of verdicts c t) row (subst (λ (entry : Entry). Has entry.rows row)
            (entry_some u fpr c e) h),
      )

pub none_in_order : IsStrictlySortedBy edge_cmp []
unfolding IsStrictlySortedBy
none_in_order = tt

-- ---- of a network that is right for a keyring, as its roads see both

module _ (n : Net) (k : Keyring) (right : IsRight n k n.time) where
  abbrev here : Present
  here = record { keyring = k; time = n.time }

  found_line : (fpr : Fpr) (line : Line) → line_at n.lines fpr ≡ Some line →
      (c : Certificate) × (lookup (is_fpr fpr) (certificates_in k) ≡ Some c) × DescribesAt k.verdicts c n.time line
  found_line fpr line e = by (keyrings.kept_at k fpr) refl
    where
      some_none : {o : Option Line} → o ≡ Some line → o ≡ None → ⊥
      some_none h j = cc

      by : (o : Option Kept) → keyrings.kept_at k fpr ≡ o →
          (c : Certificate) × (lookup (is_fpr fpr) (certificates_in k) ≡ Some c) × DescribesAt k.verdicts c n.time line
      by None f = absurd (some_none e (right.absent fpr f))
      by (Some x) f = (
        x.cert,
        kept_at k fpr ∙ ap (option_map (λ (y : Kept). y.cert)) f,
        (right.tells fpr x line f e).tells,
      )

  no_line : (fpr : Fpr) → line_at n.lines fpr ≡ None → lookup (is_fpr fpr) (certificates_in k) ≡ None
  no_line fpr e = by (keyrings.kept_at k fpr) refl
    where
      there : {o : Option Line} → is_some o ≡ true → o ≡ None → ⊥
      there h j = cc

      by : (o : Option Kept) → keyrings.kept_at k fpr ≡ o → lookup (is_fpr fpr) (certificates_in k) ≡ None
      by None f = kept_at k fpr ∙ ap (option_map (λ (y : Kept). y.cert)) f
      by (Some x) f = absurd (there (right.present fpr x f) e)

  pub rows_some : (u : List ℕ) (fpr : Fpr) (line : Line) → line_at n.lines fpr ≡ Some line →
      line.edges ≡ edges_into (network_for here u) fpr
  rows_some u fpr line e =
      let (c, f, s) = found_line fpr line e in
      sym s.edges ∙ sym (edges_some (certificates_in k) k.verdicts n.time u fpr c f)

  pub rows_none : (u : List ℕ) (fpr : Fpr) → line_at n.lines fpr ≡ None →
      ◌≡◌ {A = List EdgeFacts} [] (edges_into (network_for here u) fpr)
  rows_none u fpr e = sym (edges_none (certificates_in k) k.verdicts n.time u fpr (no_line fpr e))

  row_here : (u : List ℕ) (fpr : Fpr) (row : Row) → Has (rows_into (network_for here u) fpr) row
      → (c : Certificate) × (lookup (is_fpr fpr) (certificates_in k) ≡ Some c) × (row ≡ row_of k.verdicts
      (certificates_in k) n.time u c row.edge)
  row_here u fpr row h = row_told (certificates_in k) k.verdicts n.time u fpr row h

  usable_here : (u : List ℕ) (fpr : Fpr) (row : Row) (f : EdgeFacts) → Has (rows_into (network_for here u) fpr) row →
      row.edge ≡ f → row.usable ≡ is_usable_by k.verdicts (certificates_in k) n.time f.issuer f.made
  usable_here u fpr row f h e =
      let (c, g, s) = row_here u fpr row h in
      ap (λ (r : Row). r.usable) s ∙ ap (λ (x : EdgeFacts). is_usable_by k.verdicts (certificates_in k) n.time x.issuer
      x.made) e

  pub usable_some : (u : List ℕ) (fpr : Fpr) (row : Row) (f : EdgeFacts) (line : Line) →
      line_at n.lines f.issuer ≡ Some line
      → Has (rows_into (network_for here u) fpr) row → row.edge ≡ f → row.usable ≡ is_usable line.standing f.made
  usable_some u fpr row f line l h e =
      let (c, g, s) = found_line f.issuer line l in
      usable_here u fpr row f h e
      ∙ ap (λ (o : Option Certificate). option_map_or (λ (x : Certificate). is_usable (standing_of k.verdicts x n.time)
      f.made) o false) g
      ∙ ap (λ (x : Standing). is_usable x f.made) s.standing

  pub usable_none : (u : List ℕ) (fpr : Fpr) (row : Row) (f : EdgeFacts) → line_at n.lines f.issuer ≡ None →
      Has (rows_into (network_for here u) fpr) row → row.edge ≡ f → row.usable ≡ false
  usable_none u fpr row f l h e =
      usable_here u fpr row f h e
      ∙ ap (λ (o : Option Certificate). option_map_or (λ (x : Certificate). is_usable (standing_of k.verdicts x n.time)
      f.made) o false) (no_line f.issuer l)

  scope_here : (u : List ℕ) (fpr : Fpr) (row : Row) (f : EdgeFacts) → Has (rows_into (network_for here u) fpr) row →
      row.edge ≡ f
      → (c : Certificate) × (lookup (is_fpr fpr) (certificates_in k) ≡ Some c) × (row.scope ≡ is_in_scope c.user_ids u
      f)
  scope_here u fpr row f h e =
      let (c, g, s) = row_here u fpr row h in
      (c, g, ap (λ (r : Row). r.scope) s ∙ ap (λ (x : EdgeFacts). is_in_scope c.user_ids u x) e)

  -- an edge without a scope
  pub scope_open : (u : List ℕ) (row : Row) (f : EdgeFacts) → f.scoped ≡ false →
      Has (rows_into (network_for here u) f.target) row → row.edge ≡ f → row.scope ≡ true
  scope_open u row f plain h e =
      let (c, g, r) = scope_here u f.target row f h e in
      r ∙ ap (λ (b : Bool). not b || scope_holds (scopes_of (body_at c.user_ids f.uid f.sig)) u) plain

  pub scope_some : (u : List ℕ) (row : Row) (f : EdgeFacts) (c : Certificate) → cert_at k f.target ≡ Some c →
      Has (rows_into (network_for here u) f.target) row → row.edge ≡ f → row.scope ≡ is_in_scope c.user_ids u f
  scope_some u row f c at h e =
      let (d, g, r) = scope_here u f.target row f h e in
      let same : d ≡ c = (let q : Some d ≡ Some c = sym g ∙ kept_at k f.target ∙ at in cc) in
      r ∙ ap (λ (x : Certificate). is_in_scope x.user_ids u f) same

  pub scope_none : (u : List ℕ) (row : Row) (f : EdgeFacts) → cert_at k f.target ≡ None →
      Has (rows_into (network_for here u) f.target) row → ⊥
  scope_none u row f at h =
      let (d, g, r) = row_here u f.target row h in
      let q : Some d ≡ None = sym g ∙ kept_at k f.target ∙ at in cc

  pub absent : (u : List ℕ) (fpr : Fpr) → lookup (is_fpr fpr) (certificates_in k) ≡ None →
      blank ≡ entry_at (network_for here u) fpr
  absent u fpr e = sym (entry_none (certificates_in k) k.verdicts n.time u fpr e)

  pub absent_line : (u : List ℕ) (fpr : Fpr) → line_at n.lines fpr ≡ None → blank ≡ entry_at (network_for here u) fpr
  absent_line u fpr e = absent u fpr (no_line fpr e)

  pub absent_cert : (u : List ℕ) (fpr : Fpr) → cert_at k fpr ≡ None → blank ≡ entry_at (network_for here u) fpr
  absent_cert u fpr e = absent u fpr (kept_at k fpr ∙ e)

  pub present : (u : List ℕ) (fpr : Fpr) (c : Certificate) → cert_at k fpr ≡ Some c →
      entry_of k.verdicts (certificates_in k) n.time u c ≡ entry_at (network_for here u) fpr
  present u fpr c e = sym (entry_some (certificates_in k) k.verdicts n.time u fpr c (kept_at k fpr ∙ e))

  told_here : (fpr : Fpr) (line : Line) (c : Certificate) → line_at n.lines fpr ≡ Some line → cert_at k fpr ≡ Some c →
      DescribesAt k.verdicts c n.time line
  told_here fpr line c l e =
      let (d, g, s) = found_line fpr line l in
      let same : d ≡ c = (let q : Some d ≡ Some c = sym g ∙ kept_at k fpr ∙ e in cc) in
      subst (λ (x : Certificate). DescribesAt k.verdicts x n.time line) same s

  pub standing_here : (fpr : Fpr) (line : Line) (c : Certificate) → line_at n.lines fpr ≡ Some line →
      cert_at k fpr ≡ Some c → line.standing ≡ standing_of k.verdicts c n.time
  standing_here fpr line c l e = sym (told_here fpr line c l e).standing

  pub revoked_here : (fpr : Fpr) (line : Line) (c : Certificate) → line_at n.lines fpr ≡ Some line →
      cert_at k fpr ≡ Some c → line.revoked ≡ revoked_of k.verdicts c n.time
  revoked_here fpr line c l e = sym (told_here fpr line c l e).revoked
