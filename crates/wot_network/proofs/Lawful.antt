-- The rows of certificates under their own fingerprints are sorted, by what the edges of each are.
use Rattle.std.proofs.Common.{◌≡◌, ◌∙◌, ℕ, List, [], ◌∷◌, map, sym, subst}
use Rattle.std.specs.List.{AllByRecursion}
use Rattle.wot_types.specs.declared.fpr.Fpr.{Fpr}
use Rattle.wot_key.specs.Key.{fpr_of}
use Rattle.wot_verdict.specs.Verdicts.{Entries}
use Rattle.wot_component.specs.Certificate.{Certificate}
use Rattle.wot_edge.specs.Lawful.{AreEntries, AreRows}
use Rattle.wot_keyring_spec.specs.Keyring.{Certificates}
use Rattle.wot_live.specs.Rows.{edges_of, AreInto}
use Rattle.wot_live.specs.Rows as live
use Rattle.wot_standing.specs.Standing.{own}
use Rattle.wot_network.specs.Records.{entry_of, record_of}
use Rattle.wot_network.proofs.LookupsAgree.{edges_kept}

module _
    (rows : (verdicts : Entries) (c : Certificate) (t : ℕ) → live.AreRows verdicts c t (edges_of verdicts c t))
    (into : (verdicts : Entries) (c : Certificate) (t : ℕ) → AreInto (own c) (edges_of verdicts c t))
    (certs : Certificates) (verdicts : Entries) (t : ℕ) (u : List ℕ) where
  entries_of : (all : Certificates) → AllByRecursion (λ (e : Fpr × Certificate). e.0 ≡ fpr_of e.1.key) all →
      AreEntries (map (λ (e : Fpr × Certificate). (e.0, entry_of verdicts certs t u e.1)) all)
  entries_of [] named = tt
  entries_of (e ∷ all) named = (
    subst (AreRows e.0) (sym (edges_kept certs verdicts t u e.1 (edges_of verdicts e.1 t)))
        (record { into = λ edge h. into verdicts e.1 t edge h ∙ sym named.0; order = (rows verdicts e.1 t).sorted }),
    entries_of all named.1,
  )

  pub are_entries : AllByRecursion (λ (e : Fpr × Certificate). e.0 ≡ fpr_of e.1.key) certs →
      AreEntries (record_of certs verdicts t u)
  are_entries named = entries_of certs named
