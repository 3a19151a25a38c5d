-- What a record says of the place of a user ID.
use Rattle.std.proofs.Common.{◌≡◌, ◌≤◌, ℕ, zero, suc, List, [], ◌∷◌, Option, Some, None, refl, sym, ap, subst, ◌∙◌}
use Rattle.std.specs.List.{AllByRecursion, slice_get}
use Rattle.std.specs.Map.{lookup}
use Rattle.std.specs.Option.{option_and_then, option_map, unwrap_or}
use Rattle.std.proofs.lemmas.Map.Made.{lookup-map_values}
use Rattle.wot_types.specs.declared.fpr.Fpr.{Fpr}
use Rattle.wot_verdict.specs.Verdicts.{Entries}
use Rattle.wot_component.specs.Certificate.{Component, Certificate}
use Rattle.wot_component.specs.Text.{size_of}
use Rattle.wot_edge.specs.Record.{Entry, Record, blank, entry_at}
use Rattle.wot_keyring_spec.specs.declared.kept.Kept.{Kept}
use Rattle.wot_keyring_spec.specs.Keyring.{Keyring, Certificates, is_fpr, cert_at, certificates_in}
use Rattle.wot_live.specs.Found.{HasFew}
use Rattle.wot_network.specs.Records.{entry_of, user_id_place, record_of}
use Rattle.wot_standing.specs.Standing.{standing_of}
use Rattle.wot_standing.specs.declared.status.Standing.{Standing}
use Rattle.wot_explain.specs.Explaining.{explained_on, explained_at, explanation}
use Rattle.wot_explain.specs.Reasons.{standing_by}
use Rattle.wot_explain.specs.Usable.{AreRoadsOf}
use Rattle.wot_explain.specs.declared.explained.Explained.{Explained}
use Rattle.wot_explain.proofs.Few.{sigs_are_few}

-- what is kept under a fingerprint, without its stamp
pub kept_at : (k : Keyring) (fpr : Fpr) → lookup (is_fpr fpr) (certificates_in k) ≡ cert_at k fpr
kept_at k fpr = lookup-map_values (λ (x : Kept). x.cert) (is_fpr fpr) k.certs

-- the place of a user ID
abbrev pub placed : List ℕ → Option Certificate → Option ℕ
placed u found = option_and_then (λ (c : Certificate). user_id_place u c.user_ids) found

pub place_told : (certs : Certificates) (verdicts : Entries) (t : ℕ) (u : List ℕ) (fpr : Fpr) →
    (entry_at (record_of certs verdicts t u) fpr).place ≡ placed u (lookup (is_fpr fpr) certs)
place_told certs verdicts t u fpr =
    ap (λ (found : Option Entry). (unwrap_or found blank).place) (lookup-map_values (entry_of verdicts certs t u)
    (is_fpr fpr) certs)
    ∙ by (lookup (is_fpr fpr) certs)
  where
    by : (found : Option Certificate) →
        (unwrap_or (option_map (entry_of verdicts certs t u) found) blank).place ≡ placed u found
    by None = refl
    by (Some c) = refl

-- ---- standings

pub standing_some : (k : Keyring) (t : ℕ) (fpr : Fpr) (c : Certificate) (i : Standing) → Some c ≡ cert_at k fpr →
    i ≡ standing_of k.verdicts c t → Some i ≡ standing_by k.verdicts (certificates_in k) t fpr
standing_some k t fpr c i e h =
    ap Some h ∙ ap (λ (o : Option Certificate). option_map (λ (x : Certificate). standing_of k.verdicts x t) o)
    (e ∙ sym (kept_at k fpr))

pub standing_none : (k : Keyring) (t : ℕ) (fpr : Fpr) → None ≡ cert_at k fpr →
    None ≡ standing_by k.verdicts (certificates_in k) t fpr
standing_none k t fpr e = ap (λ (o : Option Certificate). option_map (λ (x : Certificate). standing_of k.verdicts x t)
    o) (e ∙ sym (kept_at k fpr))

-- ---- explaining

module _ (k : Keyring) (t : ℕ) (fpr : Fpr) (u : List ℕ) where
  -- the explanation of a certificate that is found
  abbrev network : Option Certificate → Option Explained
  network found = option_and_then (λ (c : Certificate). option_and_then (explained_at k.verdicts (certificates_in k) t c)
      (user_id_place u c.user_ids)) found

  told_here : explanation (certificates_in k) k.verdicts t fpr u ≡ network (cert_at k fpr)
  told_here = ap network (kept_at k fpr)

  no_place : (found : Option Certificate) → placed u found ≡ None → network found ≡ None
  no_place None e = refl
  no_place (Some c) e = ap (option_and_then (explained_at k.verdicts (certificates_in k) t c)) e

  pub place_here : (roads : List ℕ → Record) → AreRoadsOf roads k t → (place : Option ℕ) →
      place ≡ (entry_at (roads u) fpr).place → placed u (cert_at k fpr) ≡ place
  place_here roads present place e =
      sym (e ∙ ap (λ (r : Record). (entry_at r fpr).place) (present u) ∙ place_told (certificates_in k) k.verdicts t u
      fpr ∙ ap (placed u) (kept_at k fpr))

  -- the user ID isn't there
  pub not_placed : (roads : List ℕ → Record) → AreRoadsOf roads k t → None ≡ (entry_at (roads u) fpr).place →
      explanation (certificates_in k) k.verdicts t fpr u ≡ None
  not_placed roads present e = told_here ∙ no_place (cert_at k fpr) (place_here roads present None e)

  -- the certificate isn't there
  pub not_kept : None ≡ cert_at k fpr → explanation (certificates_in k) k.verdicts t fpr u ≡ None
  not_kept e = told_here ∙ ap network (sym e)

  told_at : (roads : List ℕ → Record) → AreRoadsOf roads k t → (place : ℕ) (c : Certificate) →
      Some place ≡ (entry_at (roads u) fpr).place → Some c ≡ cert_at k fpr
      → explanation (certificates_in k) k.verdicts t fpr u ≡ explained_at k.verdicts (certificates_in k) t c place
  told_at roads present place c e f =
      told_here ∙ ap network (sym f)
      ∙ ap (option_and_then (explained_at k.verdicts (certificates_in k) t c)) (ap (placed u) f
      ∙ place_here roads present (Some place) e)

  pub nothing_at : (roads : List ℕ → Record) → AreRoadsOf roads k t → (place : ℕ) (c : Certificate) →
      Some place ≡ (entry_at (roads u) fpr).place → Some c ≡ cert_at k fpr
      → (ids : List Component) → ids ≡ c.user_ids → None ≡ slice_get ids place →
      explanation (certificates_in k) k.verdicts t fpr u ≡ None
  nothing_at roads present place c e f ids same g =
      told_at roads present place c e f
      ∙ ap (λ (o : Option Component). option_map (explained_on k.verdicts (certificates_in k) t c place) o)
      (ap (λ (ps : List Component). slice_get ps place) (sym same) ∙ sym g)

  pub all_at : (roads : List ℕ → Record) → AreRoadsOf roads k t → (place : ℕ) (c : Certificate) →
      Some place ≡ (entry_at (roads u) fpr).place → Some c ≡ cert_at k fpr
      → (ids : List Component) → ids ≡ c.user_ids → (uid : Component) → Some uid ≡ slice_get ids place
      → (made : Explained) → made ≡ explained_on k.verdicts (certificates_in k) t c place uid →
      explanation (certificates_in k) k.verdicts t fpr u ≡ Some made
  all_at roads present place c e f ids same uid g made h =
      told_at roads present place c e f
      ∙ ap (λ (o : Option Component). option_map (explained_on k.verdicts (certificates_in k) t c place) o)
      (ap (λ (ps : List Component). slice_get ps place) (sym same) ∙ sym g)
      ∙ ap Some (sym h)

-- each user ID has few signatures
pub few_at : (c : Certificate) → size_of c ≤ 4194304 → (ids : List Component) → ids ≡ c.user_ids →
    (place : ℕ) (uid : Component) → Some uid ≡ slice_get ids place → HasFew uid
few_at c small ids same place uid e = at ids (subst (AllByRecursion HasFew) (sym same) (sigs_are_few c small)) place e
  where
    at : (ps : List Component) → AllByRecursion HasFew ps → (n : ℕ) → Some uid ≡ slice_get ps n → HasFew uid
    at [] h n e = absurd cc
    at (p ∷ ps) h zero e = let same : uid ≡ p = cc in subst HasFew (sym same) h.0
    at (p ∷ ps) h (suc n) e = at ps h.1 n e
