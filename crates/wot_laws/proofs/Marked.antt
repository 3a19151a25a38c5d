-- Certificates whose signatures have the marks that the policy rows give them.
use Rattle.std.proofs.Common.{◌≡◌, ℕ, Bool, true, false, cond, List, [], ◌∷◌, Some, map, refl, sym, ap, ◌∙◌}
use Rattle.std.specs.declared.cmp.Ordering.TheVariants.{Less, Equal, Greater}
use Rattle.std.specs.Ordering.{match_ordering}
use Rattle.std.specs.List.{AllByRecursion}
use Rattle.std.specs.BTreeMap.{insert_entry}
use Rattle.std.specs.Map.{lookup, remove_entry}
use Rattle.wot_types.specs.declared.fpr.Fpr.{Fpr}
use Rattle.wot_types.specs.Fpr.{fpr_cmp}
use Rattle.wot_key.specs.Key.{fpr_of}
use Rattle.wot_policy.specs.declared.rows.PolicyRows.{PolicyRows}
use Rattle.wot_component.specs.Certificate.{Certificate, unite, unmarked}
use Rattle.wot_component.specs.Judged.{judged}
use Rattle.wot_keyring_spec.specs.Keyring.{Certificates, is_fpr}
use Rattle.wot_keyring.specs.Dump.{judged_anew, judged_by}
use Rattle.wot_keyring_spec.specs.Import.{spelled_in, merged_into, with_cert, with_certs}
use Rattle.wot_script.specs.declared.reply.Reply.{Reply}
use Rattle.wot_certd.specs.World.{World}
use Rattle.wot_plain.specs.Scene.{Scene, opening}
use Rattle.wot_plain.specs.Transcript.{Run}
use Rattle.wot_laws.proofs.Stays.{all_without, run_stays}

-- judging it again changes nothing
abbrev IsMarked : PolicyRows → Certificate → Type 0
IsMarked rows c = judged rows c ≡ c

abbrev AreMarked : PolicyRows → Certificates → Type 0
AreMarked rows certs = AllByRecursion (λ (e : Fpr × Certificate). IsMarked rows e.1) certs

marked_anew : (rows : PolicyRows) (certs : Certificates) → AreMarked rows certs → map (judged_anew rows) certs ≡ certs
marked_anew rows [] all = refl
marked_anew rows (e ∷ es) all =
    let Entry : Certificate → Fpr × Certificate = λ c. (e.0, c) in
    ap (λ (x : Fpr × Certificate). x ∷ map (judged_anew rows) es) (ap Entry all.0) ∙ ap (λ (xs : Certificates). e ∷ xs)
    (marked_anew rows es all.1)

inserted : (rows : PolicyRows) (certs : Certificates) (fpr : Fpr) (c : Certificate) → IsMarked rows c →
    AreMarked rows certs → AreMarked rows (insert_entry fpr_cmp certs fpr c)
inserted rows [] fpr c m all = (m, tt)
inserted rows (x ∷ xs) fpr c m all =
    elim (fpr_cmp fpr x.0) as (λ o. AreMarked rows (match_ordering o ((fpr, c) ∷ x ∷ xs) ((x.0, c) ∷ xs)
    (x ∷ insert_entry fpr_cmp xs fpr c))) [
      | Less ↦ (m, all)
      | Equal ↦ (m, all.1)
      | Greater ↦ (all.0, inserted rows xs fpr c m all.1)
    ]

module _
    (rows : PolicyRows)
    (forgets : (c : Certificate) → judged rows (unmarked c) ≡ judged rows c)
    (forgotten : (c : Certificate) → unmarked (judged rows c) ≡ unmarked c)
    (unites : (a b : Certificate) → judged rows (unite a b) ≡ unite (judged rows a) (judged rows b))
  where
    judged_twice : (c : Certificate) → IsMarked rows (judged rows c)
    judged_twice c = sym (forgets (judged rows c)) ∙ ap (judged rows) (forgotten c) ∙ forgets c

    united_marked : (a b : Certificate) → IsMarked rows a → IsMarked rows b → IsMarked rows (unite a b)
    united_marked a b p q = unites a b ∙ ap (λ (x : Certificate). unite x (judged rows b)) p ∙ ap (unite a) q

    with_kept : (test : Fpr → Bool) (certs : Certificates) (c : Certificate) → AreMarked rows certs → IsMarked rows c →
        IsMarked rows (merged_into (lookup test certs) c)
    with_kept test [] c all m = m
    with_kept test (e ∷ es) c all m =
        elim (test e.0) as (λ b. IsMarked rows (merged_into (cond b (Some e.1) (lookup test es)) c)) [
          | true ↦ united_marked e.1 c all.0 m
          | false ↦ with_kept test es c all.1 m
        ]

    with_one : (certs : Certificates) (c : Certificate) → AreMarked rows certs → AreMarked rows (with_cert rows certs c)
    with_one certs c all =
        inserted rows certs (fpr_of c.key) (merged_into (lookup (is_fpr (fpr_of c.key)) certs) (judged rows c))
        (with_kept (is_fpr (fpr_of c.key)) certs (judged rows c) all (judged_twice c)) all

    with_all : (certs : Certificates) (cs : List Certificate) → AreMarked rows certs →
        AreMarked rows (with_certs rows certs cs)
    with_all certs [] all = all
    with_all certs (c ∷ cs) all = with_all (with_cert rows certs c) cs (with_one certs c all)

    with_spelled : (certs : Certificates) (octets : List ℕ) → AreMarked rows certs →
        AreMarked rows (with_certs rows certs (spelled_in octets))
    with_spelled certs octets all = with_all certs (spelled_in octets) all

    without : (fpr : Fpr) (certs : Certificates) → AreMarked rows certs →
        AreMarked rows (remove_entry (is_fpr fpr) certs)
    without fpr certs all = all_without (λ (e : Fpr × Certificate). IsMarked rows e.1) (is_fpr fpr) certs all

    pub reached_marked : (world : World) (lines : List (List ℕ)) (replies : List Reply) (last : Scene) →
        Run rows (opening world) lines replies last → judged_by rows last.whole.state.held ≡ last.whole.state.held
    reached_marked world lines replies last run =
        let all : AreMarked rows last.whole.state.held.certs = run_stays rows (AreMarked rows) with_spelled without
        lines (opening world) replies last tt run in
        ap (λ (certs : Certificates). record last.whole.state.held { certs = certs })
        (marked_anew rows last.whole.state.held.certs all)
