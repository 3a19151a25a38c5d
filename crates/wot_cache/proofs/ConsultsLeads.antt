-- After a question, the answers that are kept for its view depend only on fingerprints that led to their targets.
use Rattle.std.proofs.Common.{◌≡◌, inl, inr, ℕ, List, [], ◌∷◌, Option, Some, None, refl, subst}
use Rattle.std.specs.Prelude.{IsSomeAnd}
use Rattle.std.specs.List.{AllByRecursion}
use Rattle.std.specs.Map.{lookup}
use Rattle.std.specs.Option.{option_map_or}
use Rattle.wot_keyring_spec.specs.Keyring.{Keyring}
use Rattle.wot_answers.specs.declared.answers.KeptAnswer.{KeptAnswer}
use Rattle.wot_answers.specs.declared.parts.Parts.{Parts}
use Rattle.wot_answers.specs.Answers.{AllAnswers, AreAllRight, AreRight, Entries, IsFoundBy, OfView, OthersKept}
use Rattle.wot_answers.specs.Answers.{RestsOnLeads, WereKeptOr, answers_for}
use Rattle.wot_types.specs.declared.fpr.Fpr.{Fpr}
use Rattle.wot_answers.specs.Looked.{Amounts}
use Rattle.wot_cache.specs.declared.view.View.{View}
use Rattle.wot_cache.specs.Consulted.{ConsultsLeads, IsFoundFrom}
use Rattle.wot_cache.specs.Inside.{Networks}
use Rattle.wot_cache.specs.Marks.{shown}
use Rattle.wot_cache.specs.State.{Engine}
use Rattle.wot_cache.specs.Revisions.{Revisions}
use Rattle.wot_cache.specs.Parts.{ArePartsOf}
use Rattle.wot_cache.specs.Views.{Views, is_name, view_at}
use Rattle.wot_answers.specs.RightLaws.{right_found}
use Rattle.wot_answers.proofs.WereKept.{kept_itself, kept_or}
use Rattle.wot_cache.proofs.PartsAnswer.{AreSeen}

abbrev RestIn : Keyring → Entries → Type 0
RestIn k entries = AllByRecursion (λ (e : ℕ × KeptAnswer). RestsOnLeads k e.1) entries

right_leads : (k : Keyring) (roots : Amounts) (revision : ℕ) (entries : Entries) → AreRight k roots revision entries
    → RestIn k entries
right_leads k roots revision [] all = tt
right_leads k roots revision (e ∷ entries) all = (all.0.0.leads, right_leads k roots revision entries all.1)

pub leads_of : (k : Keyring) (answers : AllAnswers) (name : List ℕ) → AreAllRight k answers
    → RestIn k (option_map_or (λ (of_view : OfView). of_view.entries) (lookup (is_name name) answers) [])
leads_of k answers name all = by (lookup (is_name name) answers) refl
  where
    by : (o : Option OfView) → lookup (is_name name) answers ≡ o
        → RestIn k (option_map_or (λ (of_view : OfView). of_view.entries) o [])
    by None e = tt
    by (Some v) e = right_leads k v.roots v.revision v.entries (right_found k answers name v all e).each

-- what was found over the parts that a view shows was found from the view
pub found_seen : (engine : Engine) (name : List ℕ) (p : Parts) (target : Fpr) (wanted : ℕ) (uid : List ℕ)
    → AreSeen engine name p → (old new : Entries) → WereKeptOr (IsFoundBy p.keyring.now target wanted uid p.t) old new
    → WereKeptOr (IsFoundFrom engine name target wanted uid) old new
found_seen engine name p target wanted uid seen old new kept key a e = elim (kept key a e) [
  | inl was ↦ inl was
  | inr found ↦ inr (by found (view_at engine.views name) seen)
]
  where
    by : IsFoundBy p.keyring.now target wanted uid p.t a → (o : Option View)
        → IsSomeAnd o (λ (v : View). ArePartsOf engine.keyring v p)
        → IsSomeAnd o (λ (v : View). IsFoundBy engine.keyring target wanted uid v.time a)
    by found None are = absurd are
    by found (Some v) are =
        subst (λ (k : Keyring). IsFoundBy k target wanted uid v.time a) are.keyring
        (subst (λ (t : ℕ). IsFoundBy p.keyring.now target wanted uid t a) are.time found)

-- nothing was asked
pub kept_all : (engine : Engine) (name : List ℕ) (target : Fpr) (wanted : ℕ) (uid : List ℕ) (answers : AllAnswers)
    → WereKeptOr (IsFoundFrom engine name target wanted uid) (answers_for name answers) (answers_for name answers)
kept_all engine name target wanted uid answers =
    let entries = answers_for name answers in
    kept_or (IsFoundFrom engine name target wanted uid) entries entries (kept_itself entries)

pub others_themselves : (name : List ℕ) (answers : AllAnswers) → OthersKept name answers answers
others_themselves name answers other apart = refl

-- the engine after a question in which `after` is kept
pub consulted : {revisions : Revisions} (engine : Engine) (k new : Keyring) (views more : Views) (old rest : Networks)
    (before after : AllAnswers) (name : List ℕ) (target : Fpr) (wanted : ℕ) (uid : List ℕ)
    → shown k views old revisions before ≡ engine → AreAllRight new after
    → WereKeptOr (IsFoundFrom engine name target wanted uid) (answers_for name before) (answers_for name after)
    → OthersKept name before after → ConsultsLeads name target wanted uid engine (shown new more rest revisions after)
consulted engine k new views more old rest before after name target wanted uid seen right found others = record {
  found = subst (λ (e : Engine). WereKeptOr (IsFoundFrom engine name target wanted uid) (answers_for name e.answers)
      (answers_for name after)) seen found;
  leads = leads_of new after name right;
  others = subst (λ (e : Engine). OthersKept name e.answers after) seen others;
}
