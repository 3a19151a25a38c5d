-- An explanation has the same reply in states that hold the same certificate and the same issuers of its signatures.
use Rattle.std.proofs.Common.{◌≡◌, ℕ, List, Option, Some, None, refl, ap, ◌∙◌}
use Rattle.wot_types.specs.declared.fpr.Fpr.{Fpr}
use Rattle.wot_types.specs.PlainLaws.{all_then}
use Rattle.wot_policy.specs.declared.rows.PolicyRows.{PolicyRows}
use Rattle.wot_script.specs.declared.command.Command.TheVariants.{Explain}
use Rattle.wot_script.specs.declared.reply.Reply.{Reply}
use Rattle.wot_component.specs.Certificate.{Certificate, unmarked}
use Rattle.wot_component.specs.Counts.{all_sigs}
use Rattle.wot_component.specs.Judged.{judged}
use Rattle.wot_keyring.specs.Dump.{judged_by}
use Rattle.wot_network.specs.Local.{AgreeAt}
use Rattle.wot_network.specs.Records.{AreOwn}
use Rattle.wot_explain.specs.Around.{AgreeAround, AgreeAtIssuer, AreExplainedAlike}
use Rattle.wot_cache.specs.declared.view.View.{View}
use Rattle.wot_cache.specs.State.{State}
use Rattle.wot_cache.specs.Views.{view_at}
use Rattle.wot_plain.specs.Classes.{class_of}
use Rattle.wot_laws.specs.OneLine.{OneOutcome}
use Rattle.wot_plain.specs.LineStep.{StateStep, LineStep}
use Rattle.wot_plain.specs.Listing.{explained, explained_from}
use Rattle.wot_plain.specs.Served.{Served}
use Rattle.wot_laws.specs.Slices.{AreAlikeAround, HoldAlike, HoldAlikeAtIssuer, IsExplaining}
use Rattle.wot_plain.specs.Session.{Session}
use Rattle.wot_laws.proofs.Alike.{step_as}
use Rattle.wot_laws.proofs.Slices.{same_at}

module _ (local : AreExplainedAlike) (rows : PolicyRows) (forgets : (c : Certificate) →
    judged rows (unmarked c) ≡ judged rows c)
    (name : List ℕ) (target : Fpr) (one other : State) (judged_one : judged_by rows one.held ≡ one.held)
    (judged_other : judged_by rows other.held ≡ other.held) (alike : AreAlikeAround name target one other) where
  abbrev Agrees : Fpr → Type 0
  Agrees fpr = AgreeAt one.held.certs one.held.verdicts other.held.certs other.held.verdicts fpr

  agrees : (fpr : Fpr) → HoldAlike one.held other.held fpr → Agrees fpr
  agrees fpr a = record {
    same = same_at rows forgets one.held other.held judged_one judged_other fpr a;
    said = a.said;
  }

  around : AgreeAround one.held.certs one.held.verdicts other.held.certs other.held.verdicts target
  around = record {
    here = agrees target alike.here;
    issuers = λ c found.
        all_then (HoldAlikeAtIssuer one.held other.held)
        (AgreeAtIssuer one.held.certs one.held.verdicts other.held.certs other.held.verdicts)
        (λ s h issuer good. agrees issuer (h issuer good)) (all_sigs c) (alike.issuers c found);
  }

  from_view : (shown : Option View) (uid : List ℕ) → explained_from one shown target uid ≡ explained_from other shown
      target uid
  from_view None uid = refl
  from_view (Some view) uid =
      ap explained (local one.held.certs one.held.verdicts other.held.certs other.held.verdicts view.time target uid
      around)

  explained_same : (uid : List ℕ) → explained_from one (view_at one.views name) target uid ≡ explained_from other
      (view_at other.views name) target uid
  explained_same uid =
      from_view (view_at one.views name) uid
      ∙ ap (λ (shown : Option View). explained_from other shown target uid) alike.view

  pub does_same : (uid : List ℕ) (given told : Served) (reply : Reply) (new : State) →
      StateStep rows one (class_of (Explain name target uid)) given reply new
      → StateStep rows other (class_of (Explain name target uid)) told reply other
  does_same uid given told reply new does = (does.0 ∙ explained_same uid, refl)

pub replied_same : AreExplainedAlike → (rows : PolicyRows) → OneOutcome rows →
    (forgets : (c : Certificate) → judged rows (unmarked c) ≡ judged rows c)
    → (name : List ℕ) (target : Fpr) (one other : Session) → AreOwn other.state.held.certs
    → judged_by rows one.state.held ≡ one.state.held → judged_by rows other.state.held ≡ other.state.held →
    AreAlikeAround name target one.state other.state
    → (line : List ℕ) → IsExplaining name target line → (given told : Served) (reply second : Option Reply)
    (new third : Session)
    → LineStep rows one line given reply new → LineStep rows other line told second third → reply ≡ second
replied_same local rows law forgets name target one other can p q alike line asks given told reply second new third step
    last =
    let does = does_same local rows forgets name target one.state other.state p q alike asks.uid given told in
    let there = step_as rows one other name line given told reply new (record {
      command = Explain name target asks.uid;
      asks = refl;
      read = asks.read;
    }) does step in
    (law.one other line told reply second other third can there last).0
