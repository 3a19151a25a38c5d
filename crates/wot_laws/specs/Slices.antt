-- The part of a state that determines the answers about one target. A service that keeps its certificates in a database
-- loads only this part into an engine, and gets the replies of an engine that holds everything. It uses the slices
-- of wot_network (certificates and verdicts) and of wot_auth (edges).
use Rattle.std.specs.Prelude.{◌≡◌, ◌↔◌, ℕ, List, ◌∷◌, Some}
use Rattle.std.specs.List.{AllByRecursion}
use Rattle.std.specs.Option.{option_map}
use Rattle.wot_types.specs.declared.fpr.Fpr.{Fpr}
use Rattle.wot_policy.specs.declared.rows.PolicyRows.{PolicyRows}
use Rattle.wot_script.specs.declared.command.Command.TheVariants.{Ask, Explain}
use Rattle.wot_script.specs.Grammar.{command_of}
use Rattle.wot_verdict.specs.Verdicts.{verdict_at}
use Rattle.wot_component.specs.Certificate.{Certificate, Signature, unmarked}
use Rattle.wot_component.specs.Counts.{all_sigs}
use Rattle.wot_cert.specs.Issuer.{good_by}
use Rattle.wot_edge.specs.declared.path.Path.{Path}
use Rattle.wot_edge.specs.Answer.{IsAnswer}
use Rattle.wot_edge.specs.Record.{Has}
use Rattle.wot_keyring_spec.specs.Held.{Held, cert_in}
use Rattle.wot_keyring_spec.specs.Later.{SaysSame}
use Rattle.wot_network.specs.Certified.{IsSlice}
use Rattle.wot_cache.specs.declared.view.View.{View}
use Rattle.wot_cache.specs.Question.{question_in}
use Rattle.wot_cache.specs.State.{State}
use Rattle.wot_cache.specs.Views.{view_at}
use Rattle.wot_laws.specs.Depends.{AreRepliesAlike, IsReached}
use Rattle.wot_plain.specs.Session.{Session}

-- Both hold the same certificate under a fingerprint apart from policy marks, or none, and have the same verdicts on
-- its signatures.
pub record HoldAlike (one other : Held) (fpr : Fpr) : Type 0 where
  pub same : option_map unmarked (cert_in one fpr) ≡ option_map unmarked (cert_in other fpr)
  pub said : (c : Certificate) → cert_in one fpr ≡ Some c
      → AllByRecursion (SaysSame one.verdicts other.verdicts) (all_sigs c)

-- a set that is a slice of both from the view's roots, at whose members and at the target both hold the same
pub record SharesSlice (view : View) (target : Fpr) (one other : Held) (set : List Fpr) : Type 0 where
  pub first : IsSlice one.certs one.verdicts view.roots set
  pub second : IsSlice other.certs other.verdicts view.roots set
  pub held : (fpr : Fpr) → Has (target ∷ set) fpr → HoldAlike one other fpr

-- Two states are alike for questions about a target from the named view: the view is open in neither, or it has the
-- same time and roots in both, and they share a slice. Everything else may differ.
pub record AreAlikeFor (name : List ℕ) (target : Fpr) (one other : State) : Type 0 where
  pub view : view_at one.views name ≡ view_at other.views name
  pub slice : (view : View) → view_at one.views name ≡ Some view
      → (set : List Fpr) × SharesSlice view target one.held other.held set

-- a line `ask` about the target from the named view
pub record IsQuestion (name : List ℕ) (target : Fpr) (line : List ℕ) : Type 0 where
  pub wanted : ℕ
  pub uid : List ℕ
  pub read : command_of line ≡ Some (Ask name target wanted uid)

-- The reply to `ask` depends on a slice only: whatever histories lead to two states that are alike for questions about
-- a target, each such question gets the same reply in both.
abbrev pub DoRepliesRestOnSlices : PolicyRows → Type 0
DoRepliesRestOnSlices rows =
    (name : List ℕ) (target : Fpr) (one other : Session) → IsReached rows one → IsReached rows other
    → AreAlikeFor name target one.state other.state
    → (line : List ℕ) → IsQuestion name target line → AreRepliesAlike rows one other line

-- The answer itself depends on a slice only, and so does the amount that `list` and `watch` report for a binding.
abbrev pub DoAnswersRestOnSlices : PolicyRows → Type 0
DoAnswersRestOnSlices rows =
    (name : List ℕ) (target : Fpr) (one other : Session) → IsReached rows one → IsReached rows other
    → AreAlikeFor name target one.state other.state
    → (view : View) → view_at one.state.views name ≡ Some view
    → (uid : List ℕ) (wanted : ℕ) (paths : List Path)
    → IsAnswer (question_in one.state view target uid) wanted paths
    ↔ IsAnswer (question_in other.state view target uid) wanted paths

-- ---- `explain`

-- both hold the same at the issuer of a signature whose verdict is good
abbrev pub HoldAlikeAtIssuer : Held → Held → Signature → Type 0
HoldAlikeAtIssuer one other s =
    (issuer : Fpr) → good_by (verdict_at one.verdicts s.number) ≡ Some issuer → HoldAlike one other issuer

-- Two states are alike for explanations of a certificate from the named view: the view has the same time and roots in
-- both or is open in neither, and they hold the same certificate and the same issuers of its signatures. Everything
-- else may differ.
pub record AreAlikeAround (name : List ℕ) (target : Fpr) (one other : State) : Type 0 where
  pub view : view_at one.views name ≡ view_at other.views name
  pub here : HoldAlike one.held other.held target
  pub issuers : (c : Certificate) → cert_in one.held target ≡ Some c
      → AllByRecursion (HoldAlikeAtIssuer one.held other.held) (all_sigs c)

-- a line `explain` about the certificate from the named view
pub record IsExplaining (name : List ℕ) (target : Fpr) (line : List ℕ) : Type 0 where
  pub uid : List ℕ
  pub read : command_of line ≡ Some (Explain name target uid)

-- The reply to `explain` depends only on the certificate and on the issuers of its signatures.
abbrev pub DoExplanationsRestOnIssuers : PolicyRows → Type 0
DoExplanationsRestOnIssuers rows =
    (name : List ℕ) (target : Fpr) (one other : Session) → IsReached rows one → IsReached rows other
    → AreAlikeAround name target one.state other.state
    → (line : List ℕ) → IsExplaining name target line → AreRepliesAlike rows one other line
